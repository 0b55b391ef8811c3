-- Steps of a loop over the steps of a script.
use Rattle.std.proofs.Common.{rules, ◌≡◌, ◌<◌, ◌≤◌, ◌+◌, ◌&&◌, nat_lt, nat_le, ℕ, Bool, true, false, List, [], length, Option, Some, None, Result, refl, arith}
use Rattle.std.specs.Prelude.{IfSome}
use Rattle.std.specs.List.{flat_map}
use Rattle.of_types.specs.declared.numbers.TheConstants.{SHORTEST_FRAME, LONGEST_FRAME}
use Rattle.of_types.specs.declared.setup.Setup.{Setup}
use Rattle.journal.specs.Actors.{IsActor}
use Rattle.journal.specs.Turns.{turn_actor}
use Rattle.journal.specs.declared.journal.Actor.{Actor}
use Rattle.journal.specs.declared.journal.Actor.TheVariants as actor
use Rattle.journal.specs.declared.journal.Local.{Local}
use Rattle.journal.specs.declared.journal.Local.TheVariants as local
use Rattle.journal.specs.declared.journal.Turn.{Turn}
use Rattle.journal.specs.declared.journal.Turn.TheVariants as turn
use Rattle.scenario.specs.declared.limits.TheConstants.{MOST_TIMES, MOST_CHOICE, MOST_VIEW}
use Rattle.scenario.specs.declared.limits.Timed.{Timed}
use Rattle.scenario.specs.declared.scenario.Fault.{Fault}
use Rattle.scenario.specs.declared.scenario.FaultKind.TheVariants.{Limit}
use Rattle.scenario.specs.declared.scenario.FaultPlace.TheVariants.{Step}
use Rattle.scenario.specs.declared.written.WrittenStep.{WrittenStep}
use Rattle.scenario.specs.declared.written.WrittenStep.TheVariants.{Frame, Port, Tick, Draw, Lose, Suspect, Crash, RestartController, RestartSwitch}
use Rattle.scenario.specs.Faults.{each}
use Rattle.scenario.specs.Limits.{is_within, is_port_within, is_actor, may_restart, only_if, given, once, times_within, restart_within, turn_within, restarts_of, repeated_member}

-- the steps behind those that were done
abbrev pub rest_within : ℕ → List ℕ → List Timed → List WrittenStep → Result (List Timed) Fault
rest_within controllers ports = each Limit Step (λ before. turn_within controllers ports (restarts_of before))

-- some of what is written was done, and the rest is still to be done
pub record SoFar (controllers : ℕ) (ports : List ℕ) (written : List WrittenStep) (done : List Timed) (rest : List WrittenStep) (steps : List Turn) (restarts : List Actor) (place : ℕ) : Type 0 where
  pub so_far : rest_within controllers ports [] written ≡ rest_within controllers ports done rest
  pub steps_are : steps ≡ flat_map repeated_member done
  pub restarts_are : restarts ≡ restarts_of done
  pub count : length done ≡ place
  pub left : place + length rest ≡ length written

pub only_if_keeps : {A : Type 0} (P : A → Type 0) (test : Bool) (x : A) → (test ≡ true → P x) → IfSome (only_if test x) P
only_if_keeps P true x keeps = keeps refl
only_if_keeps P false x keeps = tt

pub given_keeps : {A : Type 0} (P : A → Type 0) (test : Bool) (x : Option A) → (test ≡ true → IfSome x P) → IfSome (given test x) P
given_keeps P true x keeps = keeps refl
given_keeps P false x keeps = tt

module _ (setup : Setup) (restarts : List Actor) where
  -- a turn of an actor of the setup, taken at least once
  abbrev pub IsTurn : Timed → Type 0
  IsTurn timed = IsActor setup (turn_actor timed.turn) × (1 ≤ timed.times)

  is_there : (a : Actor) → is_actor setup.controllers (length setup.ports) a ≡ true → IsActor setup a
  is_there (actor.Controller c) e = search (rules, e)
  is_there (actor.Switch s) e = search (rules, e)

  is_there_and : (a : Actor) (other : Bool) → is_actor setup.controllers (length setup.ports) a && other ≡ true → IsActor setup a
  is_there_and a other e = is_there a (search (rules, e))

  taken_once : (a : Actor) (input : Local) (test : Bool) → (test ≡ true → IsActor setup a) → IfSome (only_if test (once a input)) IsTurn
  taken_once a input test there = only_if_keeps IsTurn test (once a input) (λ e. (there e, omega arith))

  taken_times : (t : Turn) (times : ℕ) → IsActor setup (turn_actor t) → IfSome (times_within t times) IsTurn
  taken_times t times there = only_if_keeps IsTurn (is_within 1 times MOST_TIMES) (record { turn = t; times = times }) (λ e. (there, search (rules, e)))

  port_there : (switch port : ℕ) (other : Bool) → is_port_within setup.ports switch port && other ≡ true → switch < length setup.ports
  port_there switch port other e = search (rules, e)

  -- a step within its limits
  pub turn_is : (step : WrittenStep) → IfSome (turn_within setup.controllers setup.ports restarts step) IsTurn
  turn_is (Frame switch port bytes) = taken_once (actor.Switch switch) (local.Frame port bytes) (is_port_within setup.ports switch port && is_within SHORTEST_FRAME (length bytes) LONGEST_FRAME) (port_there switch port (is_within SHORTEST_FRAME (length bytes) LONGEST_FRAME))
  turn_is (Port switch port up) = taken_once (actor.Switch switch) (local.Port port up) (is_port_within setup.ports switch port) (λ e. search (rules, e))
  turn_is (Tick a times) = given_keeps IsTurn (is_actor setup.controllers (length setup.ports) a) (times_within (turn.Local a local.Tick) times) (λ e. taken_times (turn.Local a local.Tick) times (is_there a e))
  turn_is (Draw a choice keep times) = given_keeps IsTurn (is_actor setup.controllers (length setup.ports) a && nat_le choice MOST_CHOICE) (times_within (turn.Draw a choice keep) times) (λ e. taken_times (turn.Draw a choice keep) times (is_there_and a (nat_le choice MOST_CHOICE) e))
  turn_is (Lose a choice times) = given_keeps IsTurn (is_actor setup.controllers (length setup.ports) a && nat_le choice MOST_CHOICE) (times_within (turn.Lose a choice) times) (λ e. taken_times (turn.Lose a choice) times (is_there_and a (nat_le choice MOST_CHOICE) e))
  turn_is (Suspect c view) = taken_once (actor.Controller c) (local.Suspect view) (nat_lt c setup.controllers && is_within 1 view MOST_VIEW) (λ e. search (rules, e))
  turn_is (Crash c) = taken_once (actor.Controller c) local.Crash (nat_lt c setup.controllers) (λ e. search (rules, e))
  turn_is (RestartController c) = given_keeps IsTurn (nat_lt c setup.controllers) (restart_within restarts (actor.Controller c)) (λ e. taken_once (actor.Controller c) local.Restart (may_restart restarts (actor.Controller c)) (λ _. search (rules, e)))
  turn_is (RestartSwitch s) = given_keeps IsTurn (nat_lt s (length setup.ports)) (restart_within restarts (actor.Switch s)) (λ e. taken_once (actor.Switch s) local.Restart (may_restart restarts (actor.Switch s)) (λ _. search (rules, e)))

-- a setup of so many controllers, and switches of so many ports
abbrev setup_with : ℕ → List ℕ → Setup
setup_with controllers ports = record { controllers = controllers; ports = ports; links = []; deny = [] }

keeps_second : {A : Type 0} (P Q : A → Type 0) (found : Option A) → IfSome found (λ x. P x × Q x) → IfSome found Q
keeps_second P Q None h = tt
keeps_second P Q (Some x) h = h.1

-- a step within its limits is taken at least once
pub turn_taken : (controllers : ℕ) (ports : List ℕ) (restarts : List Actor) (step : WrittenStep) → IfSome (turn_within controllers ports restarts step) (λ timed. 1 ≤ timed.times)
turn_taken controllers ports restarts step =
    keeps_second (λ timed. IsActor (setup_with controllers ports) (turn_actor timed.turn)) (λ timed. 1 ≤ timed.times) (turn_within controllers ports restarts step) (turn_is (setup_with controllers ports) restarts step)
