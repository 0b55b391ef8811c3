-- The limits of a scenario, and what a part within them says. A part past them is None.
use Rattle.std.specs.Prelude.{ℕ, ◌+◌, ◌-◌, ◌*◌, ◌%◌, ◌^◌, Bool, true, ◌==◌, nat_lt, nat_le, ◌&&◌, ◌||◌, not, List, [], ◌∷◌, length, replicate, fold, sum_by, count_by, slice_index, Option, Some, None, if◌then◌else◌}
use Rattle.std.specs.List.{list_all, flat_map}
use Rattle.of_types.specs.declared.numbers.TheConstants.{SHORTEST_FRAME, LONGEST_FRAME}
use Rattle.of_types.specs.declared.setup.Link.{Link}
use Rattle.of_types.specs.declared.setup.Prefix.{Prefix}
use Rattle.of_types.specs.declared.setup.Rule.{Rule}
use Rattle.of_types.specs.Setups.{is_group}
use Rattle.journal.specs.declared.journal.Actor.{Actor}
use Rattle.journal.specs.declared.journal.Actor.TheVariants as actor
use Rattle.journal.specs.declared.journal.Local.{Local}
use Rattle.journal.specs.declared.journal.Local.TheVariants as local
use Rattle.journal.specs.declared.journal.Turn.{Turn}
use Rattle.journal.specs.declared.journal.Turn.TheVariants as turn
use Rattle.journal.specs.Actors.{same_actor}
use Rattle.scenario.specs.declared.limits.TheConstants.{MOST_SWITCHES, MOST_PORTS, MOST_LINKS, MOST_RULES, MOST_STEPS, MOST_TIMES, MOST_CHOICE, MOST_VIEW, MOST_RESTARTS}
use Rattle.scenario.specs.declared.limits.Timed.{Timed}
use Rattle.scenario.specs.declared.written.Written.{Written}
use Rattle.scenario.specs.declared.written.WrittenSwitch.{WrittenSwitch}
use Rattle.scenario.specs.declared.written.WrittenLink.{WrittenLink}
use Rattle.scenario.specs.declared.written.WrittenPrefix.{WrittenPrefix}
use Rattle.scenario.specs.declared.written.WrittenRule.{WrittenRule}
use Rattle.scenario.specs.declared.written.WrittenStep.{WrittenStep}
use Rattle.scenario.specs.declared.written.WrittenStep.TheVariants.{Frame, Port, Tick, Draw, Lose, Suspect, Crash, RestartController, RestartSwitch}
use Rattle.scenario.specs.Json.{◌>>=◌}
use Rattle.wires.specs.Wires.{is_taken}

abbrev pub is_within : ℕ → ℕ → ℕ → Bool
is_within low n high = nat_le low n && nat_le n high

-- a value where a test passes
abbrev pub only_if : {A : Type 0} → Bool → A → Option A
only_if test said = if test then Some said else None

-- how often a step is taken
abbrev pub times_of : WrittenStep → ℕ
times_of (Tick a times) = times
times_of (Draw a choice keep times) = times
times_of (Lose a choice times) = times
times_of _ = 1

-- the limits of a scenario as a whole
abbrev pub is_within_limits : Written → Bool
is_within_limits w =
    is_group w.controllers && is_within 1 (length w.switches) MOST_SWITCHES && nat_le (length w.links) MOST_LINKS
    && nat_le (length w.deny) MOST_RULES && nat_le (length w.steps) MOST_STEPS && nat_le (sum_by times_of w.steps) MOST_STEPS

abbrev pub ports_within : WrittenSwitch → Option ℕ
ports_within s = only_if (is_within 1 s.ports MOST_PORTS) s.ports

-- a port of a switch, by how many ports each switch has
abbrev pub is_port_within : List ℕ → ℕ → ℕ → Bool
is_port_within ports switch port = nat_lt switch (length ports) && is_within 1 port (slice_index ports switch)

-- a wire between two ports, and not from one to itself
abbrev pub link_between : List ℕ → WrittenLink → Option Link
link_between ports l =
    only_if (is_port_within ports l.switch l.port && is_port_within ports l.peer l.peer_port && not (l.switch == l.peer && l.port == l.peer_port))
    (record { switch = l.switch; port = l.port; peer = l.peer; peer_port = l.peer_port })

-- a wire whose ports are no ends of those before it
abbrev pub link_within : List ℕ → List Link → WrittenLink → Option Link
link_within ports before l = do
  link ← link_between ports l
  only_if (not (is_taken link.switch link.port before) && not (is_taken link.peer link.peer_port before)) link

-- an address with no one bit past the length of its prefix
abbrev pub prefix_within : WrittenPrefix → Option Prefix
prefix_within p =
    let address = fold (λ n byte. 256 * n + byte) 0 p.bytes in
    only_if (list_all (λ byte. nat_le byte 255) p.bytes && nat_le p.length 32)
    (record { address = address - address % 2 ^ (32 - p.length); length = p.length })

-- a port of TCP or UDP, which a rule for any protocol has not
abbrev pub is_port_of : ℕ → Option ℕ → Bool
is_port_of proto None = true
is_port_of proto (Some port) = not (proto == 0) && nat_le port 65535

abbrev pub rule_within : WrittenRule → Option Rule
rule_within r = do
  src ← prefix_within r.src
  dst ← prefix_within r.dst
  only_if ((r.proto == 0 || r.proto == 6 || r.proto == 17) && is_port_of r.proto r.port) (record { proto = r.proto; src = src; dst = dst; port = r.port })

-- an actor of a group and of switches, by their counts
abbrev pub is_actor : ℕ → ℕ → Actor → Bool
is_actor controllers switches (actor.Controller c) = nat_lt c controllers
is_actor controllers switches (actor.Switch s) = nat_lt s switches

-- who restarts at a turn, and at turns
abbrev pub restarted_actors : Turn → List Actor
restarted_actors (turn.Local a local.Restart) = a ∷ []
restarted_actors _ = []

abbrev pub restarts_of : List Timed → List Actor
restarts_of before = flat_map (λ timed. restarted_actors timed.turn) before

-- an actor that has not restarted too often
abbrev pub may_restart : List Actor → Actor → Bool
may_restart restarts a = nat_lt (count_by (same_actor a) restarts) MOST_RESTARTS

-- a local input that is taken once
abbrev pub once : Actor → Local → Timed
once a input = record { turn = turn.Local a input; times = 1 }

-- a turn that is taken so often
abbrev pub times_within : Turn → ℕ → Option Timed
times_within t times = only_if (is_within 1 times MOST_TIMES) (record { turn = t; times = times })

abbrev pub frame_within : List ℕ → ℕ → ℕ → List ℕ → Option Timed
frame_within ports switch port bytes =
    only_if (is_port_within ports switch port && is_within SHORTEST_FRAME (length bytes) LONGEST_FRAME) (once (actor.Switch switch) (local.Frame port bytes))

abbrev pub port_within : List ℕ → ℕ → ℕ → Bool → Option Timed
port_within ports switch port up = only_if (is_port_within ports switch port) (once (actor.Switch switch) (local.Port port up))

abbrev pub suspect_within : ℕ → ℕ → ℕ → Option Timed
suspect_within controllers c view =
    only_if (nat_lt c controllers && is_within 1 view MOST_VIEW) (once (actor.Controller c) (local.Suspect view))

abbrev pub restart_within : List Actor → Actor → Option Timed
restart_within restarts a = only_if (may_restart restarts a) (once a local.Restart)

-- a value that is there only where a test passes
abbrev pub given : {A : Type 0} → Bool → Option A → Option A
given test said = if test then said else None

-- the turn of a step and how often it is taken, in a group with switches of so many ports, where these have restarted before it
abbrev pub turn_within : ℕ → List ℕ → List Actor → WrittenStep → Option Timed
turn_within controllers ports restarts (Frame switch port bytes) = frame_within ports switch port bytes
turn_within controllers ports restarts (Port switch port up) = port_within ports switch port up
turn_within controllers ports restarts (Tick a times) =
    given (is_actor controllers (length ports) a) (times_within (turn.Local a local.Tick) times)
turn_within controllers ports restarts (Draw a choice keep times) =
    given (is_actor controllers (length ports) a && nat_le choice MOST_CHOICE) (times_within (turn.Draw a choice keep) times)
turn_within controllers ports restarts (Lose a choice times) =
    given (is_actor controllers (length ports) a && nat_le choice MOST_CHOICE) (times_within (turn.Lose a choice) times)
turn_within controllers ports restarts (Suspect c view) = suspect_within controllers c view
turn_within controllers ports restarts (Crash c) = only_if (nat_lt c controllers) (once (actor.Controller c) local.Crash)
turn_within controllers ports restarts (RestartController c) =
    given (nat_lt c controllers) (restart_within restarts (actor.Controller c))
turn_within controllers ports restarts (RestartSwitch s) =
    given (nat_lt s (length ports)) (restart_within restarts (actor.Switch s))

-- a turn as often as it is taken
abbrev pub repeated_member : Timed → List Turn
repeated_member timed = replicate timed.times timed.turn
