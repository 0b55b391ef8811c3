-- What is left of the tasks of a run.
use Rattle.std.specs.Prelude.{ℕ, List, [], ◌∷◌, ◌++◌, map, Option, None}
use Rattle.std.specs.List.{range_with_len, zip}
use Rattle.journal.specs.declared.journal.Actor.{Actor}
use Rattle.journal.specs.declared.journal.Actor.TheVariants as actor
use Rattle.journal.specs.declared.wire.Stop.{Stop}
use Rattle.shared_wire.specs.Places.{PlaceState}
use Rattle.thread_rules.specs.Rules.{worst}
use Rattle.group_controller.specs.Turns.{Controlling}
use Rattle.running.specs.declared.seated.Served.{Served}
use Rattle.running.specs.declared.task.Task.{Task}

module _ {B G P : Type 0} where
  -- an actor at its place, with nothing owed
  abbrev pub task_of : PlaceState B → P → Task B P G
  task_of place player = record { job = record { place = place; player = player; owed = [] }; stop = None }

  abbrev pub seat_place_of : Task B P G → PlaceState B
  seat_place_of task = task.job.place

  abbrev pub player_of : Task B P G → P
  player_of task = task.job.player

  -- the cause that counts, of those that a list stopped for
  abbrev pub first_stop : Option Stop → List (Task B P G) → Option Stop
  first_stop first [] = first
  first_stop first (task ∷ tasks) = first_stop (worst first task.stop) tasks

-- the actors of a group, the controllers before the switches and each ascending
abbrev pub actors_up_to : ℕ → ℕ → List Actor
actors_up_to group count = map (λ c. actor.Controller c) (range_with_len 0 group) ++ map (λ s. actor.Switch s) (range_with_len 0 count)

-- players at places, in order, each with nothing owed
abbrev pub seated : {B G P : Type 0} → List (PlaceState B) → List P → List (Task B P G)
seated places players = map (λ x. task_of x.0 x.1) (zip places players)

-- controllers beside what they save to, in order
abbrev pub served : {A W : Type 0} → List (Controlling A) → List W → List (Served A W)
served controllers stables = map (λ x. record { controller = x.0; stable = x.1 }) (zip controllers stables)

module _ {A W : Type 0} where
  abbrev pub controller_of : Served A W → Controlling A
  controller_of x = x.controller

  abbrev pub stable_of : Served A W → W
  stable_of x = x.stable
