-- Laws of runs whose actors play apart.
use Rattle.std.specs.Prelude.{◌≡◌, List, ◌++◌}
use Rattle.std.specs.List.{AllByRecursion}
use Rattle.journal.specs.declared.journal.Actor.{Actor}
use Rattle.journal.specs.declared.journal.JournalEntry.{JournalEntry}
use Rattle.journal.specs.declared.journal.Letter.{Letter}
use Rattle.journal.specs.declared.journal.Turn.{Turn}
use Rattle.journal.specs.Actors.{actor_of, IsActor}
use Rattle.journal.specs.Orderly.{IsOrderly}
use Rattle.journal.specs.Part.{part}
use Rattle.of_switch.specs.State.{SwitchState}
use Rattle.group_controller.specs.Turns.{Controlling}
use Rattle.run_spec.specs.States.{Scene}
use Rattle.run_spec.specs.Legal.{IsLegalPast}
use Rattle.world.specs.World.{results_in}
use Rattle.world.specs.Standing.{AllStand}
use Rattle.running.specs.Apart.{TakesOwn, inputs_of}
use Rattle.app_core.specs.Law.{AppLaw}

-- a past in which each actor stands behind its part is that of a run
abbrev pub PartsJoin : {A : Type 0} → Type 0 → AppLaw A → Type 0
PartsJoin {A = A} B law =
    (scene : Scene B) (entries : List (JournalEntry B)) (controllers : List (Controlling A)) (switches : List SwitchState) (owed : Actor → List (Letter B)) →
    AllStand law scene entries controllers switches owed → AllByRecursion (λ e. IsActor scene.setup (actor_of e)) entries → IsOrderly scene.sealing.size entries →
    IsLegalPast scene (results_in controllers) entries

-- an actor that has no entries behind a past has taken the same steps
abbrev pub StepsStay : Type 0 → Type 0
StepsStay B =
    (a : Actor) (steps : List Turn) (later met : List (JournalEntry B)) → part a (later ++ met) ≡ part a met → TakesOwn a steps met →
    TakesOwn a steps (later ++ met) × (inputs_of a (later ++ met) ≡ inputs_of a met)
