-- Which journals take the steps of a script in order.
use Rattle.std.specs.Prelude.{◌≡◌, ℕ, true, List, [], ◌∷◌, length, count_by, slice_get, Some}
use Rattle.journal.specs.declared.journal.Actor.{Actor}
use Rattle.journal.specs.declared.journal.Actor.TheVariants as actor
use Rattle.journal.specs.declared.journal.JournalEntry.{JournalEntry}
use Rattle.journal.specs.declared.journal.JournalEntry.TheVariants.{Post, Refused}
use Rattle.journal.specs.declared.journal.Letter.{Letter}
use Rattle.journal.specs.declared.journal.SaveResult.{SaveResult}
use Rattle.journal.specs.declared.journal.Turn.{Turn}
use Rattle.journal.specs.Actors.{same_actor, actor_of, is_input}
use Rattle.journal.specs.Part.{part}
use Rattle.journal.specs.Turns.{entry_of}
use Rattle.run_spec.specs.States.{Scene, sealed_letters, switch_message, controller_message, controller_at, switch_at}
use Rattle.run_spec.specs.Legal.{results_of}

-- how many inputs were taken
abbrev pub inputs : {B : Type 0} → List (JournalEntry B) → ℕ
inputs entries = count_by is_input entries

-- the letters that an actor owes, sealed
abbrev pub owed_of : {B : Type 0} → Scene B → List (List SaveResult) → Actor → List (JournalEntry B) → List (Letter B)
owed_of scene results (actor.Controller c) entries =
    sealed_letters controller_message scene.sealing (controller_at scene (results_of results c) c (part (actor.Controller c) entries)).owed
owed_of scene results (actor.Switch s) entries =
    sealed_letters switch_message scene.sealing (switch_at scene s (part (actor.Switch s) entries)).owed

-- the actor of the newest entry owes nothing
abbrev pub IsPosted : {B : Type 0} → Scene B → List (List SaveResult) → List (JournalEntry B) → Type 0
IsPosted scene results [] = Unit {0}
IsPosted scene results (e ∷ before) = owed_of scene results (actor_of e) (e ∷ before) ≡ []

-- the newest entry is an input of this actor
abbrev pub IsInputOf : {B : Type 0} → Actor → List (JournalEntry B) → Type 0
IsInputOf a [] = ⊥
IsInputOf a (e ∷ before) = (is_input e ≡ true) × (same_actor (actor_of e) a ≡ true)

-- an entry is the one of the next step, or the post of the input directly before it
abbrev pub IsStepOf : {B : Type 0} → List Turn → JournalEntry B → List (JournalEntry B) → Type 0
IsStepOf steps (Post a first letters lost) before = IsInputOf a before
IsStepOf steps (Refused a) before = ⊥
IsStepOf steps e before = (step : Turn) × (slice_get steps (inputs before) ≡ Some step) × (e ≡ entry_of step before)

-- a script's part that takes the first steps in order, each outbox posted directly after its input
abbrev pub TakesInOrder : {B : Type 0} → Scene B → List (List SaveResult) → List Turn → List (JournalEntry B) → Type 0
TakesInOrder scene results steps [] = Unit {0}
TakesInOrder scene results steps (e ∷ before) =
    IsStepOf steps e before × (is_input e ≡ true → IsPosted scene results before) × TakesInOrder scene results steps before

-- the script's part of a journal in which the steps are done in order
pub record FollowsInOrder {B : Type 0} (scene : Scene B) (results : List (List SaveResult)) (steps : List Turn) (script : List (JournalEntry B)) : Type 0 where
  pub takes : TakesInOrder scene results steps script
  pub all : inputs script ≡ length steps
  pub posted : IsPosted scene results script
