-- Which journals are those of a run.
use Rattle.std.specs.Prelude.{◌≡◌, ◌≢◌, ◌<◌, ◌^◌, ℕ, List, [], ◌∷◌, length, slice_index_or, Option, None}
use Rattle.std.specs.List.{AllByRecursion}
use Rattle.list_facts.specs.Fold.{ActorRules}
use Rattle.journal.specs.declared.journal.Actor.TheVariants as actor
use Rattle.journal.specs.declared.journal.JournalEntry.{JournalEntry}
use Rattle.journal.specs.declared.journal.JournalEntry.TheVariants.{Post, Draw, Lose, Local, Idle, Refused}
use Rattle.journal.specs.declared.journal.Letter.{Letter}
use Rattle.journal.specs.declared.journal.Local.{Local as LocalInput}
use Rattle.journal.specs.declared.journal.Local.TheVariants as local
use Rattle.journal.specs.declared.journal.Packet.{Packet}
use Rattle.journal.specs.declared.journal.SaveResult.{SaveResult}
use Rattle.journal.specs.Actors.{actor_of, IsActor}
use Rattle.journal.specs.Pool.{past}
use Rattle.journal.specs.Part.{part}
use Rattle.journal.specs.Orderly.{IsOrderly}
use Rattle.run_spec.specs.declared.messages.Message.{Message}
use Rattle.run_spec.specs.Messages.{FitsMessage}
use Rattle.group_controller.specs.State.{starting_controller}
use Rattle.of_switch.specs.State.{starting_switch}
use Rattle.run_spec.specs.States.{Scene, Sealing, Speech, actor_at, controller_at, controller_rules, controller_speech, sealed_letters, switch_rules, switch_speech}

-- the newest entry took an input that may want memory
abbrev pub IsTurn : {B : Type 0} → List (JournalEntry B × Option (Packet B)) → Type 0
IsTurn [] = ⊥
IsTurn (step ∷ before) = elim step.0 [
  | Draw a id keep ↦ Unit {0}
  | Local a input ↦ Unit {0}
  | _ ↦ ⊥
]

-- what is said is of its types: each number fits its field
abbrev pub AreTyped : {A : Type 0} → (A → Message) → List (Letter A) → Type 0
AreTyped said letters = AllByRecursion (λ l. FitsMessage (said l.body)) letters

-- an entry stands where it may, over what its actor owes there: a Post has all of that, sealed
abbrev pub FitsDebt : {A B : Type 0} → (A → Message) → Sealing B → List (Letter A) → List (JournalEntry B × Option (Packet B)) → JournalEntry B → Type 0
FitsDebt said sealing owed before (Post a first letters lost) = (letters ≡ sealed_letters said sealing owed) × (letters ≢ []) × AreTyped said owed
FitsDebt said sealing owed before (Draw a id keep) = owed ≡ []
FitsDebt said sealing owed before (Lose a id) = owed ≡ []
FitsDebt said sealing owed before (Local a input) = owed ≡ []
FitsDebt said sealing owed before (Idle a) = owed ≡ []
FitsDebt said sealing owed before (Refused a) = IsTurn before

-- each entry of an actor's part stands where it may
abbrev pub IsSound : {B S I A : Type 0} → ActorRules S I (Letter A) → Speech I A → Sealing B → S → List (JournalEntry B × Option (Packet B)) → Type 0
IsSound rules speech sealing start [] = Unit {0}
IsSound rules speech sealing start (step ∷ before) =
    FitsDebt speech.said sealing (actor_at rules speech sealing start before).owed before step.0 × IsSound rules speech sealing start before

abbrev pub IsSoundSwitch : {B : Type 0} → Scene B → ℕ → List (JournalEntry B × Option (Packet B)) → Type 0
IsSoundSwitch scene s own = IsSound switch_rules switch_speech scene.sealing (starting_switch s scene.setup) own

abbrev pub IsSoundController : {B : Type 0} → Scene B → List SaveResult → ℕ → List (JournalEntry B × Option (Packet B)) → Type 0
IsSoundController scene results c own =
    IsSound (controller_rules scene results) controller_speech scene.sealing (starting_controller c scene.setup.controllers) own

-- each draw of a part finds its packet
abbrev pub EachFinds : {B : Type 0} → List (JournalEntry B × Option (Packet B)) → Type 0
EachFinds [] = Unit {0}
EachFinds ((Draw a id keep, None) ∷ own) = ⊥
EachFinds (x ∷ own) = EachFinds own

-- the numbers of a local input fit their types
abbrev pub FitsTypes : LocalInput → Type 0
FitsTypes (local.Suspect view) = view < 2 ^ 32
FitsTypes (local.Frame port bytes) = AllByRecursion (λ b. b < 2 ^ 8) bytes
FitsTypes _ = Unit {0}

abbrev pub EntryFits : {B : Type 0} → JournalEntry B → Type 0
EntryFits (Local a input) = FitsTypes input
EntryFits _ = Unit {0}

-- the results of the saves of a controller
abbrev pub results_of : List (List SaveResult) → ℕ → List SaveResult
results_of results c = slice_index_or results c []

-- a past that may have come about, its newest entry first, with the results of the controllers' saves and of saves to
-- come. So is each part of it, without its newest entries
pub record IsPossible {B : Type 0} (scene : Scene B) (results : List (List SaveResult)) (entries : List (JournalEntry B)) : Type 0 where
  pub named : AllByRecursion (λ e. IsActor scene.setup (actor_of e)) entries
  pub fits : AllByRecursion (λ e. EntryFits e) entries
  pub orderly : IsOrderly scene.sealing.size entries
  pub switches : (s : ℕ) → s < length scene.setup.ports → IsSoundSwitch scene s (part (actor.Switch s) entries)
  pub controllers : (c : ℕ) → c < scene.setup.controllers → IsSoundController scene (results_of results c) c (part (actor.Controller c) entries)

-- and with no further results
pub record IsLegalPast {B : Type 0} (scene : Scene B) (results : List (List SaveResult)) (entries : List (JournalEntry B)) : Type 0 where
  pub possible : IsPossible scene results entries
  pub saves : (c : ℕ) → c < scene.setup.controllers →
      length (results_of results c) ≡ (controller_at scene (results_of results c) c (part (actor.Controller c) entries)).saves

abbrev pub IsLegal : {B : Type 0} → Scene B → List (List SaveResult) → List (JournalEntry B) → Type 0
IsLegal scene results journal = IsLegalPast scene results (past journal)
