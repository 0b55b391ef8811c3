-- Which journals a script gives where each actor does its own steps, in a thread of its own. Pasts have their newest entry first.
use Rattle.std.specs.Prelude.{◌≡◌, ◌<◌, ℕ, true, ◌&&◌, List, [], ◌∷◌, ◌++◌, length, filter, count_by, reverse, slice_get, Some}
use Rattle.journal.specs.declared.journal.Actor.{Actor}
use Rattle.journal.specs.declared.journal.Actor.TheVariants as actor
use Rattle.journal.specs.declared.journal.JournalEntry.{JournalEntry}
use Rattle.journal.specs.declared.journal.JournalEntry.TheVariants.{Post, Refused}
use Rattle.journal.specs.declared.journal.SaveResult.{SaveResult}
use Rattle.journal.specs.declared.journal.Turn.{Turn}
use Rattle.journal.specs.Actors.{same_actor, actor_of, is_input, IsActor}
use Rattle.journal.specs.Part.{part}
use Rattle.journal.specs.Turns.{entry_of, turn_actor, IsFull}
use Rattle.run_spec.specs.States.{Scene}
use Rattle.run_spec.specs.Script.{owed_of}
use Rattle.run_spec.specs.Closing.{ClosesTo, Losing, Phase}
use Rattle.run_spec.specs.Limit.{IsJournalFull}

-- the steps of one actor
abbrev pub steps_of : Actor → List Turn → List Turn
steps_of a steps = filter (λ t. same_actor (turn_actor t) a) steps

-- how many inputs an actor took
abbrev pub inputs_of : {B : Type 0} → Actor → List (JournalEntry B) → ℕ
inputs_of a entries = count_by (λ e. is_input e && same_actor (actor_of e) a) entries

-- an entry is the one of the step of this number, or a post
abbrev pub IsStepAt : {B : Type 0} → List Turn → ℕ → JournalEntry B → List (JournalEntry B) → Type 0
IsStepAt steps number (Post a first letters lost) before = Unit {0}
IsStepAt steps number (Refused a) before = ⊥
IsStepAt steps number e before = (step : Turn) × (slice_get steps number ≡ Some step) × (e ≡ entry_of step before)

-- an actor takes the first of its steps in order. Entries of others may stand between an input and its post: where an
-- actor may post is said by its part being sound
abbrev pub TakesOwn : {B : Type 0} → Actor → List Turn → List (JournalEntry B) → Type 0
TakesOwn a steps [] = Unit {0}
TakesOwn a steps (e ∷ before) =
    (same_actor (actor_of e) a ≡ true → IsStepAt (steps_of a steps) (inputs_of a before) e before) × TakesOwn a steps before

-- an actor does all of its steps in order, and owes nothing
pub record FollowsAlone {B : Type 0} (scene : Scene B) (results : List (List SaveResult)) (steps : List Turn) (script : List (JournalEntry B)) (a : Actor) : Type 0 where
  pub takes : TakesOwn a steps script
  pub all : inputs_of a script ≡ length (steps_of a steps)
  pub posted : owed_of scene results a script ≡ []

-- the script's part of a journal in which each actor does its own steps in order
abbrev pub FollowsApart : {B : Type 0} → Scene B → List (List SaveResult) → List Turn → List (JournalEntry B) → Type 0
FollowsApart scene results steps script = (a : Actor) → IsActor scene.setup a → FollowsAlone scene results steps script a

-- an actor does the first of its steps in order: all of them, unless it still owes its last outbox
pub record BeginsAlone {B : Type 0} (scene : Scene B) (results : List (List SaveResult)) (steps : List Turn) (entries : List (JournalEntry B)) (a : Actor) : Type 0 where
  pub takes : TakesOwn a steps entries
  pub all : owed_of scene results a entries ≡ [] → inputs_of a entries ≡ length (steps_of a steps)

-- The outbox that an actor owes met the limits of the journal: it has no room behind the front of the journal that the actor's
-- last call met, in which all entries of this actor stand
pub record IsCutFor {B : Type 0} (scene : Scene B) (results : List (List SaveResult)) (bytes letters : ℕ) (entries : List (JournalEntry B)) (a : Actor) : Type 0 where
  pub there : IsActor scene.setup a
  pub later : List (JournalEntry B)
  pub met : List (JournalEntry B)
  pub joined : entries ≡ later ++ met
  pub its : part a entries ≡ part a met
  pub full : IsFull scene.sealing.size met (owed_of scene results a entries) bytes letters

-- controllers come before switches, and each by number
abbrev pub IsBefore : Actor → Actor → Type 0
IsBefore (actor.Controller c) (actor.Controller d) = c < d
IsBefore (actor.Controller c) (actor.Switch s) = Unit {0}
IsBefore (actor.Switch s) (actor.Controller c) = ⊥
IsBefore (actor.Switch s) (actor.Switch t) = s < t

-- a script that is cut short where an outbox met the limits of the journal: that of the first actor that is stuck. Those before it
-- owe nothing
pub record BeginsApart {B : Type 0} (scene : Scene B) (results : List (List SaveResult)) (steps : List Turn) (bytes letters : ℕ) (entries : List (JournalEntry B)) : Type 0 where
  pub each : (a : Actor) → IsActor scene.setup a → BeginsAlone scene results steps entries a
  pub stuck : Actor
  pub cut : IsCutFor scene results bytes letters entries stuck
  pub first : (a : Actor) → IsActor scene.setup a → IsBefore a stuck → owed_of scene results a entries ≡ []

-- a run that is cut short where an outbox met the limits of the journal, in the script or in the closing
pub data IsBegunApart {B : Type 0} (scene : Scene B) (results : List (List SaveResult)) (steps : List Turn) (bytes letters : ℕ) : List (JournalEntry B) → Type 0 where
  In_the_script : {entries : List (JournalEntry B)} → BeginsApart scene results steps bytes letters entries → IsBegunApart scene results steps bytes letters entries
  In_the_closing : (script entries : List (JournalEntry B)) (last : Phase) → FollowsApart scene results steps script →
      ClosesTo scene results Losing script entries last → IsJournalFull scene results (reverse entries ++ script) bytes letters →
      IsBegunApart scene results steps bytes letters (reverse entries ++ script)
