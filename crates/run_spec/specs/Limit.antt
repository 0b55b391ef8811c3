-- Which journals are cut short where an outbox meets the journal's limit, in the script or in the closing.
use Rattle.std.specs.Prelude.{◌≡◌, ℕ, true, List, [], ◌∷◌, ◌++◌, reverse}
use Rattle.journal.specs.declared.journal.JournalEntry.{JournalEntry}
use Rattle.journal.specs.declared.journal.SaveResult.{SaveResult}
use Rattle.journal.specs.declared.journal.Turn.{Turn}
use Rattle.journal.specs.Actors.{actor_of, is_input}
use Rattle.journal.specs.Turns.{IsFull}
use Rattle.run_spec.specs.States.{Scene}
use Rattle.run_spec.specs.Script.{owed_of, TakesInOrder, FollowsInOrder}
use Rattle.run_spec.specs.Closing.{Phase, ClosesTo, Losing}

-- the newest entry took an input, and the letters posted with those that its actor owes pass a limit
abbrev pub IsJournalFull : {B : Type 0} → Scene B → List (List SaveResult) → List (JournalEntry B) → ℕ → ℕ → Type 0
IsJournalFull scene results [] bytes letters = ⊥
IsJournalFull scene results (e ∷ before) bytes letters =
    (is_input e ≡ true) × IsFull scene.sealing.size (e ∷ before) (owed_of scene results (actor_of e) (e ∷ before)) bytes letters

-- a run that is cut short where an outbox met the limits of the journal, in the script or in the closing
pub data IsBegun {B : Type 0} (scene : Scene B) (results : List (List SaveResult)) (steps : List Turn) (bytes letters : ℕ) : List (JournalEntry B) → Type 0 where
  In_the_script : {entries : List (JournalEntry B)} → TakesInOrder scene results steps entries →
      IsJournalFull scene results entries bytes letters → IsBegun scene results steps bytes letters entries
  In_the_closing : (script entries : List (JournalEntry B)) (last : Phase) → FollowsInOrder scene results steps script →
      ClosesTo scene results Losing script entries last → IsJournalFull scene results (reverse entries ++ script) bytes letters →
      IsBegun scene results steps bytes letters (reverse entries ++ script)
