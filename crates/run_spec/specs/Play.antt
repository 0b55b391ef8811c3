-- The one journal that a script and the closing schedule give, step by step. Pasts have their newest entry first.
use Rattle.std.specs.Prelude.{ℕ, zero, suc, List, [], ◌∷◌, Option, Some, None}
use Rattle.journal.specs.declared.journal.JournalEntry.{JournalEntry}
use Rattle.journal.specs.declared.journal.SaveResult.{SaveResult}
use Rattle.journal.specs.declared.journal.Turn.{Turn}
use Rattle.journal.specs.Actors.{actor_of}
use Rattle.journal.specs.Turns.{entry_of, posted}
use Rattle.run_spec.specs.States.{Scene}
use Rattle.run_spec.specs.Script.{owed_of}
use Rattle.run_spec.specs.Closing.{Phase, Losing, ClosingAnswer, Takes, Ends, next_move, after_move}

-- an entry, and the post of what its actor then owes
abbrev pub with_entry : {B : Type 0} → Scene B → List (List SaveResult) → JournalEntry B → List (JournalEntry B) → List (JournalEntry B)
with_entry scene results e before =
    posted scene.sealing.size (actor_of e) (owed_of scene results (actor_of e) (e ∷ before)) (e ∷ before)

-- the past after these steps
unfoldable pub played : {B : Type 0} → Scene B → List (List SaveResult) → List Turn → List (JournalEntry B) → List (JournalEntry B)
played scene results [] before = before
played scene results (step ∷ steps) before = played scene results steps (with_entry scene results (entry_of step before) before)

-- the past after a closing of at most so many moves, and its answer
pub record Rest (B : Type 0) : Type 0 where
  pub entries : List (JournalEntry B)
  pub answer : Option ClosingAnswer

unfoldable pub closed_from : {B : Type 0} → ℕ → Scene B → List (List SaveResult) → Phase → List (JournalEntry B) → Rest B
closed_from zero scene results phase before = record { entries = before; answer = None }
closed_from (suc more) scene results phase before =
    elim (next_move scene results phase before) [
      | Ends answer ↦ record { entries = before; answer = Some answer }
      | Takes e next ↦ closed_from more scene results (after_move scene results e before next) (with_entry scene results e before)
    ]

-- the journal of a script and its closing
abbrev pub plays : {B : Type 0} → ℕ → Scene B → List (List SaveResult) → List Turn → Rest B
plays most scene results steps = closed_from most scene results Losing (played scene results steps [])
