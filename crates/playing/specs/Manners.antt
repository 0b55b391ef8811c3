-- How a script is done: its steps in order, or by each actor for itself, in a thread of its own.
use Rattle.std.specs.Prelude.{ℕ, List}
use Rattle.journal.specs.declared.journal.JournalEntry.{JournalEntry}
use Rattle.journal.specs.declared.journal.SaveResult.{SaveResult}
use Rattle.journal.specs.declared.journal.Turn.{Turn}
use Rattle.run_spec.specs.Script.{FollowsInOrder}
use Rattle.run_spec.specs.Limit.{IsBegun}
use Rattle.run_spec.specs.States.{Scene}
use Rattle.running.specs.Apart.{FollowsApart, IsBegunApart}

pub data Manner : Type 0 where
  In_order : Manner
  Apart : Manner

-- the script's part of a journal, done in this manner
abbrev pub FollowsManner : {B : Type 0} → Manner → Scene B → List (List SaveResult) → List Turn → List (JournalEntry B) → Type 0
FollowsManner In_order = FollowsInOrder
FollowsManner Apart = FollowsApart

-- a run that is cut short where an outbox met the limits of the journal
abbrev pub Begins : {B : Type 0} → Manner → Scene B → List (List SaveResult) → List Turn → ℕ → ℕ → List (JournalEntry B) → Type 0
Begins In_order = IsBegun
Begins Apart = IsBegunApart
