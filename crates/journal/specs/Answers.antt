-- Why a turn was refused.
use Rattle.std.specs.Prelude.{ℕ, List}
use Rattle.journal.specs.declared.journal.JournalEntry.{JournalEntry}
use Rattle.journal.specs.declared.journal.Letter.{Letter}
use Rattle.journal.specs.declared.wire.Stop.{Stop}
use Rattle.journal.specs.declared.wire.Stop.TheVariants.{OutOfMemory, JournalFull}
use Rattle.journal.specs.Turns.{IsFull}

-- why a turn with this outbox was refused: a full journal is told by its two sums
abbrev pub RefusedBy : {B : Type 0} → (B → ℕ) → Stop → List (Letter B) → List (JournalEntry B) → Type 0
RefusedBy size OutOfMemory letters before = Unit {0}
RefusedBy size (JournalFull bytes count) letters before = IsFull size before letters bytes count
