-- What a thread is given, and what it leaves.
use Rattle.std.specs.Prelude.{◌≡◌, ◌<◌, ℕ, List, length, Option, slice_index_or}
use Rattle.of_types.specs.declared.setup.Setup.{Setup}
use Rattle.journal.specs.declared.journal.Actor.{Actor}
use Rattle.journal.specs.declared.journal.JournalEntry.{JournalEntry}
use Rattle.journal.specs.declared.journal.Letter.{Letter}
use Rattle.journal.specs.declared.journal.Packet.{Packet}
use Rattle.journal.specs.declared.journal.Turn.{Turn}
use Rattle.shared_wire.specs.Places.{IsPlace, IsSamePlace, TableId}
use Rattle.running.specs.declared.task.Task.{Task}
use Rattle.running.specs.Jobs.{EndsAs, PlaysOn}

-- a task is one of this board, and its actor has taken none of its steps
pub record MayBegin {B G P : Type 0} (plays : Setup → List ℕ → Actor → P → List (JournalEntry B × Option (Packet B)) → P → List (Letter B) → Type 0) (board : TableId) (steps : List Turn) (task : Task B P G) : Type 0 where
  pub board_is : task.job.place.board ≡ board
  pub plays_it : (setup : Setup) × (kinds : List ℕ) × (start : P) × PlaysOn (plays setup kinds task.job.place.actor start) steps 0 task.job

-- a task was run: its actor took its steps up to its end, or until it stopped
pub record WasRun {B G P : Type 0} (plays : Setup → List ℕ → Actor → P → List (JournalEntry B × Option (Packet B)) → P → List (Letter B) → Type 0) (size : B → ℕ) (steps : List Turn) (old new : Task B P G) : Type 0 where
  pub place : IsSamePlace old.job.place new.job.place
  pub stands : IsPlace size new.job.place
  pub ends : (setup : Setup) (kinds : List ℕ) (start : P) → PlaysOn (plays setup kinds old.job.place.actor start) steps 0 old.job →
      EndsAs (plays setup kinds old.job.place.actor start) size steps new.job new.stop

-- and so was each of a list
pub record AllRan {B G P : Type 0} (plays : Setup → List ℕ → Actor → P → List (JournalEntry B × Option (Packet B)) → P → List (Letter B) → Type 0) (size : B → ℕ) (steps : List Turn) (old new : List (Task B P G)) : Type 0 where
  pub count : length new ≡ length old
  pub each : (i : ℕ) (d : Task B P G) → i < length old → WasRun plays size steps (slice_index_or old i d) (slice_index_or new i d)
