-- How a job ended, for what the journal tells.
use Rattle.std.proofs.Common.{◌<◌, ◌⊎◌, inl, inr, ℕ, List, [], refl, subst, arith}
use Rattle.std.specs.Prelude.{Option}
use Rattle.journal.specs.declared.journal.JournalEntry.{JournalEntry}
use Rattle.journal.specs.declared.journal.Letter.{Letter}
use Rattle.journal.specs.declared.journal.Packet.{Packet}
use Rattle.journal.specs.declared.journal.Turn.{Turn}
use Rattle.journal.specs.Limits.{bytes_limit, letters_limit}
use Rattle.journal.specs.Pool.{past}
use Rattle.journal.specs.Turns.{IsFull, IsWithinLimits}
use Rattle.running.specs.declared.job.Job.{Job}
use Rattle.running.specs.Jobs.{HasDone, IsAtEnd, HasNoRoom}

module _ {B G P : Type 0} (plays : List (JournalEntry B × Option (Packet B)) → P → List (Letter B) → Type 0) (size : B → ℕ) (steps : List Turn) (job : Job B P G) where
  pub done_ends : HasDone plays steps job → IsAtEnd plays steps job
  done_ends h = record { number = _; on = h.on; all = λ none. refl }

  -- an empty outbox has room
  never_stuck : (bytes letters : ℕ) → IsWithinLimits size (past job.place.seen) → IsFull size (past job.place.seen) [] bytes letters → ⊥
  never_stuck bytes letters within full =
      by_limit full.passes
    where
      by_limit : (bytes_limit < bytes) ⊎ (letters_limit < letters) → ⊥
      by_limit (inl more) = let b = within.bytes in let is = full.bytes_are in omega (arith, b, is, more)
      by_limit (inr more) = let l = within.letters in let is = full.letters_are in omega (arith, l, is, more)

  pub stuck_ends : (bytes letters : ℕ) → IsWithinLimits size (past job.place.seen) → HasNoRoom plays size steps bytes letters job → IsAtEnd plays steps job
  stuck_ends bytes letters within h = record {
    number = h.number;
    on = h.on;
    all = λ none. absurd (never_stuck bytes letters within (subst (λ o. IsFull size (past job.place.seen) o bytes letters) none h.full));
  }
