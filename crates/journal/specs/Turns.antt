-- What a turn of an actor adds to a journal, over its past.
use Rattle.std.specs.Prelude.{◌≡◌, ◌<◌, ◌≤◌, ◌⊎◌, ℕ, ◌+◌, ◌-◌, ◌^◌, min, Bool, List, [], ◌∷◌, ◌++◌, length, Option, Some, None}
use Rattle.journal.specs.declared.journal.Actor.{Actor}
use Rattle.journal.specs.declared.journal.JournalEntry.{JournalEntry}
use Rattle.journal.specs.declared.journal.JournalEntry.TheVariants.{Post, Draw, Lose, Local, Idle}
use Rattle.journal.specs.declared.journal.Letter.{Letter}
use Rattle.journal.specs.declared.journal.Packet.{Packet}
use Rattle.journal.specs.declared.journal.Turn.{Turn}
use Rattle.journal.specs.declared.journal.Turn.TheVariants as turn
use Rattle.journal.specs.Limits.{letters_limit, bytes_limit}
use Rattle.journal.specs.Pool.{pool, pick, letters_posted, letter_bytes, bytes_posted}
use Rattle.journal.specs.Orderly.{lost_of, IsOrderly}

-- the post of an outbox. An empty one makes no entry
abbrev pub posting : {B : Type 0} → (B → ℕ) → Actor → List (Letter B) → List (JournalEntry B) → List (JournalEntry B)
posting size a [] before = []
posting size a (letter ∷ letters) before =
    Post a (letters_posted before) (letter ∷ letters) (lost_of size (pool before) (letter ∷ letters)) ∷ []

-- the past once it was posted
abbrev pub posted : {B : Type 0} → (B → ℕ) → Actor → List (Letter B) → List (JournalEntry B) → List (JournalEntry B)
posted size a letters before = posting size a letters before ++ before

-- the entry of a draw, and of a loss, by what was found
abbrev pub drawn_entry : {B : Type 0} → Actor → Bool → Option (Packet B) → JournalEntry B
drawn_entry a keep None = Idle a
drawn_entry a keep (Some p) = Draw a p.id keep

abbrev pub lost_entry : {B : Type 0} → Actor → Option (Packet B) → JournalEntry B
lost_entry a None = Idle a
lost_entry a (Some p) = Lose a p.id

-- the entry that a step of a script makes
abbrev pub entry_of : {B : Type 0} → Turn → List (JournalEntry B) → JournalEntry B
entry_of (turn.Draw a choice keep) before = drawn_entry a keep (pick a choice before)
entry_of (turn.Lose a choice) before = lost_entry a (pick a choice before)
entry_of (turn.Local a input) before = Local a input

-- who takes a step
abbrev pub turn_actor : Turn → Actor
turn_actor (turn.Draw a choice keep) = a
turn_actor (turn.Lose a choice) = a
turn_actor (turn.Local a input) = a

-- the entries of a turn: the post of an outbox, and the entry of the next step
abbrev pub turn_entries : {B : Type 0} → (B → ℕ) → List (Letter B) → Turn → List (JournalEntry B) → List (JournalEntry B)
turn_entries size letters step before =
    posting size (turn_actor step) letters before ++ entry_of step (posted size (turn_actor step) letters before) ∷ []

-- no outbox that was posted passed the limits of a journal
pub record IsWithinLimits {B : Type 0} (size : B → ℕ) (entries : List (JournalEntry B)) : Type 0 where
  pub letters : letters_posted entries ≤ letters_limit
  pub bytes : bytes_posted size entries ≤ bytes_limit

-- the letters that would be posted with these pass a limit, and the two numbers are their sums, each
-- stopped at the greatest number of 64 bits
pub record IsFull {B : Type 0} (size : B → ℕ) (entries : List (JournalEntry B)) (letters : List (Letter B)) (bytes count : ℕ) : Type 0 where
  pub bytes_are : bytes ≡ min (2 ^ 64 - 1) (bytes_posted size entries + letter_bytes size letters)
  pub letters_are : count ≡ min (2 ^ 64 - 1) (letters_posted entries + length letters)
  pub passes : (bytes_limit < bytes) ⊎ (letters_limit < count)

-- what a journal keeps beside its entries: how many letters it posted, and the bytes of their bodies
pub record IsKept {B : Type 0} (size : B → ℕ) (entries : List (JournalEntry B)) (next total : ℕ) : Type 0 where
  pub next_is : next ≡ letters_posted entries
  pub total_is : total ≡ bytes_posted size entries
  pub within : IsWithinLimits size entries
  pub orderly : IsOrderly size entries
