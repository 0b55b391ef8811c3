-- The packets that wait. A past is a journal with its newest entry first.
use Rattle.std.specs.Prelude.{ℕ, ◌+◌, ◌-◌, ◌%◌, not, nat_eq, List, [], ◌∷◌, ◌++◌, length, take, reverse, filter, slice_get, sum_by, Option, if◌then◌else◌}
use Rattle.journal.specs.declared.journal.Actor.{Actor}
use Rattle.journal.specs.declared.journal.JournalEntry.{JournalEntry}
use Rattle.journal.specs.declared.journal.JournalEntry.TheVariants.{Post, Draw, Lose, Local, Idle, Refused}
use Rattle.journal.specs.declared.journal.Letter.{Letter}
use Rattle.journal.specs.declared.journal.Packet.{Packet}
use Rattle.journal.specs.Actors.{same_actor}

-- a journal, its newest entry first
abbrev pub past : {B : Type 0} → List (JournalEntry B) → List (JournalEntry B)
past journal = reverse journal

-- letters as packets, numbered from there on
abbrev pub numbered_letters : {B : Type 0} → ℕ → Actor → List (Letter B) → List (Packet B)
numbered_letters first from [] = []
numbered_letters first from (letter ∷ letters) = record { id = first; from = from; to = letter.to; body = letter.body } ∷ numbered_letters (first + 1) from letters

-- the packets of a post that were not lost
abbrev pub fitting : {B : Type 0} → ℕ → Actor → List (Letter B) → ℕ → List (Packet B)
fitting first actor letters lost = take (length letters - lost) (numbered_letters first actor letters)

-- the packets of other numbers
abbrev pub without : {B : Type 0} → ℕ → List (Packet B) → List (Packet B)
without id packets = filter (λ p. not (nat_eq p.id id)) packets

-- the packets that wait, by number
abbrev pub pool : {B : Type 0} → List (JournalEntry B) → List (Packet B)
pool [] = []
pool (Post actor first letters lost ∷ before) = pool before ++ fitting first actor letters lost
pool (Draw actor id keep ∷ before) = if keep then pool before else without id (pool before)
pool (Lose actor id ∷ before) = without id (pool before)
pool (Local actor input ∷ before) = pool before
pool (Idle actor ∷ before) = pool before
pool (Refused actor ∷ before) = pool before

-- those of them for an actor
abbrev pub waiting : {B : Type 0} → Actor → List (Packet B) → List (Packet B)
waiting a packets = filter (λ p. same_actor p.to a) packets

-- the packet of a choice, counted round
abbrev pub chosen : {B : Type 0} → ℕ → List (Packet B) → Option (Packet B)
chosen choice packets = slice_get packets (choice % length packets)

-- the packet that an actor finds by its choice
abbrev pub pick : {B : Type 0} → Actor → ℕ → List (JournalEntry B) → Option (Packet B)
pick a choice before = chosen choice (waiting a (pool before))

-- how many letters were posted, the lost ones too
abbrev pub letters_posted : {B : Type 0} → List (JournalEntry B) → ℕ
letters_posted [] = 0
letters_posted (Post actor first letters lost ∷ before) = letters_posted before + length letters
letters_posted (Draw actor id keep ∷ before) = letters_posted before
letters_posted (Lose actor id ∷ before) = letters_posted before
letters_posted (Local actor input ∷ before) = letters_posted before
letters_posted (Idle actor ∷ before) = letters_posted before
letters_posted (Refused actor ∷ before) = letters_posted before

-- the bytes of the bodies of letters
abbrev pub letter_bytes : {B : Type 0} → (B → ℕ) → List (Letter B) → ℕ
letter_bytes size letters = sum_by (λ l. size l.body) letters

-- the bytes of the letters that were posted, the lost ones too
abbrev pub bytes_posted : {B : Type 0} → (B → ℕ) → List (JournalEntry B) → ℕ
bytes_posted size [] = 0
bytes_posted size (Post actor first letters lost ∷ before) = bytes_posted size before + letter_bytes size letters
bytes_posted size (Draw actor id keep ∷ before) = bytes_posted size before
bytes_posted size (Lose actor id ∷ before) = bytes_posted size before
bytes_posted size (Local actor input ∷ before) = bytes_posted size before
bytes_posted size (Idle actor ∷ before) = bytes_posted size before
bytes_posted size (Refused actor ∷ before) = bytes_posted size before
