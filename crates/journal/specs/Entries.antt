-- The entries of a journal, kept apart from their letters.
use Rattle.std.specs.Prelude.{◌≡◌, ℕ, ◌+◌, List, [], ◌∷◌, length, take, drop}
use Rattle.journal.specs.declared.entries.Head.{Head}
use Rattle.journal.specs.declared.entries.Head.TheVariants as head
use Rattle.journal.specs.declared.journal.JournalEntry.{JournalEntry}
use Rattle.journal.specs.declared.journal.JournalEntry.TheVariants.{Post, Draw, Lose, Local, Idle, Refused}
use Rattle.journal.specs.declared.journal.Letter.{Letter}

-- what contracts see of entries: they themselves, the letters of a post that is to come
-- with the number of the first, and for how many more there is memory
pub record EntriesState (B : Type 0) : Type 0 where
  pub items : List (JournalEntry B)
  pub coming : List (Letter B)
  pub next : ℕ
  pub room : ℕ

-- an entry with these letters
abbrev pub entry_with : {B : Type 0} → List (Letter B) → Head → JournalEntry B
entry_with letters (head.Post actor first count lost) = Post actor first letters lost
entry_with letters (head.Draw actor id keep) = Draw actor id keep
entry_with letters (head.Lose actor id) = Lose actor id
entry_with letters (head.Local actor input) = Local actor input
entry_with letters (head.Idle actor) = Idle actor
entry_with letters (head.Refused actor) = Refused actor

-- the letters of an entry, where these are those of all posts: so many from its first on
abbrev pub letters_at : {B : Type 0} → List (Letter B) → Head → List (Letter B)
letters_at letters (head.Post actor first count lost) = take count (drop first letters)
letters_at letters _ = []

abbrev pub whole_entry : {B : Type 0} → List (Letter B) → Head → JournalEntry B
whole_entry letters h = entry_with (letters_at letters h) h

-- an entry that is no post
abbrev pub IsBare : Head → Type 0
IsBare (head.Post actor first count lost) = ⊥
IsBare _ = Unit {0}

abbrev pub entry_without : {B : Type 0} → Head → JournalEntry B
entry_without h = entry_with [] h

-- an entry without its letters
abbrev pub head_of : {B : Type 0} → JournalEntry B → Head
head_of (Post actor first letters lost) = head.Post actor first (length letters) lost
head_of (Draw actor id keep) = head.Draw actor id keep
head_of (Lose actor id) = head.Lose actor id
head_of (Local actor input) = head.Local actor input
head_of (Idle actor) = head.Idle actor
head_of (Refused actor) = head.Refused actor

-- how many letters an entry has
abbrev pub letter_count : Head → ℕ
letter_count (head.Post actor first count lost) = count
letter_count _ = 0

-- posts have their letters one after another, from the one number up to the other
abbrev pub StartsAt : ℕ → Head → Type 0
StartsAt from (head.Post actor first count lost) = first ≡ from
StartsAt from _ = Unit {0}

abbrev pub Tile : ℕ → List Head → ℕ → Type 0
Tile from [] to = from ≡ to
Tile from (h ∷ heads) to = StartsAt from h × Tile (from + letter_count h) heads to
