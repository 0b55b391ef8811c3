-- The words of a line as they are read. Each stands behind a space, and ends before the next space or the end of the
-- line. What is read is a value beside the bytes that come behind it, and None where none is there.
use Rattle.std.specs.Prelude.{◌≡◌, ℕ, ◌+◌, ◌-◌, ◌*◌, Bool, true, false, ◌==◌, ◌&&◌, ◌||◌, nat_eq, nat_le, List, [], ◌∷◌, length, take, drop, position, unwrap_or, is_some, Option, Some, None, codes, Result, Ok, Err, if◌then◌else◌}
use Rattle.std.specs.List.{starts_with}
use denote.Ref.{Bor}
use Rattle.numerals.specs.Numerals.{numeral_within}
use Rattle.journal.specs.declared.journal.Actor.{Actor}
use Rattle.journal.specs.declared.journal.Actor.TheVariants.{Controller, Switch}
use Rattle.report.specs.declared.fault.Misfit.{Misfit}
use Rattle.report.specs.declared.fault.Misfit.TheVariants as misfit

-- the next part is read where this one was
infixl 10 ◌>>=◌
abbrev pub ◌>>=◌ : {A B : Type 0} → Option A → (A → Option B) → Option B
(Some x) >>= f = f x
None >>= f = None

-- what a reader answered, seen by view, is what is read; want of memory says nothing
abbrev pub GivesText : {X Y : Type 0} → (X → Y) → Result X Misfit → Option Y → Type 0
GivesText view (Ok x) read = read ≡ Some (view x)
GivesText view (Err misfit.Text) read = read ≡ None
GivesText view (Err misfit.OutOfMemory) read = Unit {0}

-- the same of a reader that answers only what comes behind
abbrev pub PassesText : {A : Type 0} → Result (Bor (List ℕ)) Misfit → Option (A × List ℕ) → Type 0
PassesText {A = A} (Ok rest) read = (x : A) × (read ≡ Some (x, rest.now))
PassesText (Err misfit.Text) read = read ≡ None
PassesText (Err misfit.OutOfMemory) read = Unit {0}

-- what comes behind a text
unfoldable pub after_at : List ℕ → List ℕ → Option (List ℕ)
after_at text bytes = if starts_with nat_eq bytes text then Some (drop (length text) bytes) else None

-- what comes behind the end of a line
unfoldable pub end_at : List ℕ → Option (List ℕ)
end_at bytes = after_at (codes "\n") bytes

-- what comes behind a word that is known
unfoldable pub known_at : List ℕ → List ℕ → Option (List ℕ)
known_at name bytes = do
  rest ← after_at (codes " ") bytes
  after_at name rest

abbrev pub ends_word : ℕ → Bool
ends_word b = b == 32 || b == 10

-- the bytes before the first one that passes a test, and those from it on
abbrev pub length_before : (ℕ → Bool) → List ℕ → ℕ
length_before test text = unwrap_or (position test text) (length text)

abbrev pub cut_at : (ℕ → Bool) → List ℕ → List ℕ × List ℕ
cut_at test text = (take (length_before test text) text, drop (length_before test text) text)

unfoldable pub word_at : List ℕ → Option (List ℕ × List ℕ)
word_at bytes = do
  text ← after_at (codes " ") bytes
  Some (cut_at ends_word text)

-- a number of at most this
unfoldable pub number_in_text : ℕ → List ℕ → Option (ℕ × List ℕ)
number_in_text most bytes = do
  word ← word_at bytes
  n ← numeral_within most word.0
  Some (n, word.1)

abbrev pub number8_at : List ℕ → Option (ℕ × List ℕ)
number8_at bytes = number_in_text 255 bytes

abbrev pub number16_at : List ℕ → Option (ℕ × List ℕ)
number16_at bytes = number_in_text 65535 bytes

abbrev pub number32_at : List ℕ → Option (ℕ × List ℕ)
number32_at bytes = number_in_text 4294967295 bytes

abbrev pub number64_at : List ℕ → Option (ℕ × List ℕ)
number64_at bytes = number_in_text 18446744073709551615 bytes

-- a number behind its name
unfoldable pub labelled_at : List ℕ → List ℕ → Option (ℕ × List ℕ)
labelled_at name bytes = do
  rest ← known_at name bytes
  number64_at rest

abbrev pub actor_spelled : List ℕ → Option Actor
actor_spelled [] = None
actor_spelled (letter ∷ digits) = do
  n ← numeral_within 255 digits
  if letter == 99 then Some (Controller n) else if letter == 115 then Some (Switch n) else None

unfoldable pub actor_in_text : List ℕ → Option (Actor × List ℕ)
actor_in_text bytes = do
  word ← word_at bytes
  actor ← actor_spelled word.0
  Some (actor, word.1)

abbrev pub controller_spelled : Actor → Option ℕ
controller_spelled (Controller c) = Some c
controller_spelled (Switch s) = None

unfoldable pub controller_in_text : List ℕ → Option (ℕ × List ℕ)
controller_in_text bytes = do
  actor ← actor_in_text bytes
  c ← controller_spelled actor.0
  Some (c, actor.1)

-- a word that is a dash, or what is read otherwise
unfoldable pub dash_or : {A : Type 0} → (List ℕ → Option (A × List ℕ)) → List ℕ → Option (Option A × List ℕ)
dash_or read bytes =
    if starts_with nat_eq bytes (codes " -") then Some (None, drop 2 bytes)
    else (read bytes >>= λ found. Some (Some found.0, found.1))

abbrev pub flag_of : List ℕ → Option Bool
flag_of (digit ∷ []) = if digit == 49 then Some true else if digit == 48 then Some false else None
flag_of _ = None

-- 1 or 0, for what is so and what is not
unfoldable pub flag_in_text : List ℕ → Option (Bool × List ℕ)
flag_in_text bytes = do
  word ← word_at bytes
  flag ← flag_of word.0
  Some (flag, word.1)

abbrev pub is_dot : ℕ → Bool
is_dot b = b == 46

-- a number of one byte before a dot
unfoldable pub dotted_at : List ℕ → Option (ℕ × List ℕ)
dotted_at text = do
  n ← numeral_within 255 (cut_at is_dot text).0
  rest ← after_at (codes ".") (cut_at is_dot text).1
  Some (n, rest)

-- an address as its four bytes
unfoldable pub address_of : List ℕ → Option ℕ
address_of text = do
  a ← dotted_at text
  b ← dotted_at a.1
  c ← dotted_at b.1
  d ← numeral_within 255 c.1
  Some (16777216 * a.0 + 65536 * b.0 + 256 * c.0 + d)

unfoldable pub address_at : List ℕ → Option (ℕ × List ℕ)
address_at bytes = do
  word ← word_at bytes
  address ← address_of word.0
  Some (address, word.1)

-- a digit of base sixteen, in lower case
abbrev pub digit_of : ℕ → Option ℕ
digit_of d =
    if nat_le 48 d && nat_le d 57 then Some (d - 48) else if nat_le 97 d && nat_le d 102 then Some (d - 87) else None

abbrev pub is_text_digit : ℕ → Bool
is_text_digit d = is_some (digit_of d)

unfoldable pub byte_of : ℕ → ℕ → Option ℕ
byte_of high low = do
  h ← digit_of high
  l ← digit_of low
  Some (16 * h + l)

unfoldable pub digits_of : List ℕ → Option (List ℕ)
digits_of [] = Some []
digits_of (d ∷ []) = None
digits_of (high ∷ low ∷ digits) = do
  b ← byte_of high low
  bytes ← digits_of digits
  Some (b ∷ bytes)

-- bytes in base sixteen, or a dash for none
unfoldable pub hex_bytes : List ℕ → Option (List ℕ)
hex_bytes [] = None
hex_bytes (d ∷ digits) = if d == 45 then (if length digits == 0 then Some [] else None) else digits_of (d ∷ digits)

unfoldable pub hex_at : List ℕ → Option (List ℕ × List ℕ)
hex_at bytes = do
  word ← word_at bytes
  told ← hex_bytes word.0
  Some (told, word.1)

-- the same as the last word of a line
unfoldable pub last_hex_at : List ℕ → Option (List ℕ × List ℕ)
last_hex_at bytes = do
  told ← hex_at bytes
  rest ← end_at told.1
  Some (told.0, rest)
