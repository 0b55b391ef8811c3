-- Bytes in base sixteen as they are read.
use Rattle.std.proofs.Common.{◌≡◌, ℕ, zero, suc, ◌+◌, ◌*◌, ◌≤◌, ◌<◌, Bool, true, false, List, [], ◌∷◌, ◌++◌, length, drop, take, get_or, set, refl, sym, ◌∙◌, ap, arith}
use Rattle.std.specs.Prelude.{Option, Some, None, is_some, ◌&&◌}
use Rattle.std.specs.List.{list_all}
use Rattle.std.proofs.Math.Seq.{take-suc-set}
use Rattle.std.proofs.lemmas.Bool.{and_parts}
use Rattle.std.proofs.lemmas.List.{append-nil, append_assoc, take_all}
use Rattle.report.specs.Spelled.{◌>>=◌, byte_of, digit_of, digits_of, is_text_digit}

-- an odd number of digits tells no bytes
none_after : (o : Option ℕ) → (o >>= λ b. None >>= λ bytes. Some (b ∷ bytes)) ≡ None
none_after None = refl
none_after (Some b) = refl

pub odd_digits : (k : ℕ) (digits : List ℕ) → length digits ≡ 2 * k + 1 → digits_of digits ≡ None
unfolding digits_of
odd_digits zero [] long = absurd (omega (arith, long))
odd_digits zero (d ∷ []) long = refl
odd_digits zero (d ∷ e ∷ digits) long = absurd (omega (arith, long))
odd_digits (suc k) [] long = absurd (omega (arith, long))
odd_digits (suc k) (d ∷ []) long = absurd (omega (arith, long))
odd_digits (suc k) (high ∷ low ∷ digits) long = rw (odd_digits k digits (omega (arith, long))) (none_after (byte_of high low))

-- nor do bytes of which one is no digit
pair_none : (h l : Option ℕ) (more : Bool) (others : Option (List ℕ)) → (is_some h && (is_some l && more)) ≡ false → (more ≡ false → others ≡ None) →
    ((h >>= λ x. l >>= λ y. Some (16 * x + y)) >>= λ b. others >>= λ bytes. Some (b ∷ bytes)) ≡ None
pair_none None l more others e none = refl
pair_none (Some x) None more others e none = refl
pair_none (Some x) (Some y) more others e none = rw (none e) refl

pub other_digits : (digits : List ℕ) → list_all is_text_digit digits ≡ false → digits_of digits ≡ None
unfolding digits_of byte_of
other_digits [] e = absurd cc
other_digits (d ∷ []) e = refl
other_digits (high ∷ low ∷ digits) e = pair_none (digit_of high) (digit_of low) (list_all is_text_digit digits) (digits_of digits) e (other_digits digits)

-- bytes behind those that were read before
abbrev pub behind : List ℕ → Option (List ℕ) → Option (List ℕ)
behind front None = None
behind front (Some more) = Some (front ++ more)

one_more : (front : List ℕ) (b : ℕ) (o : Option (List ℕ)) → behind (front ++ b ∷ []) o ≡ behind front (o >>= λ bytes. Some (b ∷ bytes))
one_more front b None = refl
one_more front b (Some bytes) = ap (λ l. Some l) (append_assoc front (b ∷ []) bytes)

byte_is : (high low h l : ℕ) → digit_of high ≡ Some h → digit_of low ≡ Some l → byte_of high low ≡ Some (16 * h + l)
unfolding byte_of
byte_is high low h l e f = rw (e, f) refl

pair_more : (front rest : List ℕ) (b : ℕ) → 2 ≤ length rest → byte_of (get_or (take 2 rest) 0 0) (get_or (take 2 rest) 1 0) ≡ Some b → behind (front ++ b ∷ []) (digits_of (drop 2 rest)) ≡ behind front (digits_of rest)
unfolding digits_of
pair_more front [] b two e = absurd (omega (arith, two))
pair_more front (high ∷ []) b two e = absurd (omega (arith, two))
pair_more front (high ∷ low ∷ rest) b two e = rw e (one_more front b (digits_of rest))

-- one byte more is read
pub byte_read : (digits bytes rest : List ℕ) (i h l : ℕ) → 2 ≤ length rest → i < length bytes → digit_of (get_or (take 2 rest) 0 0) ≡ Some h → digit_of (get_or (take 2 rest) 1 0) ≡ Some l →
    behind (take i bytes) (digits_of rest) ≡ digits_of digits → behind (take (i + 1) (set bytes i (16 * h + l))) (digits_of (drop 2 rest)) ≡ digits_of digits
byte_read digits bytes rest i h l two room high low read =
    let b = 16 * h + l in
    let one : i + 1 ≡ suc i = omega arith in
    let taken : take (i + 1) (set bytes i b) ≡ take i bytes ++ b ∷ [] = ap (λ n. take n (set bytes i b)) one ∙ take-suc-set bytes i b room in
    ap (λ f. behind f (digits_of (drop 2 rest))) taken ∙ pair_more (take i bytes) rest b two (byte_is _ _ h l high low) ∙ read

-- what is behind digits is digits
pub digits_behind : (rest : List ℕ) → list_all is_text_digit rest ≡ true → list_all is_text_digit (drop 2 rest) ≡ true
digits_behind [] all = refl
digits_behind (d ∷ []) all = refl
digits_behind (high ∷ low ∷ rest) all = (and_parts (is_text_digit low) (list_all is_text_digit rest) (and_parts (is_text_digit high) (is_text_digit low && list_all is_text_digit rest) all).1).1

-- all bytes are read
none_left : (rest : List ℕ) → length rest ≡ 0 → digits_of rest ≡ Some []
unfolding digits_of
none_left [] none = refl
none_left (d ∷ rest) none = absurd (omega (arith, none))

pub bytes_read : (digits bytes rest : List ℕ) (i : ℕ) → length rest ≡ 0 → length bytes ≤ i → behind (take i bytes) (digits_of rest) ≡ digits_of digits → digits_of digits ≡ Some bytes
bytes_read digits bytes rest i none all read =
    sym read ∙ ap (λ o. behind (take i bytes) o) (none_left rest none) ∙ ap (λ l. Some l) (append-nil (take i bytes) ∙ take_all i bytes all)
