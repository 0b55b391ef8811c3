-- Bytes in base sixteen at the end of a line, as they are passed in one walk over their digits.
use Rattle.std.proofs.Common.{◌≡◌, ℕ, zero, suc, ◌+◌, ◌*◌, ◌/◌, ◌%◌, ◌<◌, Bool, true, false, not, List, [], ◌∷◌, length, drop, take, get_or, refl, sym, ap, ◌∙◌, arith, inl, inr, ◌⊎◌, Result, Ok, Err}
use Rattle.std.specs.Prelude.{Option, Some, None, codes, is_some, ◌==◌, ◌&&◌}
use Rattle.std.specs.List.{list_all, prefix_len}
use Rattle.std.proofs.lemmas.Bool.{and_parts, cases_eq}
use Rattle.std.proofs.lemmas.List.Folds.{length-prefix_len}
use Rattle.std.proofs.lemmas.List.Sums.{prefix_len-le-length}
use denote.Ref.{Bor}
use Rattle.report.specs.declared.fault.Misfit.{Misfit}
use Rattle.report.specs.declared.fault.Misfit.TheVariants as misfit
use Rattle.report.specs.Spelled.{◌>>=◌, after_at, end_at, word_at, length_before, ends_word, byte_of, digit_of, digits_of, hex_bytes, hex_at, last_hex_at, is_text_digit, GivesText, PassesText}
use Rattle.report.proofs.Steps.{odd_digits, other_digits}
use Rattle.report.proofs.Texts.{after_takes, after_again, end_takes, length_is, not_same, some_is}

-- how many digits a text begins with, and how many bytes its first word has
abbrev digits_len : List ℕ → ℕ
digits_len text = prefix_len (λ d. not (not (is_text_digit d))) text

abbrev word_len : List ℕ → ℕ
word_len text = prefix_len (λ b. not (ends_word b)) text

before_is : (test : ℕ → Bool) (text : List ℕ) → length_before test text ≡ prefix_len (λ b. not (test b)) text
before_is test text = length_is (prefix_len (λ b. not (test b)) text) (length text) (prefix_len-le-length (λ b. not (test b)) text)

digit_is_not : (d n : ℕ) → is_text_digit n ≡ false → is_text_digit d ≡ true → (d == n) ≡ false
digit_is_not d n other digit = not_same d n (λ same. absurd cc (digit, other, ap (λ (b : ℕ). is_text_digit b) same))

digit_goes_on : (d : ℕ) → is_text_digit d ≡ true → ends_word d ≡ false
digit_goes_on d digit = rw (digit_is_not d 32 refl digit, digit_is_not d 10 refl digit) refl

word_longer : (d : ℕ) (text : List ℕ) → ends_word d ≡ false → word_len (d ∷ text) ≡ suc (word_len text)
word_longer d text goes = rw goes (omega arith)

digits_longer : (d : ℕ) (text : List ℕ) → is_text_digit d ≡ true → digits_len (d ∷ text) ≡ suc (digits_len text)
digits_longer d text digit = rw digit (omega arith)

-- what does not end a word does not end a line
goes_on : (d : ℕ) (text : List ℕ) → ends_word d ≡ false → end_at (d ∷ text) ≡ None
goes_on d text e = by (end_at (d ∷ text)) refl
  where
    by : (o : Option (List ℕ)) → end_at (d ∷ text) ≡ o → o ≡ None
    by None is = refl
    by (Some rest) is = let first : d ≡ 10 = ap (λ (l : List ℕ). get_or l 0 0) (end_takes (d ∷ text) rest is) in absurd cc (e, ap (λ (b : ℕ). ends_word b) first)

-- ---- the digits and the word

-- the digits are the word
abbrev AreWord : List ℕ → Type 0
AreWord text = (word_len text ≡ digits_len text) × (list_all is_text_digit (take (digits_len text) text) ≡ true)

-- a byte of the word is no digit, and the line does not end where the digits do
abbrev AreOther : List ℕ → Type 0
AreOther text = (list_all is_text_digit (take (word_len text) text) ≡ false) × (end_at (drop (digits_len text) text) ≡ None)

one_more : (d : ℕ) (text : List ℕ) → AreWord text ⊎ AreOther text → AreWord (d ∷ text) ⊎ AreOther (d ∷ text)
one_more d text tail = by (is_text_digit d) refl
  where
    by : (b : Bool) → is_text_digit d ≡ b → AreWord (d ∷ text) ⊎ AreOther (d ∷ text)
    by true digit =
        let long = word_longer d text (digit_goes_on d digit) in
        let more = digits_longer d text digit in
        elim tail [
          | inl word ↦ inl (long ∙ ap suc word.0 ∙ sym more, ap (λ n. list_all is_text_digit (take n (d ∷ text))) more ∙ rw digit word.1)
          | inr other ↦ inr (ap (λ n. list_all is_text_digit (take n (d ∷ text))) long ∙ rw digit other.0, ap (λ n. end_at (drop n (d ∷ text))) more ∙ other.1)
        ]
    by false other = last (ends_word d) refl
      where
        last : (b : Bool) → ends_word d ≡ b → AreWord (d ∷ text) ⊎ AreOther (d ∷ text)
        last true ends = inl (rw (other, ends) refl, rw other refl)
        last false goes = inr (ap (λ n. list_all is_text_digit (take n (d ∷ text))) (word_longer d text goes) ∙ rw other refl, rw other (goes_on d text goes))

fronts : (text : List ℕ) → AreWord text ⊎ AreOther text
fronts [] = inl (refl, refl)
fronts (d ∷ text) = one_more d text (fronts text)

-- ---- what is read

abbrev told : List ℕ → List ℕ → Option (List ℕ × List ℕ)
told bytes rest = Some (bytes, rest)

-- the last word of a line, which has so many bytes
abbrev told_by : ℕ → List ℕ → Option (List ℕ × List ℕ)
told_by len text = hex_bytes (take len text) >>= λ bytes. end_at (drop len text) >>= λ rest. told bytes rest

abbrev pub told_line : List ℕ → Option (List ℕ × List ℕ)
told_line text = told_by (word_len text) text

told_then : (o : Option (List ℕ)) (behind : List ℕ) →
    ((o >>= λ bytes. told bytes behind) >>= λ x. end_at x.1 >>= λ rest. told x.0 rest) ≡ (o >>= λ bytes. end_at behind >>= λ rest. told bytes rest)
told_then None behind = refl
told_then (Some bytes) behind = refl

last_is : (bytes text : List ℕ) → after_at (codes " ") bytes ≡ Some text → last_hex_at bytes ≡ told_line text
unfolding last_hex_at hex_at word_at
last_is bytes text e = rw (e, before_is ends_word text) (told_then (hex_bytes (take (word_len text) text)) (drop (word_len text) text))

pub last_none : (bytes : List ℕ) → after_at (codes " ") bytes ≡ None → last_hex_at bytes ≡ None
unfolding last_hex_at hex_at word_at
last_none bytes e = rw e refl

-- what comes behind
abbrev pub rest_of : {A : Type 0} → Option (A × List ℕ) → Option (List ℕ)
rest_of None = None
rest_of (Some x) = Some x.1

told_rest : (bytes : List ℕ) (o : Option (List ℕ)) → rest_of (o >>= λ rest. told bytes rest) ≡ o
told_rest bytes None = refl
told_rest bytes (Some rest) = refl

none_told : (o : Option (List ℕ)) → o ≡ None → (behind : List ℕ) → rest_of (o >>= λ bytes. end_at behind >>= λ rest. told bytes rest) ≡ None
none_told None e behind = refl
none_told (Some bytes) e behind = absurd cc

-- an even number of digits tells bytes
even_digits : (k : ℕ) (digits : List ℕ) → length digits ≡ 2 * k → list_all is_text_digit digits ≡ true → (bytes : List ℕ) × (digits_of digits ≡ Some bytes)
unfolding digits_of byte_of
even_digits zero [] long all = ([], refl)
even_digits zero (d ∷ digits) long all = absurd (omega (arith, long))
even_digits (suc k) [] long all = absurd (omega (arith, long))
even_digits (suc k) (d ∷ []) long all = absurd (omega (arith, long))
even_digits (suc k) (high ∷ low ∷ digits) long all =
    let one = and_parts (is_text_digit high) (is_text_digit low && list_all is_text_digit digits) all in
    let two = and_parts (is_text_digit low) (list_all is_text_digit digits) one.1 in
    let more = even_digits k digits (omega (arith, long)) two.1 in
    pair (digit_of high) refl one.0 (digit_of low) refl two.0 more.0 more.1
  where
    pair : (h : Option ℕ) → digit_of high ≡ h → is_some h ≡ true → (l : Option ℕ) → digit_of low ≡ l → is_some l ≡ true → (others : List ℕ) → digits_of digits ≡ Some others →
        (bytes : List ℕ) × (digits_of (high ∷ low ∷ digits) ≡ Some bytes)
    pair None e digit l f other others more = absurd cc
    pair (Some x) e digit None f other others more = absurd cc
    pair (Some x) e digit (Some y) f other others more = ((16 * x + y) ∷ others, rw (e, f, more) refl)

hex_digits : (text : List ℕ) → 0 < digits_len text → hex_bytes (take (word_len text) text) ≡ digits_of (take (word_len text) text)
unfolding hex_bytes
hex_digits [] some = absurd (omega (arith, some))
hex_digits (d ∷ text) some = by (is_text_digit d) refl some
  where
    by : (b : Bool) → is_text_digit d ≡ b → 0 < digits_len (d ∷ text) → hex_bytes (take (word_len (d ∷ text)) (d ∷ text)) ≡ digits_of (take (word_len (d ∷ text)) (d ∷ text))
    by true digit some =
        let long = word_longer d text (digit_goes_on d digit) in
        let digits : hex_bytes (d ∷ take (word_len text) text) ≡ digits_of (d ∷ take (word_len text) text) = rw (digit_is_not d 45 refl digit) refl in
        ap (λ n. hex_bytes (take n (d ∷ text))) long ∙ digits ∙ ap (λ n. digits_of (take n (d ∷ text))) (sym long)
    by false other some = let less = rw other at some in absurd (omega (arith, less))

digits_long : (text : List ℕ) → length (take (digits_len text) text) ≡ digits_len text
digits_long text = length-prefix_len (λ d. not (not (is_text_digit d))) text

odd_rest : (text : List ℕ) → digits_len text % 2 ≡ 1 → rest_of (told_line text) ≡ None
odd_rest text odd = none_told (hex_bytes (take (word_len text) text)) (hex_digits text (omega (arith, odd)) ∙ none (fronts text)) (drop (word_len text) text)
  where
    none : AreWord text ⊎ AreOther text → digits_of (take (word_len text) text) ≡ None
    none (inl word) = ap (λ n. digits_of (take n text)) word.0 ∙ odd_digits (digits_len text / 2) (take (digits_len text) text) (omega (arith, odd, digits_long text))
    none (inr other) = other_digits (take (word_len text) text) other.0

even_rest : (text : List ℕ) → 0 < digits_len text → digits_len text % 2 ≡ 0 → rest_of (told_line text) ≡ end_at (drop (digits_len text) text)
even_rest text some even = by (fronts text)
  where
    by : AreWord text ⊎ AreOther text → rest_of (told_line text) ≡ end_at (drop (digits_len text) text)
    by (inl word) =
        let bytes = even_digits (digits_len text / 2) (take (digits_len text) text) (omega (arith, even, digits_long text)) word.1 in
        let read : hex_bytes (take (word_len text) text) ≡ Some bytes.0 = hex_digits text some ∙ ap (λ n. digits_of (take n text)) word.0 ∙ bytes.1 in
        rw read (told_rest bytes.0 (end_at (drop (word_len text) text))) ∙ ap (λ n. end_at (drop n text)) word.0
    by (inr other) =
        none_told (hex_bytes (take (word_len text) text)) (hex_digits text some ∙ other_digits (take (word_len text) text) other.0) (drop (word_len text) text) ∙ sym other.1

dash_first : (text : List ℕ) → rest_of (told_line (45 ∷ text)) ≡ end_at text
unfolding hex_bytes
dash_first [] = told_rest [] (end_at [])
dash_first (d ∷ text) = by (ends_word d) refl
  where
    by : (b : Bool) → ends_word d ≡ b → rest_of (told_line (45 ∷ d ∷ text)) ≡ end_at (d ∷ text)
    by true ends = rw ends (told_rest [] (end_at (d ∷ text)))
    by false goes =
        let none : rest_of (told_by (suc (suc (word_len text))) (45 ∷ d ∷ text)) ≡ None = rw (not_same (length (d ∷ take (word_len text) text)) 0 (λ e. absurd (omega (arith, e)))) refl in
        ap (λ n. rest_of (told_by n (45 ∷ d ∷ text))) (word_longer 45 (d ∷ text) refl ∙ ap suc (word_longer d text goes)) ∙ none ∙ sym (goes_on d text goes)

-- what is neither a digit nor a dash tells no bytes
other_first : (d : ℕ) (text : List ℕ) → is_text_digit d ≡ false → (d == 45) ≡ false → hex_bytes (take (word_len (d ∷ text)) (d ∷ text)) ≡ None
unfolding hex_bytes
other_first d text other apart = by (ends_word d) refl
  where
    by : (b : Bool) → ends_word d ≡ b → hex_bytes (take (word_len (d ∷ text)) (d ∷ text)) ≡ None
    by true ends = rw ends refl
    by false goes =
        let none : hex_bytes (d ∷ take (word_len text) text) ≡ None = rw apart (other_digits (d ∷ take (word_len text) text) (rw other refl)) in
        ap (λ n. hex_bytes (take n (d ∷ text))) (word_longer d text goes) ∙ none

no_dash_at : (d : ℕ) (text : List ℕ) → (d ≡ 45 → ⊥) → after_at (codes "-") (d ∷ text) ≡ None
no_dash_at d text apart = by (after_at (codes "-") (d ∷ text)) refl
  where
    by : (o : Option (List ℕ)) → after_at (codes "-") (d ∷ text) ≡ o → o ≡ None
    by None is = refl
    by (Some rest) is = absurd (apart (ap (λ (l : List ℕ). get_or l 0 0) (after_takes (codes "-") (d ∷ text) rest is)))

no_dash_in : after_at (codes "-") [] ≡ None
unfolding after_at
no_dash_in = refl

dash_rest : (text : List ℕ) → digits_len text ≡ 0 → rest_of (told_line text) ≡ (after_at (codes "-") text >>= λ rest. end_at rest)
unfolding hex_bytes
dash_rest [] none = rw no_dash_in refl
dash_rest (d ∷ text) none = by (is_text_digit d) refl none
  where
    by : (b : Bool) → is_text_digit d ≡ b → digits_len (d ∷ text) ≡ 0 → rest_of (told_line (d ∷ text)) ≡ (after_at (codes "-") (d ∷ text) >>= λ rest. end_at rest)
    by true digit none = let some = rw digit at none in absurd (omega (arith, some))
    by false other none = elim (cases_eq d 45) [
      | inl same ↦ let dash : after_at (codes "-") (45 ∷ text) ≡ Some text = after_again (codes "-") text in rw (same, dash) (dash_first text)
      | inr apart ↦ rw (no_dash_at d text apart) (none_told (hex_bytes (take (word_len (d ∷ text)) (d ∷ text))) (other_first d text other (not_same d 45 apart)) (drop (word_len (d ∷ text)) (d ∷ text)))
    ]

-- ---- the answer

pub passes_is : {A : Type 0} (result : Result (Bor (List ℕ)) Misfit) (read : Option (A × List ℕ)) (passed : Option (List ℕ)) → rest_of read ≡ passed → GivesText (λ rest. rest.now) result passed → PassesText result read
passes_is {A = A} (Ok rest) read passed is gives = by read (is ∙ gives)
  where
    by : (read : Option (A × List ℕ)) → rest_of read ≡ Some rest.now → (x : A) × (read ≡ Some (x, rest.now))
    by None e = absurd cc
    by (Some x) e = (x.0, ap (λ (r : List ℕ). Some (x.0, r)) (some_is x.1 rest.now e))
passes_is {A = A} (Err misfit.Text) read passed is gives = by read (is ∙ gives)
  where
    by : (read : Option (A × List ℕ)) → rest_of read ≡ None → read ≡ None
    by None e = refl
    by (Some x) e = absurd cc
passes_is (Err misfit.OutOfMemory) read passed is gives = tt

pub fails_so : {A B X : Type 0} (view : X → A) (e : Misfit) (read : Option A) (whole : Option (B × List ℕ)) → (read ≡ None → whole ≡ None) → GivesText view (Err e) read → PassesText (Err e) whole
fails_so view misfit.Text read whole none fails = none fails
fails_so view misfit.OutOfMemory read whole none fails = tt

none_is : {A : Type 0} (read : Option (A × List ℕ)) → rest_of read ≡ None → read ≡ None
none_is None e = refl
none_is (Some x) e = absurd cc

module _ (bytes text : List ℕ) (len : ℕ) (behind : after_at (codes " ") bytes ≡ Some text) (is : len ≡ length_before (λ b. not (is_text_digit b)) text) where
  digits_are : digits_len text ≡ len
  digits_are = sym (is ∙ before_is (λ b. not (is_text_digit b)) text)

  pub dash_passed : len ≡ 0 → rest_of (last_hex_at bytes) ≡ (after_at (codes "-") text >>= λ rest. end_at rest)
  dash_passed none = ap (λ o. rest_of o) (last_is bytes text behind) ∙ dash_rest text (digits_are ∙ none)

  pub no_dash : len ≡ 0 → after_at (codes "-") text ≡ None → last_hex_at bytes ≡ None
  no_dash none other = none_is (last_hex_at bytes) (dash_passed none ∙ rw other refl)

  pub odd_passed : len % 2 ≡ 1 → last_hex_at bytes ≡ None
  odd_passed odd = none_is (last_hex_at bytes) (ap (λ o. rest_of o) (last_is bytes text behind) ∙ odd_rest text (ap (λ n. n % 2) digits_are ∙ odd))

  pub even_passed : 0 < len → len % 2 ≡ 0 → rest_of (last_hex_at bytes) ≡ end_at (drop len text)
  even_passed some even =
      ap (λ o. rest_of o) (last_is bytes text behind) ∙ even_rest text (omega (arith, some, digits_are)) (ap (λ n. n % 2) digits_are ∙ even) ∙ ap (λ n. end_at (drop n text)) digits_are
