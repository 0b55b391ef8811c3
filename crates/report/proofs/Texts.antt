-- The words of a line: what is read was spelled so, and what is spelled so is read.
use Rattle.std.proofs.Common.{◌≡◌, ℕ, zero, suc, ◌^◌, ◌≤◌, ◌<◌, Bool, true, false, List, [], ◌∷◌, ◌++◌, length, drop, get_or, refl, sym, ap, ◌∙◌, arith, cond, inl, inr}
use Rattle.std.specs.Prelude.{Option, Some, None, not, nat_eq, nat_le, nat_lt, unwrap_or, ◌==◌}
use Rattle.std.specs.List.{starts_with, position_or_len}
use Rattle.std.specs.Fmt.{decimal}
use Rattle.std.proofs.lemmas.Bool.{and_parts, cases_lt, lt-ltb, le-ltb, leb-true, le-leb}
use Rattle.std.proofs.lemmas.Bool.Decides.{Decides-eqb, eqb_tells}
use Rattle.std.proofs.lemmas.List.{take-append-drop, length-append, get_or_append_left}
use Rattle.std.proofs.lemmas.List.Sums.{position_or_len_is}
use Rattle.std.proofs.lemmas.Slice.Eq.{starts_is}
use Rattle.std.proofs.Math.Seq.{drop-append_seam, take-append_seam}
use Rattle.numerals.specs.Numerals.{is_digit, are_digits, is_numeral, numeral, numeral_within}
use Rattle.numerals.proofs.Decimal.{decimal_is, numeral_again, numeral_spells}
use Rattle.report.specs.Report.{word, newline, number_text}
use Rattle.report.specs.Spelled.{◌>>=◌, after_at, end_at, known_at, word_at, cut_at, length_before, ends_word, number_in_text}

-- ---- steps

-- the parts of what was read one after another
pub bind_some : {A B : Type 0} (o : Option A) (f : A → Option B) (y : B) → (o >>= f) ≡ Some y → (x : A) × (o ≡ Some x) × (f x ≡ Some y)
bind_some (Some x) f y e = (x, refl, e)
bind_some None f y e = absurd cc

-- what was read where a test passed
pub passed : {A : Type 0} (b : Bool) (o : Option A) (y : A) → cond b o None ≡ Some y → (b ≡ true) × (o ≡ Some y)
passed true o y e = (refl, e)
passed false o y e = absurd cc

abbrev some : {A : Type 0} → A → Option A
some x = Some x

pub some_is : {A : Type 0} (x y : A) → some x ≡ some y → x ≡ y
some_is x y e = cc

-- ---- texts

pub begins_is : (text bytes : List ℕ) → starts_with nat_eq bytes text ≡ true → bytes ≡ text ++ drop (length text) bytes
begins_is text bytes e = (starts_is Decides-eqb bytes text (starts_with nat_eq bytes text) refl).0 e

pub begins_again : (text rest : List ℕ) → starts_with nat_eq (text ++ rest) text ≡ true
begins_again text rest = (starts_is Decides-eqb (text ++ rest) text (starts_with nat_eq (text ++ rest) text) refl).1 rest refl

pub after_takes : (text bytes rest : List ℕ) → after_at text bytes ≡ Some rest → bytes ≡ text ++ rest
unfolding after_at
after_takes text bytes rest e =
    let p = passed (starts_with nat_eq bytes text) (Some (drop (length text) bytes)) rest e in
    begins_is text bytes p.0 ∙ ap (λ r. text ++ r) (some_is (drop (length text) bytes) rest p.1)

pub after_again : (text rest : List ℕ) → after_at text (text ++ rest) ≡ Some rest
unfolding after_at
after_again text rest = rw (begins_again text rest, drop-append_seam text rest) refl

pub end_takes : (bytes rest : List ℕ) → end_at bytes ≡ Some rest → bytes ≡ newline ++ rest
unfolding end_at
end_takes bytes rest e = after_takes newline bytes rest e

pub end_again : (rest : List ℕ) → end_at (newline ++ rest) ≡ Some rest
unfolding end_at
end_again rest = after_again newline rest

pub known_takes : (name bytes rest : List ℕ) → known_at name bytes ≡ Some rest → bytes ≡ word name ++ rest
unfolding known_at word
known_takes name bytes rest e =
    let a = bind_some (after_at (32 ∷ []) bytes) (λ more. after_at name more) rest e in
    after_takes (32 ∷ []) bytes a.0 a.1 ∙ ap (λ l. 32 ∷ l) (after_takes name a.0 rest a.2)

pub known_again : (name rest : List ℕ) → known_at name (word name ++ rest) ≡ Some rest
unfolding known_at word
known_again name rest = rw (after_again (32 ∷ []) (name ++ rest)) (after_again name rest)

-- ---- words

-- what may stand behind a word
abbrev pub IsParted : List ℕ → Type 0
IsParted rest = ends_word (get_or rest 0 10) ≡ true

-- no byte ends a word
abbrev pub IsWord : List ℕ → Type 0
IsWord text = (i : ℕ) → i < length text → ends_word (get_or text i 10) ≡ false

pub word_takes : (bytes text rest : List ℕ) → word_at bytes ≡ Some (text, rest) → bytes ≡ word text ++ rest
unfolding word_at word
word_takes bytes text rest e =
    let a = bind_some (after_at (32 ∷ []) bytes) (λ more. Some (cut_at ends_word more)) (text, rest) e in
    let cut = some_is (cut_at ends_word a.0) (text, rest) a.2 in
    after_takes (32 ∷ []) bytes a.0 a.1 ∙ ap (λ l. 32 ∷ l) (sym (take-append-drop (length_before ends_word a.0) a.0)) ∙ ap (λ (p : List ℕ × List ℕ). 32 ∷ (p.0 ++ p.1)) cut

get-seam : (xs ys : List ℕ) (d : ℕ) → get_or (xs ++ ys) (length xs) d ≡ get_or ys 0 d
get-seam [] ys d = refl
get-seam (x ∷ xs) ys d = get-seam xs ys d

-- the first byte that passes a test
first_there : (test : ℕ → Bool) (text rest : List ℕ) → ((i : ℕ) → i < length text → test (get_or text i 10) ≡ false) → test (get_or rest 0 10) ≡ true → position_or_len test (text ++ rest) ≡ length text
first_there test text rest is there =
    position_or_len_is test (text ++ rest) (length text) 10 (omega (arith, length-append text rest))
    (λ k less. rw (get_or_append_left text rest 10 k less) (is k less)) (λ less. rw (get-seam text rest 10) there)

pub length_is : (n m : ℕ) → n ≤ m → unwrap_or (cond (nat_lt n m) (Some n) None) m ≡ n
length_is n m le =
    elim (cases_lt n m) [
      | inl lt ↦ rw (lt-ltb n m lt) refl
      | inr past ↦ rw (le-ltb n m past) (omega arith)
    ]

before_first : (test : ℕ → Bool) (text rest : List ℕ) → ((i : ℕ) → i < length text → test (get_or text i 10) ≡ false) → test (get_or rest 0 10) ≡ true → length_before test (text ++ rest) ≡ length text
before_first test text rest is there = rw (first_there test text rest is there) (length_is (length text) (length (text ++ rest)) (omega (arith, length-append text rest)))

abbrev cut : List ℕ → List ℕ → List ℕ × List ℕ
cut front rest = (front, rest)

-- a text is cut before the first byte that passes a test
pub cut_again : (test : ℕ → Bool) (text rest : List ℕ) → ((i : ℕ) → i < length text → test (get_or text i 10) ≡ false) → test (get_or rest 0 10) ≡ true → cut_at test (text ++ rest) ≡ cut text rest
cut_again test text rest is there = rw (before_first test text rest is there, take-append_seam text rest, drop-append_seam text rest) refl

pub word_again : (text rest : List ℕ) → IsWord text → IsParted rest → word_at (word text ++ rest) ≡ Some (text, rest)
unfolding word_at word
word_again text rest is parted =
    rw (after_again (32 ∷ []) (text ++ rest)) (ap (λ (c : List ℕ × List ℕ). Some c) (cut_again ends_word text rest is parted))

-- ---- numbers

pub within_takes : (most n : ℕ) (text : List ℕ) → numeral_within most text ≡ Some n → (numeral text ≡ Some n) × (n ≤ most)
unfolding numeral_within
within_takes most n text e = held (numeral text) e
  where
    held : (o : Option ℕ) → (elim o [ None ↦ None | Some m ↦ cond (nat_le m most) (Some m) None ]) ≡ Some n → (o ≡ Some n) × (n ≤ most)
    held None e = absurd cc
    held (Some m) e = let p = passed (nat_le m most) (Some m) n e in let same = some_is m n p.1 in (ap some same, omega (arith, leb-true m most p.0, same))

-- a number of at most this is read as it is written
pub number_takes : (most : ℕ) (bytes : List ℕ) (n : ℕ) (rest : List ℕ) → most < 2 ^ 64 → number_in_text most bytes ≡ Some (n, rest) → (bytes ≡ word (number_text n) ++ rest) × (n ≤ most)
unfolding number_in_text number_text
number_takes most bytes n rest small e =
    let a = bind_some (word_at bytes) (λ w. numeral_within most w.0 >>= λ m. Some (m, w.1)) (n, rest) e in
    let b = bind_some (numeral_within most a.0.0) (λ m. Some (m, a.0.1)) (n, rest) a.2 in
    let same = some_is (b.0, a.0.1) (n, rest) b.2 in
    let within = within_takes most b.0 a.0.0 b.1 in
    let spelled = numeral_spells a.0.0 b.0 within.0 (omega (arith, within.1, small)) in (
      word_takes bytes a.0.0 a.0.1 a.1 ∙ ap (λ t. word t ++ a.0.1) spelled ∙ ap (λ (p : ℕ × List ℕ). word (decimal p.0) ++ p.1) same,
      omega (arith, within.1, ap (λ (p : ℕ × List ℕ). p.0) same),
    )

pub not_same : (a b : ℕ) → (a ≡ b → ⊥) → (a == b) ≡ false
not_same a b differ = elim (eqb_tells a b) [ inl p ↦ absurd (differ p.1) | inr p ↦ p.0 ]

digit_goes_on : (d : ℕ) → is_digit d ≡ true → ends_word d ≡ false
digit_goes_on d e =
    let p = and_parts (nat_le 48 d) (nat_le d 57) e in
    let low = leb-true 48 d p.0 in
    rw (not_same d 32 (λ same. absurd (omega (arith, low, same))), not_same d 10 (λ same. absurd (omega (arith, low, same)))) refl

pub digits_word : (ds : List ℕ) → are_digits ds ≡ true → IsWord ds
digits_word [] e i less = absurd (omega arith)
digits_word (d ∷ ds) e zero less = let p = and_parts (is_digit d) (are_digits ds) e in digit_goes_on d p.0
digits_word (d ∷ ds) e (suc i) less = let p = and_parts (is_digit d) (are_digits ds) e in digits_word ds p.1 i (omega arith)

pub numeral_digits : (ds : List ℕ) → is_numeral ds ≡ true → are_digits ds ≡ true
numeral_digits [] e = absurd cc
numeral_digits (d ∷ []) e = rw e refl
numeral_digits (d ∷ f ∷ ds) e = (and_parts (not (d == 48)) (are_digits (d ∷ f ∷ ds)) e).1

pub decimal_digits : (n : ℕ) → n < 2 ^ 64 → are_digits (decimal n) ≡ true
decimal_digits n small = numeral_digits (decimal n) (decimal_is n small)

pub decimal_word : (n : ℕ) → n < 2 ^ 64 → IsWord (decimal n)
decimal_word n small = digits_word (decimal n) (decimal_digits n small)

pub within_again : (most n : ℕ) (text : List ℕ) → numeral text ≡ Some n → n ≤ most → numeral_within most text ≡ Some n
unfolding numeral_within
within_again most n text e le = rw (numeral_within, e, le-leb n most le) refl

pub number_again : (most n : ℕ) (rest : List ℕ) → most < 2 ^ 64 → n ≤ most → IsParted rest → number_in_text most (word (number_text n) ++ rest) ≡ Some (n, rest)
unfolding number_in_text number_text
number_again most n rest small le parted =
    rw (word_again (decimal n) rest (decimal_word n (omega (arith, le, small))) parted, within_again most n (decimal n) (numeral_again n (omega (arith, le, small))) le) refl
