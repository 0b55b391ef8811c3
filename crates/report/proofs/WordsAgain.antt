-- The words of a line are read as they are written.
use Rattle.std.proofs.Common.{◌≡◌, ℕ, zero, suc, ◌+◌, ◌*◌, ◌/◌, ◌%◌, ◌^◌, ◌≤◌, ◌<◌, Bool, true, false, List, [], ◌∷◌, ◌++◌, length, get_or, refl, sym, ap, subst, ◌∙◌, append_assoc, arith, inl, inr}
use Rattle.std.specs.Prelude.{Option, Some, None, codes, not, nat_eq, nat_le, ◌==◌, IfSome}
use Rattle.std.specs.List.{starts_with}
use Rattle.std.specs.Fmt.{decimal}
use Rattle.std.proofs.lemmas.Bool.{and_parts, cases_lt, lt-leb, leb-true, le-leb}
use Rattle.std.proofs.lemmas.Fmt.{decimal_nonempty}
use Rattle.numerals.specs.Numerals.{is_digit, are_digits, numeral_within}
use Rattle.numerals.proofs.Decimal.{numeral_again}
use Rattle.journal.specs.declared.journal.Actor.{Actor}
use Rattle.journal.specs.declared.journal.Actor.TheVariants.{Controller, Switch}
use Rattle.report.specs.Records.{AreOctets, FitsActor}
use Rattle.report.specs.Report.{word, number_text, labelled, actor_word, flag, address_word, hex, hex_of, hex_digit}
use Rattle.report.specs.Spelled.{◌>>=◌, after_at, ends_word, number8_at, number16_at, number32_at, number64_at, labelled_at, actor_in_text, controller_in_text, dash_or, flag_in_text, is_dot, dotted_at, address_of, address_at, digit_of, byte_of, digits_of, hex_bytes, hex_at}
use Rattle.report.proofs.Texts.{IsWord, IsParted, word_again, number_again, decimal_word, decimal_digits, known_again, within_again, after_again, begins_is, not_same, cut_again}
use Rattle.report.proofs.Readers.{Again, Any}

-- ---- numbers

pub number8 : Again number8_at (λ n. word (number_text n)) (λ n. n < 2 ^ 8) IsParted
number8 = record { again = λ n rest fits parted. number_again 255 n rest (omega arith) (omega (arith, fits)) parted }

pub number16 : Again number16_at (λ n. word (number_text n)) (λ n. n < 2 ^ 16) IsParted
number16 = record { again = λ n rest fits parted. number_again 65535 n rest (omega arith) (omega (arith, fits)) parted }

pub number32 : Again number32_at (λ n. word (number_text n)) (λ n. n < 2 ^ 32) IsParted
number32 = record { again = λ n rest fits parted. number_again 4294967295 n rest (omega arith) (omega (arith, fits)) parted }

pub number64 : Again number64_at (λ n. word (number_text n)) (λ n. n < 2 ^ 64) IsParted
number64 = record { again = λ n rest fits parted. number_again 18446744073709551615 n rest (omega arith) (omega (arith, fits)) parted }

-- ---- actors

behind_letter : (letter n : ℕ) → ends_word letter ≡ false → n < 2 ^ 8 → IsWord (letter ∷ decimal n)
behind_letter letter n is small zero less = is
behind_letter letter n is small (suc i) less = decimal_word n (omega (arith, small)) i (omega (arith, less))

numeral8 : (n : ℕ) → n < 2 ^ 8 → numeral_within 255 (decimal n) ≡ Some n
numeral8 n small = within_again 255 n (decimal n) (numeral_again n (omega (arith, small))) (omega (arith, small))

actor_is : (a : Actor) (rest : List ℕ) → FitsActor a → IsParted rest → actor_in_text (word (actor_word a) ++ rest) ≡ Some (a, rest)
unfolding actor_in_text actor_word
actor_is (Controller c) rest fits parted = rw (word_again (99 ∷ decimal c) rest (behind_letter 99 c refl fits) parted, numeral8 c fits) refl
actor_is (Switch s) rest fits parted = rw (word_again (115 ∷ decimal s) rest (behind_letter 115 s refl fits) parted, numeral8 s fits) refl

pub actor : Again actor_in_text (λ a. word (actor_word a)) FitsActor IsParted
actor = record { again = actor_is }

controller_is : (c : ℕ) (rest : List ℕ) → c < 2 ^ 8 → IsParted rest → controller_in_text (word (actor_word (Controller c)) ++ rest) ≡ Some (c, rest)
unfolding controller_in_text
controller_is c rest fits parted = rw (actor_is (Controller c) rest fits parted) refl

pub controller : Again controller_in_text (λ c. word (actor_word (Controller c))) (λ c. c < 2 ^ 8) IsParted
controller = record { again = controller_is }

-- ---- flags

one_word : (c : ℕ) → ends_word c ≡ false → IsWord (c ∷ [])
one_word c is zero less = is
one_word c is (suc i) less = absurd (omega (arith, less))

flag_is : (b : Bool) (rest : List ℕ) → Any b → IsParted rest → flag_in_text (word (flag b) ++ rest) ≡ Some (b, rest)
unfolding flag_in_text flag
flag_is true rest fits parted = rw (word_again (49 ∷ []) rest (one_word 49 refl) parted) refl
flag_is false rest fits parted = rw (word_again (48 ∷ []) rest (one_word 48 refl) parted) refl

pub is_flag : Again flag_in_text (λ b. word (flag b)) Any IsParted
is_flag = record { again = flag_is }

-- ---- a dash

-- a word that begins with another letter than the dash
abbrev pub NoDash : List ℕ → Type 0
NoDash text = (0 < length text) × (nat_eq (get_or text 0 0) 45 ≡ false)

not_so : (b : Bool) → (b ≡ true → ⊥) → b ≡ false
not_so true not = absurd (not refl)
not_so false not = refl

differs : (c : ℕ) → c ≡ 45 → nat_eq c 45 ≡ false → ⊥
differs c same e = let is = rw same at e in cc

no_dash : (text rest : List ℕ) → NoDash text → starts_with nat_eq (word text ++ rest) (codes " -") ≡ false
unfolding word
no_dash [] rest is = absurd (let p = is.0 in omega (arith, p))
no_dash (c ∷ text) rest is = not_so (starts_with nat_eq (32 ∷ c ∷ text ++ rest) (codes " -")) (λ e. absurd (differs c (ap (λ l. get_or l 1 0) (begins_is (codes " -") (32 ∷ c ∷ text ++ rest) e)) is.1))

-- a value in the place of a dash, as it is written
abbrev pub or_dash : {A : Type 0} → (A → List ℕ) → Option A → List ℕ
or_dash text None = codes "-"
or_dash text (Some x) = text x

dash_is : {A : Type 0} (read : List ℕ → Option (A × List ℕ)) (text : A → List ℕ) (IsFit : A → Type 0) → Again read (λ x. word (text x)) IsFit IsParted → ((x : A) → IsFit x → NoDash (text x)) →
    (x : Option A) (rest : List ℕ) → IfSome x IsFit → IsParted rest → dash_or read (word (or_dash text x) ++ rest) ≡ Some (x, rest)
unfolding dash_or word
dash_is read text IsFit laws none None rest fits parted = refl
dash_is read text IsFit laws none (Some x) rest fits parted = rw (no_dash (text x) rest (none x fits), laws.again x rest fits parted) refl

pub or_dashed : {A : Type 0} (read : List ℕ → Option (A × List ℕ)) (text : A → List ℕ) (IsFit : A → Type 0) → Again read (λ x. word (text x)) IsFit IsParted → ((x : A) → IsFit x → NoDash (text x)) →
    Again (dash_or read) (λ x. word (or_dash text x)) (λ x. IfSome x IsFit) IsParted
or_dashed read text IsFit laws none = record { again = dash_is read text IsFit laws none }

digit_is_not : (d other : ℕ) → is_digit d ≡ true → other < 48 → nat_eq d other ≡ false
digit_is_not d other e small =
    let low = leb-true 48 d (and_parts (nat_le 48 d) (nat_le d 57) e).0 in
    not_same d other (λ same. absurd (omega (arith, low, same, small)))

first_digit : (ds : List ℕ) → are_digits ds ≡ true → 0 < length ds → is_digit (get_or ds 0 0) ≡ true
first_digit [] e some = absurd (omega (arith, some))
first_digit (d ∷ ds) e some = (and_parts (is_digit d) (are_digits ds) e).0

decimal_no_dash : (n : ℕ) → n < 2 ^ 64 → NoDash (decimal n)
decimal_no_dash n small =
    let some = decimal_nonempty n small in
    (some, digit_is_not (get_or (decimal n) 0 0) 45 (first_digit (decimal n) (decimal_digits n small) some) (omega arith))

number_no_dash : (n : ℕ) → n < 2 ^ 64 → NoDash (number_text n)
unfolding number_text
number_no_dash n small = decimal_no_dash n small

actor_no_dash : (c : ℕ) → NoDash (actor_word (Controller c))
unfolding actor_word
actor_no_dash c = (omega arith, refl)

pub number64_or_dash : Again (dash_or number64_at) (λ x. word (or_dash number_text x)) (λ x. IfSome x (λ n. n < 2 ^ 64)) IsParted
number64_or_dash = or_dashed number64_at number_text (λ n. n < 2 ^ 64) number64 (λ n small. number_no_dash n small)

pub number16_or_dash : Again (dash_or number16_at) (λ x. word (or_dash number_text x)) (λ x. IfSome x (λ n. n < 2 ^ 16)) IsParted
number16_or_dash = or_dashed number16_at number_text (λ n. n < 2 ^ 16) number16 (λ n small. number_no_dash n (omega (arith, small)))

pub controller_or_dash : Again (dash_or controller_in_text) (λ x. word (or_dash (λ c. actor_word (Controller c)) x)) (λ x. IfSome x (λ c. c < 2 ^ 8)) IsParted
controller_or_dash = or_dashed controller_in_text (λ c. actor_word (Controller c)) (λ c. c < 2 ^ 8) controller (λ c small. actor_no_dash c)

-- ---- a number behind its name

labelled_is : (name : List ℕ) (n : ℕ) (rest : List ℕ) → n < 2 ^ 64 → IsParted rest → labelled_at name (labelled name (number_text n) ++ rest) ≡ Some (n, rest)
unfolding labelled_at labelled
labelled_is name n rest fits parted =
    let regrouped : (word name ++ word (number_text n)) ++ rest ≡ word name ++ (word (number_text n) ++ rest) = append_assoc (word name) (word (number_text n)) rest in
    rw (regrouped, known_again name (word (number_text n) ++ rest)) (number64.again n rest fits parted)

-- a number behind its name, and what is read behind it
pub labelled_then : {R : Type 0} (name : List ℕ) (n : ℕ) (rest : List ℕ) (more : ℕ × List ℕ → Option R) (y : Option R) → n < 2 ^ 64 → IsParted rest → more (n, rest) ≡ y →
    (labelled_at name (labelled name (number_text n) ++ rest) >>= more) ≡ y
labelled_then name n rest more y fits parted e = rw (labelled_is name n rest fits parted) e

pub parted_label : (name text rest : List ℕ) → IsParted (labelled name text ++ rest)
unfolding labelled word
parted_label name text rest = refl

-- ---- bytes in base sixteen

digit_again : (n : ℕ) → n < 16 → digit_of (hex_digit n) ≡ Some n
digit_again n less =
    elim (cases_lt n 10) [
      | inl low ↦ rw (lt-leb 10 n low, le-leb 48 (n + 48) (omega arith), le-leb (n + 48) 57 (omega (arith, low))) (ap (λ (m : ℕ). Some m) (omega arith))
      | inr high ↦ rw (le-leb 10 n high, le-leb 48 (n + 87) (omega arith), lt-leb (n + 87) 57 (omega (arith, high)), le-leb 97 (n + 87) (omega (arith, high)), le-leb (n + 87) 102 (omega (arith, less))) (ap (λ (m : ℕ). Some m) (omega arith))
    ]

byte_again : (b : ℕ) → b < 256 → byte_of (hex_digit (b / 16)) (hex_digit (b % 16)) ≡ Some b
unfolding byte_of
byte_again b small =
    rw (digit_again (b / 16) (omega arith), digit_again (b % 16) (omega arith)) (ap (λ (n : ℕ). Some n) (omega arith))

digits_again : (bytes : List ℕ) → AreOctets bytes → digits_of (hex_of bytes) ≡ Some bytes
unfolding digits_of
digits_again [] are = refl
digits_again (b ∷ bytes) are = rw (byte_again b (are 0), digits_again bytes (λ i. are (suc i))) refl

digit_above : (n : ℕ) → 48 ≤ hex_digit n
digit_above n =
    elim (cases_lt n 10) [
      | inl low ↦ rw (lt-leb 10 n low) (omega arith)
      | inr high ↦ rw (le-leb 10 n high) (omega arith)
    ]

above_goes_on : (d : ℕ) → 48 ≤ d → ends_word d ≡ false
above_goes_on d low = rw (not_same d 32 (λ same. absurd (omega (arith, low, same))), not_same d 10 (λ same. absurd (omega (arith, low, same)))) refl

hex_word : (bytes : List ℕ) → IsWord (hex_of bytes)
hex_word [] i less = absurd (omega (arith, less))
hex_word (b ∷ bytes) zero less = above_goes_on (hex_digit (b / 16)) (digit_above (b / 16))
hex_word (b ∷ bytes) (suc zero) less = above_goes_on (hex_digit (b % 16)) (digit_above (b % 16))
hex_word (b ∷ bytes) (suc (suc i)) less = hex_word bytes i (omega (arith, less))

not_dash : (d : ℕ) → 48 ≤ d → (d == 45) ≡ false
not_dash d low = not_same d 45 (λ same. absurd (omega (arith, low, same)))

hex_is : (bytes rest : List ℕ) → AreOctets bytes → IsParted rest → hex_at (word (hex bytes) ++ rest) ≡ Some (bytes, rest)
unfolding hex_at hex hex_bytes
hex_is [] rest are parted = rw (word_again (45 ∷ []) rest (one_word 45 refl) parted) refl
hex_is (b ∷ bytes) rest are parted =
    rw (word_again (hex_of (b ∷ bytes)) rest (hex_word (b ∷ bytes)) parted, not_dash (hex_digit (b / 16)) (digit_above (b / 16)), digits_again (b ∷ bytes) are) refl

pub hexed : Again hex_at (λ bytes. word (hex bytes)) AreOctets IsParted
hexed = record { again = hex_is }

-- ---- addresses

digit_no_dot : (d : ℕ) → is_digit d ≡ true → is_dot d ≡ false
digit_no_dot d e = let low = leb-true 48 d (and_parts (nat_le 48 d) (nat_le d 57) e).0 in not_same d 46 (λ same. absurd (omega (arith, low, same)))

digits_no_dot : (ds : List ℕ) → are_digits ds ≡ true → (i : ℕ) → i < length ds → is_dot (get_or ds i 10) ≡ false
digits_no_dot [] e i less = absurd (omega (arith, less))
digits_no_dot (d ∷ ds) e zero less = digit_no_dot d (and_parts (is_digit d) (are_digits ds) e).0
digits_no_dot (d ∷ ds) e (suc i) less = digits_no_dot ds (and_parts (is_digit d) (are_digits ds) e).1 i (omega (arith, less))

-- a number, and what comes behind its dot
abbrev dotted_of : List ℕ × List ℕ → Option (ℕ × List ℕ)
dotted_of parts = numeral_within 255 parts.0 >>= λ n. after_at (46 ∷ []) parts.1 >>= λ rest. Some (n, rest)

dotted_is : (n : ℕ) (rest : List ℕ) → n < 2 ^ 8 → dotted_at (decimal n ++ (46 ∷ rest)) ≡ Some (n, rest)
unfolding dotted_at
dotted_is n rest small =
    ap dotted_of (cut_again is_dot (decimal n) (46 ∷ rest) (digits_no_dot (decimal n) (decimal_digits n (omega (arith, small)))) refl)
    ∙ rw (numeral8 n small, after_again (46 ∷ []) rest) refl

address_value : (a : ℕ) → a < 2 ^ 32 → 16777216 * (a / 16777216 % 256) + 65536 * (a / 65536 % 256) + 256 * (a / 256 % 256) + a % 256 ≡ a
address_value a small = omega (arith, small)

joined_word : (front text : List ℕ) → IsWord front → IsWord text → IsWord (front ++ (46 ∷ text))
joined_word [] text first is zero less = refl
joined_word [] text first is (suc i) less = is i (omega (arith, less))
joined_word (c ∷ front) text first is zero less = first zero (omega arith)
joined_word (c ∷ front) text first is (suc i) less = joined_word front text (λ k lt. first (suc k) (omega (arith, lt))) is i (omega (arith, less))

dotted_word : (n : ℕ) (text : List ℕ) → n < 2 ^ 8 → IsWord text → IsWord (decimal n ++ (46 ∷ text))
dotted_word n text small is = joined_word (decimal n) text (decimal_word n (omega (arith, small))) is

regrouped : (a b c d : List ℕ) → ((a ++ (46 ∷ b)) ++ (46 ∷ c)) ++ (46 ∷ d) ≡ a ++ (46 ∷ (b ++ (46 ∷ (c ++ (46 ∷ d)))))
regrouped a b c d =
    append_assoc (a ++ (46 ∷ b)) (46 ∷ c) (46 ∷ d) ∙ append_assoc a (46 ∷ b) (46 ∷ (c ++ (46 ∷ d)))

-- four numbers of one byte, with a dot between them
abbrev pub four_dotted : ℕ → ℕ → ℕ → ℕ → List ℕ
four_dotted a b c d = decimal a ++ (46 ∷ (decimal b ++ (46 ∷ (decimal c ++ (46 ∷ decimal d)))))

pub address_parts : (a : ℕ) → address_word a ≡ four_dotted (a / 16777216 % 256) (a / 65536 % 256) (a / 256 % 256) (a % 256)
unfolding address_word
address_parts a = regrouped (decimal (a / 16777216 % 256)) (decimal (a / 65536 % 256)) (decimal (a / 256 % 256)) (decimal (a % 256))

four_of : (a b c d : ℕ) → a < 2 ^ 8 → b < 2 ^ 8 → c < 2 ^ 8 → d < 2 ^ 8 → address_of (four_dotted a b c d) ≡ Some (16777216 * a + 65536 * b + 256 * c + d)
unfolding address_of
four_of a b c d fits_a fits_b fits_c fits_d =
    rw (
      dotted_is a (decimal b ++ (46 ∷ (decimal c ++ (46 ∷ decimal d)))) fits_a,
      dotted_is b (decimal c ++ (46 ∷ decimal d)) fits_b,
      dotted_is c (decimal d) fits_c,
      numeral8 d fits_d,
    ) refl

four_words : (a b c d : ℕ) → a < 2 ^ 8 → b < 2 ^ 8 → c < 2 ^ 8 → d < 2 ^ 8 → IsWord (four_dotted a b c d)
four_words a b c d fits_a fits_b fits_c fits_d =
    dotted_word a (decimal b ++ (46 ∷ (decimal c ++ (46 ∷ decimal d)))) fits_a
    (dotted_word b (decimal c ++ (46 ∷ decimal d)) fits_b
    (dotted_word c (decimal d) fits_c (decimal_word d (omega (arith, fits_d)))))

address_text : (a : ℕ) → a < 2 ^ 32 → address_of (address_word a) ≡ Some a
address_text a small =
    ap address_of (address_parts a) ∙ four_of (a / 16777216 % 256) (a / 65536 % 256) (a / 256 % 256) (a % 256) (omega arith) (omega arith) (omega arith) (omega arith)
    ∙ ap (λ (n : ℕ). Some n) (address_value a small)

address_words : (a : ℕ) → IsWord (address_word a)
address_words a = subst IsWord (sym (address_parts a)) (four_words (a / 16777216 % 256) (a / 65536 % 256) (a / 256 % 256) (a % 256) (omega arith) (omega arith) (omega arith) (omega arith))

address_is : (a : ℕ) (rest : List ℕ) → a < 2 ^ 32 → IsParted rest → address_at (word (address_word a) ++ rest) ≡ Some (a, rest)
unfolding address_at
address_is a rest small parted = rw (word_again (address_word a) rest (address_words a) parted, address_text a small) refl

pub address : Again address_at (λ a. word (address_word a)) (λ a. a < 2 ^ 32) IsParted
address = record { again = address_is }
