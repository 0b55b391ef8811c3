-- The words of a line are written as they were read.
use Rattle.std.proofs.Common.{◌≡◌, ℕ, zero, suc, ◌+◌, ◌-◌, ◌*◌, ◌/◌, ◌%◌, ◌^◌, ◌≤◌, ◌<◌, Bool, true, false, List, [], ◌∷◌, ◌++◌, length, drop, refl, sym, ap, subst, ◌∙◌, append_assoc, arith, cond}
use Rattle.std.specs.Prelude.{Option, Some, None, codes, nat_eq, nat_le, ◌==◌, ◌&&◌, IfSome}
use Rattle.std.specs.List.{starts_with}
use Rattle.std.specs.Fmt.{decimal}
use Rattle.std.proofs.lemmas.Bool.{and_parts, leb-true, eqb-true, le-leb, lt-leb}
use Rattle.std.proofs.lemmas.List.{take-append-drop}
use Rattle.numerals.specs.Numerals.{numeral_within}
use Rattle.numerals.proofs.Decimal.{numeral_spells}
use Rattle.journal.specs.declared.journal.Actor.{Actor}
use Rattle.journal.specs.declared.journal.Actor.TheVariants.{Controller, Switch}
use Rattle.report.specs.Records.{AreOctets, FitsActor}
use Rattle.report.specs.Report.{word, number_text, labelled, actor_word, flag, address_word, hex, hex_of, hex_digit}
use Rattle.report.specs.Spelled.{◌>>=◌, after_at, word_at, number8_at, number16_at, number32_at, number64_at, labelled_at, actor_spelled, actor_in_text, controller_spelled, controller_in_text, dash_or, flag_of, flag_in_text, is_dot, cut_at, length_before, dotted_at, address_of, address_at, digit_of, byte_of, digits_of, hex_bytes, hex_at}
use Rattle.report.proofs.Readers.{Any}
use Rattle.report.proofs.WordsAgain.{or_dash, four_dotted, address_parts}
use Rattle.report.proofs.Takers.{then, branches, both_found, found_as, Takes, Spelt, took, took_known}
use Rattle.report.proofs.Texts.{some_is, word_takes, within_takes, number_takes, begins_is, after_takes}

-- a word, and a value that it spells
spelt : {A : Type 0} (P : A → List ℕ → Type 0) (of : List ℕ → Option A) (bytes : List ℕ) (x : A) (rest : List ℕ) → (word_at bytes >>= λ w. of w.0 >>= λ v. found_as v w.1) ≡ found_as x rest →
    ((text : List ℕ) (v : A) (end : List ℕ) → bytes ≡ word text ++ end → of text ≡ Some v → P v end) → P x rest
spelt P of bytes x rest e holds =
    then (word_at bytes) _ _ e (λ w is e.
    then (of w.0) _ _ e (λ v found e.
    both_found P v x w.1 rest e (holds w.0 v w.1 (word_takes bytes w.0 w.1 is) found)))

-- ---- numbers

pub number8_takes : Takes number8_at (λ n. word (number_text n)) (λ n. n < 2 ^ 8)
number8_takes = record { takes = λ bytes n rest e. let t = number_takes 255 bytes n rest (omega arith) e in (t.0, omega (arith, t.1)) }

pub number16_takes : Takes number16_at (λ n. word (number_text n)) (λ n. n < 2 ^ 16)
number16_takes = record { takes = λ bytes n rest e. let t = number_takes 65535 bytes n rest (omega arith) e in (t.0, omega (arith, t.1)) }

pub number32_takes : Takes number32_at (λ n. word (number_text n)) (λ n. n < 2 ^ 32)
number32_takes = record { takes = λ bytes n rest e. let t = number_takes 4294967295 bytes n rest (omega arith) e in (t.0, omega (arith, t.1)) }

pub number64_takes : Takes number64_at (λ n. word (number_text n)) (λ n. n < 2 ^ 64)
number64_takes = record { takes = λ bytes n rest e. let t = number_takes 18446744073709551615 bytes n rest (omega arith) e in (t.0, omega (arith, t.1)) }

-- a numeral of one byte
numeral8_is : (text : List ℕ) (n : ℕ) → numeral_within 255 text ≡ Some n → (text ≡ decimal n) × (n < 2 ^ 8)
numeral8_is text n e =
    let w = within_takes 255 n text e in
    let small = w.1 in
    (numeral_spells text n w.0 (omega (arith, small)), omega (arith, small))

-- ---- actors

lettered : (letter n : ℕ) (digits : List ℕ) (a : Actor) → numeral_within 255 digits ≡ Some n → cond (letter == 99) (Some (Controller n)) (cond (letter == 115) (Some (Switch n)) None) ≡ Some a → (letter ∷ digits ≡ actor_word a) × FitsActor a
unfolding actor_word
lettered letter n digits a is e =
    let t = numeral8_is digits n is in
    branches (letter == 99) _ _ _ e
    (λ c e. subst (λ a. (letter ∷ digits ≡ actor_word a) × FitsActor a) (some_is (Controller n) a e) (rw (eqb-true letter 99 c, t.0) refl, t.1))
    (λ _ e. branches (letter == 115) _ _ _ e
    (λ s e. subst (λ a. (letter ∷ digits ≡ actor_word a) × FitsActor a) (some_is (Switch n) a e) (rw (eqb-true letter 115 s, t.0) refl, t.1))
    (λ _ e. absurd cc))

actor_text : (text : List ℕ) (a : Actor) → actor_spelled text ≡ Some a → (text ≡ actor_word a) × FitsActor a
actor_text [] a e = absurd cc
actor_text (letter ∷ digits) a e = then (numeral_within 255 digits) _ _ e (λ n is e. lettered letter n digits a is e)

-- a word that is read as its value is written
by_word : {A : Type 0} (of : List ℕ → Option A) (text : A → List ℕ) (IsFit : A → Type 0) → ((t : List ℕ) (x : A) → of t ≡ Some x → (t ≡ text x) × IsFit x) →
    (bytes : List ℕ) (x : A) (rest : List ℕ) → (word_at bytes >>= λ w. of w.0 >>= λ v. found_as v w.1) ≡ found_as x rest → Spelt (λ x. word (text x)) IsFit bytes x rest
by_word of text IsFit laws bytes x rest e =
    spelt (Spelt (λ x. word (text x)) IsFit bytes) of bytes x rest e (λ t v end is found.
    let v_is = laws t v found in
    (is ∙ ap (λ t. word t ++ end) v_is.0, v_is.1))

actor_is : (bytes : List ℕ) (a : Actor) (rest : List ℕ) → actor_in_text bytes ≡ Some (a, rest) → Spelt (λ a. word (actor_word a)) FitsActor bytes a rest
unfolding actor_in_text
actor_is bytes a rest e = by_word actor_spelled actor_word FitsActor actor_text bytes a rest e

pub actor_takes : Takes actor_in_text (λ a. word (actor_word a)) FitsActor
actor_takes = record { takes = actor_is }

-- a controller
as_controller : (a : Actor) (c : ℕ) → controller_spelled a ≡ Some c → a ≡ Controller c
as_controller (Controller d) c e = ap (λ n. Controller n) (some_is d c e)
as_controller (Switch s) c e = absurd cc

controller_is : (bytes : List ℕ) (c : ℕ) (rest : List ℕ) → controller_in_text bytes ≡ Some (c, rest) → Spelt (λ c. word (actor_word (Controller c))) (λ c. c < 2 ^ 8) bytes c rest
unfolding controller_in_text
controller_is bytes c rest e =
    took actor_takes bytes _ _ e (λ a end is fits e.
    then (controller_spelled a) _ _ e (λ d named e.
    let same = as_controller a d named in
    both_found (Spelt (λ c. word (actor_word (Controller c))) (λ c. c < 2 ^ 8) bytes) d c end rest e (is ∙ ap (λ a. word (actor_word a) ++ end) same, subst FitsActor same fits)))

pub controller_takes : Takes controller_in_text (λ c. word (actor_word (Controller c))) (λ c. c < 2 ^ 8)
controller_takes = record { takes = controller_is }

-- ---- flags

flag_text : (text : List ℕ) (b : Bool) → flag_of text ≡ Some b → (text ≡ flag b) × Any b
unfolding flag
flag_text [] b e = absurd cc
flag_text (d ∷ []) b e =
    branches (d == 49) _ _ _ e
    (λ one e. (ap (λ c. c ∷ []) (eqb-true d 49 one) ∙ set_is true b (some_is true b e), tt))
    (λ _ e. branches (d == 48) _ _ _ e
    (λ none e. (ap (λ c. c ∷ []) (eqb-true d 48 none) ∙ set_is false b (some_is false b e), tt))
    (λ _ e. absurd cc))
  where
    set_is : (a b : Bool) → a ≡ b → flag a ≡ flag b
    set_is a b e = ap flag e
flag_text (d ∷ c ∷ text) b e = absurd cc

flag_is : (bytes : List ℕ) (b : Bool) (rest : List ℕ) → flag_in_text bytes ≡ Some (b, rest) → Spelt (λ b. word (flag b)) Any bytes b rest
unfolding flag_in_text
flag_is bytes b rest e = by_word flag_of flag Any flag_text bytes b rest e

pub flag_takes : Takes flag_in_text (λ b. word (flag b)) Any
flag_takes = record { takes = flag_is }

-- ---- a dash

dash_takes : {A : Type 0} {read : List ℕ → Option (A × List ℕ)} (text : A → List ℕ) (IsFit : A → Type 0) → Takes read (λ x. word (text x)) IsFit → (bytes : List ℕ) (x : Option A) (rest : List ℕ) → dash_or read bytes ≡ Some (x, rest) →
    Spelt (λ x. word (or_dash text x)) (λ x. IfSome x IsFit) bytes x rest
unfolding dash_or word
dash_takes {read = read} text IsFit laws bytes x rest e =
    branches (starts_with nat_eq bytes (codes " -")) _ _ _ e
    (λ dashed e. both_found (Spelt (λ x. word (or_dash text x)) (λ x. IfSome x IsFit) bytes) None x (drop 2 bytes) rest e (begins_is (codes " -") bytes dashed, tt))
    (λ _ e. took laws bytes _ _ e (λ v end is fits e. both_found (Spelt (λ x. word (or_dash text x)) (λ x. IfSome x IsFit) bytes) (Some v) x end rest e (is, fits)))

pub number64_or_dash_takes : Takes (dash_or number64_at) (λ x. word (or_dash number_text x)) (λ x. IfSome x (λ n. n < 2 ^ 64))
number64_or_dash_takes = record { takes = dash_takes number_text (λ n. n < 2 ^ 64) number64_takes }

pub number16_or_dash_takes : Takes (dash_or number16_at) (λ x. word (or_dash number_text x)) (λ x. IfSome x (λ n. n < 2 ^ 16))
number16_or_dash_takes = record { takes = dash_takes number_text (λ n. n < 2 ^ 16) number16_takes }

pub controller_or_dash_takes : Takes (dash_or controller_in_text) (λ x. word (or_dash (λ c. actor_word (Controller c)) x)) (λ x. IfSome x (λ c. c < 2 ^ 8))
controller_or_dash_takes = record { takes = dash_takes (λ c. actor_word (Controller c)) (λ c. c < 2 ^ 8) controller_takes }

-- ---- a number behind its name

labelled_is : (name bytes : List ℕ) (n : ℕ) (rest : List ℕ) → labelled_at name bytes ≡ Some (n, rest) → Spelt (λ n. labelled name (number_text n)) (λ n. n < 2 ^ 64) bytes n rest
unfolding labelled_at labelled
labelled_is name bytes n rest e =
    took_known name bytes _ _ e (λ behind is e.
    let t = number64_takes.takes behind n rest e in
    (is ∙ ap (λ l. word name ++ l) t.0 ∙ sym (append_assoc (word name) (word (number_text n)) rest), t.1))

pub labelled_takes : (name : List ℕ) → Takes (labelled_at name) (λ n. labelled name (number_text n)) (λ n. n < 2 ^ 64)
labelled_takes name = record { takes = labelled_is name }

-- ---- bytes in base sixteen

digit_text : (d n : ℕ) → digit_of d ≡ Some n → (d ≡ hex_digit n) × (n < 16)
digit_text d n e =
    branches (nat_le 48 d && nat_le d 57) _ _ _ e
    (λ within e.
    let p = and_parts (nat_le 48 d) (nat_le d 57) within in
    let low = leb-true 48 d p.0 in
    let high = leb-true d 57 p.1 in
    low_digit (some_is (d - 48) n e) low high)
    (λ _ e. branches (nat_le 97 d && nat_le d 102) _ _ _ e
    (λ within e.
    let p = and_parts (nat_le 97 d) (nat_le d 102) within in
    let low = leb-true 97 d p.0 in
    let high = leb-true d 102 p.1 in
    high_digit (some_is (d - 87) n e) low high)
    (λ _ e. absurd cc))
  where
    low_digit : d - 48 ≡ n → 48 ≤ d → d ≤ 57 → (d ≡ hex_digit n) × (n < 16)
    low_digit same low high = (rw (lt-leb 10 n (omega (arith, same, low, high))) (omega (arith, same, low)), omega (arith, same, high))

    high_digit : d - 87 ≡ n → 97 ≤ d → d ≤ 102 → (d ≡ hex_digit n) × (n < 16)
    high_digit same low high = (rw (le-leb 10 n (omega (arith, same, low, high))) (omega (arith, same, low)), omega (arith, same, high))

byte_text : (high low b : ℕ) → byte_of high low ≡ Some b → (high ≡ hex_digit (b / 16)) × (low ≡ hex_digit (b % 16)) × (b < 256)
unfolding byte_of
byte_text high low b e =
    then (digit_of high) _ _ e (λ h is_h e.
    then (digit_of low) _ _ e (λ l is_l e.
    let same : 16 * h + l ≡ b = some_is (16 * h + l) b e in
    let high_is = digit_text high h is_h in
    let low_is = digit_text low l is_l in
    let h_small = high_is.1 in
    let l_small = low_is.1 in
    let quotient : h ≡ b / 16 = omega (arith, same, l_small) in
    let rest : l ≡ b % 16 = omega (arith, same, l_small) in
    (high_is.0 ∙ ap (λ (n : ℕ). hex_digit n) quotient, low_is.0 ∙ ap (λ (n : ℕ). hex_digit n) rest, omega (arith, same, h_small, l_small))))

one_byte : (b : ℕ) (bytes : List ℕ) → b < 256 → AreOctets bytes → AreOctets (b ∷ bytes)
one_byte b bytes small are zero = small
one_byte b bytes small are (suc i) = are i

digits_text : (text bytes : List ℕ) → digits_of text ≡ Some bytes → (text ≡ hex_of bytes) × AreOctets bytes
unfolding digits_of
digits_text [] bytes e = subst (λ bytes. ([] ≡ hex_of bytes) × AreOctets bytes) (some_is [] bytes e) (refl, λ i. omega arith)
digits_text (d ∷ []) bytes e = absurd cc
digits_text (high ∷ low ∷ digits) bytes e =
    then (byte_of high low) _ _ e (λ b is_b e.
    then (digits_of digits) _ _ e (λ others is_others e.
    let one = byte_text high low b is_b in
    let more = digits_text digits others is_others in
    subst (λ bytes. (high ∷ low ∷ digits ≡ hex_of bytes) × AreOctets bytes) (some_is (b ∷ others) bytes e) (rw (one.0, one.1, more.0) refl, one_byte b others one.2 more.1)))

same_hex : (d : ℕ) (digits bytes : List ℕ) → d ∷ digits ≡ hex_of bytes → d ∷ digits ≡ hex bytes
unfolding hex
same_hex d digits [] e = absurd cc
same_hex d digits (b ∷ bytes) e = e

hex_text : (text bytes : List ℕ) → hex_bytes text ≡ Some bytes → (text ≡ hex bytes) × AreOctets bytes
unfolding hex_bytes hex
hex_text [] bytes e = absurd cc
hex_text (d ∷ digits) bytes e =
    branches (d == 45) _ _ _ e
    (λ dash e. branches (length digits == 0) _ _ _ e
    (λ none e. subst (λ bytes. (d ∷ digits ≡ hex bytes) × AreOctets bytes) (some_is [] bytes e) (no_bytes digits (eqb-true d 45 dash) (eqb-true (length digits) 0 none), λ i. omega arith))
    (λ _ e. absurd cc))
    (λ _ e. let t = digits_text (d ∷ digits) bytes e in (same_hex d digits bytes t.0, t.1))
  where
    no_bytes : (digits : List ℕ) → d ≡ 45 → length digits ≡ 0 → d ∷ digits ≡ hex []
    no_bytes [] dash none = rw (hex, dash) refl
    no_bytes (c ∷ digits) dash none = absurd (omega (arith, none))

hex_is : (bytes told rest : List ℕ) → hex_at bytes ≡ Some (told, rest) → Spelt (λ told. word (hex told)) AreOctets bytes told rest
unfolding hex_at
hex_is bytes told rest e = by_word hex_bytes hex AreOctets hex_text bytes told rest e

pub hex_takes : Takes hex_at (λ told. word (hex told)) AreOctets
hex_takes = record { takes = hex_is }

-- ---- addresses

dotted_text : (text : List ℕ) (n : ℕ) (rest : List ℕ) → dotted_at text ≡ Some (n, rest) → (text ≡ decimal n ++ (46 ∷ rest)) × (n < 2 ^ 8)
unfolding dotted_at
dotted_text text n rest e =
    then (numeral_within 255 (cut_at is_dot text).0) _ _ e (λ m is e.
    then (after_at (46 ∷ []) (cut_at is_dot text).1) _ _ e (λ behind there e.
    let t = numeral8_is (cut_at is_dot text).0 m is in
    let whole : text ≡ (cut_at is_dot text).0 ++ (cut_at is_dot text).1 = sym (take-append-drop (length_before is_dot text) text) in
    both_found (λ n rest. (text ≡ decimal n ++ (46 ∷ rest)) × (n < 2 ^ 8)) m n behind rest e
    (whole ∙ ap (λ l. l ++ (cut_at is_dot text).1) t.0 ∙ ap (λ l. decimal m ++ l) (after_takes (46 ∷ []) (cut_at is_dot text).1 behind there), t.1)))

-- four bytes of a number, from the highest on
record AreParts (n a b c d : ℕ) : Type 0 where
  pub first : n / 16777216 % 256 ≡ a
  pub second : n / 65536 % 256 ≡ b
  pub third : n / 256 % 256 ≡ c
  pub fourth : n % 256 ≡ d
  pub small : n < 2 ^ 32

parts_of : (a b c d : ℕ) → a < 2 ^ 8 → b < 2 ^ 8 → c < 2 ^ 8 → d < 2 ^ 8 → AreParts (16777216 * a + 65536 * b + 256 * c + d) a b c d
parts_of a b c d fits_a fits_b fits_c fits_d = record {
  first = omega (arith, fits_a, fits_b, fits_c, fits_d);
  second = omega (arith, fits_a, fits_b, fits_c, fits_d);
  third = omega (arith, fits_a, fits_b, fits_c, fits_d);
  fourth = omega (arith, fits_a, fits_b, fits_c, fits_d);
  small = omega (arith, fits_a, fits_b, fits_c, fits_d);
}

four_is : (n a b c d : ℕ) (text : List ℕ) → AreParts n a b c d → text ≡ four_dotted a b c d → text ≡ address_word n
four_is n a b c d text parts e = e ∙ rw (← parts.first, ← parts.second, ← parts.third, ← parts.fourth) (sym (address_parts n))

address_text : (text : List ℕ) (n : ℕ) → address_of text ≡ Some n → (text ≡ address_word n) × (n < 2 ^ 32)
unfolding address_of
address_text text n e =
    then (dotted_at text) _ _ e (λ a is_a e.
    then (dotted_at a.1) _ _ e (λ b is_b e.
    then (dotted_at b.1) _ _ e (λ c is_c e.
    then (numeral_within 255 c.1) _ _ e (λ d is_d e.
    let one = dotted_text text a.0 a.1 is_a in
    let two = dotted_text a.1 b.0 b.1 is_b in
    let three = dotted_text b.1 c.0 c.1 is_c in
    let four = numeral8_is c.1 d is_d in
    let parts = parts_of a.0 b.0 c.0 d one.1 two.1 three.1 four.1 in
    let whole : text ≡ four_dotted a.0 b.0 c.0 d =
    one.0 ∙ ap (λ l. decimal a.0 ++ (46 ∷ l)) (two.0 ∙ ap (λ l. decimal b.0 ++ (46 ∷ l)) (three.0 ∙ ap (λ l. decimal c.0 ++ (46 ∷ l)) four.0)) in
    subst (λ n. (text ≡ address_word n) × (n < 2 ^ 32)) (some_is (16777216 * a.0 + 65536 * b.0 + 256 * c.0 + d) n e)
    (four_is (16777216 * a.0 + 65536 * b.0 + 256 * c.0 + d) a.0 b.0 c.0 d text parts whole, parts.small)))))

address_is : (bytes : List ℕ) (n : ℕ) (rest : List ℕ) → address_at bytes ≡ Some (n, rest) → Spelt (λ n. word (address_word n)) (λ n. n < 2 ^ 32) bytes n rest
unfolding address_at
address_is bytes n rest e = by_word address_of address_word (λ n. n < 2 ^ 32) address_text bytes n rest e

pub address_takes : Takes address_at (λ n. word (address_word n)) (λ n. n < 2 ^ 32)
address_takes = record { takes = address_is }
