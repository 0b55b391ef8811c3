-- A numeral is what is written of its number.
use Rattle.std.proofs.Common.{rules, ◌≡◌, ℕ, zero, suc, ◌^◌, ◌<◌, true, false, List, [], ◌∷◌, length, get_or, refl, sym, ap, ◌∙◌, arith, Some, None}
use Rattle.std.specs.Prelude.{Bool, cond}
use Rattle.std.specs.Fmt.{decimal}
use Rattle.std.proofs.lemmas.Fmt.{digits_decimal, digits_value-decimal, decimal-digits_value, decimal_nonempty, first_decimal, decimal_digit}
use Rattle.std.proofs.lemmas.Str.Parse.{IsNumeralModel, numerals_by_fold}
use Rattle.numerals.specs.Numerals.{numeral, is_numeral, are_digits, number_behind}

-- digits, and the number that they spell
own : IsNumeralModel (λ ds. are_digits ds ≡ true) (number_behind 0)
own = numerals_by_fold _ (search rules) number_behind (search rules)

-- digits of which the first is no zero before another are a numeral
digits_are : (ds : List ℕ) → 0 < length ds → (get_or ds 0 0 ≡ 48 → length ds ≡ 1) → are_digits ds ≡ true → is_numeral ds ≡ true
digits_are [] some first digits = absurd (omega arith)
digits_are (d ∷ []) some first digits = search (rules, digits)
digits_are (d ∷ e ∷ ds) some first digits = search (rules, digits, first)

-- a numeral is digits, and none but 0 begins with a zero
are : (ds : List ℕ) → is_numeral ds ≡ true → (are_digits ds ≡ true) × (0 < length ds) × (get_or ds 0 0 ≡ 48 → length ds ≡ 1)
are [] e = absurd cc
are (d ∷ []) e = search (rules, e)
are (d ∷ f ∷ ds) e = search (rules, e)

-- what is written of a number does not begin with a zero, but for 0
leads : (n : ℕ) → n < 2 ^ 64 → get_or (decimal n) 0 0 ≡ 48 → length (decimal n) ≡ 1
leads zero small e = ap length (decimal_digit 0 (omega arith))
leads (suc n) small e = absurd (omega (arith, first_decimal (suc n) (omega arith) small, e))

pub decimal_is : (n : ℕ) → n < 2 ^ 64 → is_numeral (decimal n) ≡ true
decimal_is n small = digits_are (decimal n) (decimal_nonempty n small) (leads n small) (digits_decimal own n small)

given : (b : Bool) (x n : ℕ) → b ≡ true → x ≡ n → cond b (Some x) None ≡ Some n
given true x n e same = ap Some same
given false x n e same = absurd cc

taken : (b : Bool) (x n : ℕ) → cond b (Some x) None ≡ Some n → (b ≡ true) × (x ≡ n)
taken true x n e = (refl, cc)
taken false x n e = absurd cc

pub numeral_again : (n : ℕ) → n < 2 ^ 64 → numeral (decimal n) ≡ Some n
unfolding numeral
numeral_again n small = given (is_numeral (decimal n)) (number_behind 0 (decimal n)) n (decimal_is n small) (digits_value-decimal own n small)

spelled_by : (text : List ℕ) → is_numeral text ≡ true → number_behind 0 text < 2 ^ 64 → text ≡ decimal (number_behind 0 text)
spelled_by text e small = let a = are text e in sym (decimal-digits_value own text a.0 a.1 a.2 small)

pub numeral_spells : (text : List ℕ) (n : ℕ) → numeral text ≡ Some n → n < 2 ^ 64 → text ≡ decimal n
unfolding numeral
numeral_spells text n e small =
    let is = taken (is_numeral text) (number_behind 0 text) n e in
    spelled_by text is.0 (omega (arith, is.1)) ∙ ap decimal is.1
