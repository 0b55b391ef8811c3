-- Decimal numerals without leading zeros.
use Rattle.std.specs.Prelude.{ℕ, ◌+◌, ◌-◌, ◌*◌, Bool, true, false, ◌==◌, ◌&&◌, not, List, [], ◌∷◌, Option, Some, None, if◌then◌else◌, nat_le}

abbrev pub is_digit : ℕ → Bool
is_digit c = nat_le 48 c && nat_le c 57

-- the number that digits spell behind those of another
abbrev pub number_behind : ℕ → List ℕ → ℕ
number_behind n [] = n
number_behind n (digit ∷ digits) = number_behind (10 * n + (digit - 48)) digits

abbrev pub are_digits : List ℕ → Bool
are_digits [] = true
are_digits (digit ∷ digits) = is_digit digit && are_digits digits

-- one digit or more, and no zero before another digit
abbrev pub is_numeral : List ℕ → Bool
is_numeral [] = false
is_numeral (digit ∷ []) = is_digit digit
is_numeral (digit ∷ more ∷ digits) = not (digit == 48) && are_digits (digit ∷ more ∷ digits)

-- the number that a text spells
unfoldable pub numeral : List ℕ → Option ℕ
numeral text = if is_numeral text then Some (number_behind 0 text) else None

-- that number, where it is at most this one
unfoldable pub numeral_within : ℕ → List ℕ → Option ℕ
numeral_within most text = elim (numeral text) [ None ↦ None | Some n ↦ if nat_le n most then Some n else None ]
