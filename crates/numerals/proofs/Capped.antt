-- Numbers that are stopped at a greatest one.
use Rattle.std.proofs.Common.{◌≡◌, ℕ, ◌+◌, ◌-◌, ◌*◌, ◌<◌, min, true, List, [], ◌∷◌, length, get_or, drop, refl, sym, ap, ◌∙◌, add-one, drop-cons, arith}
use Rattle.numerals.specs.Numerals.{number_behind, is_digit, are_digits}

-- what is stopped already may be stopped again behind further digits
pub number_behind_capped : (most m n : ℕ) (digits : List ℕ) → min m most ≡ min n most → min (number_behind m digits) most ≡ min (number_behind n digits) most
number_behind_capped most m n [] same = same
number_behind_capped most m n (digit ∷ digits) same =
    let next : min (10 * m + (digit - 48)) most ≡ min (10 * n + (digit - 48)) most = omega arith in
    number_behind_capped most (10 * m + (digit - 48)) (10 * n + (digit - 48)) digits next

min_again : (n most : ℕ) → min (min n most) most ≡ min n most
min_again n most = omega arith

-- one digit more of a text was read
pub one_digit : (text : List ℕ) (i most number next : ℕ) → i < length text → is_digit (get_or text i 0) ≡ true → next ≡ min (10 * number + (get_or text i 0 - 48)) most →
    (are_digits (drop i text) ≡ are_digits (drop (i + 1) text)) × (min (number_behind number (drop i text)) most ≡ min (number_behind next (drop (i + 1) text)) most)
one_digit text i most number next within digit is =
    let split : drop i text ≡ get_or text i 0 ∷ drop (i + 1) text = rw add-one (drop-cons text i 0 within) in (
      ap are_digits split ∙ rw digit refl,
      ap (λ (l : List ℕ). min (number_behind number l) most) split
          ∙ rw is (sym (number_behind_capped most (min (10 * number + (get_or text i 0 - 48)) most) (10 * number + (get_or text i 0 - 48)) (drop (i + 1) text) (min_again (10 * number + (get_or text i 0 - 48)) most))),
    )
