-- The sizes of a list's elements, added one after another and stopped at the greatest number.
use Rattle.std.proofs.Common.{◌≡◌, ◌<◌, ◌≤◌, ℕ, ◌+◌, ◌-◌, ◌^◌, min, List, length, take, get_or, ap, ◌∙◌, arith, take_all}
use Rattle.std.specs.Prelude.{sum_by}
use Rattle.std.proofs.lemmas.List.Sums.{sum_by_more}

module _ {A : Type 0} where
  -- one element more
  pub sized_more : (size : A → ℕ) (xs : List A) (i : ℕ) (x : A) (sum weight now : ℕ) →
      sum ≡ min (2 ^ 64 - 1) (sum_by size (take i xs)) → i < length xs → x ≡ get_or xs i x → weight ≡ size x → now ≡ min (sum + weight) (2 ^ 64 - 1) →
      now ≡ min (2 ^ 64 - 1) (sum_by size (take (i + 1) xs))
  sized_more size xs i x sum weight now sum_is within is weight_is now_is =
      let more = sum_by_more size xs i x within in
      let here = weight_is ∙ ap size is in
      omega (arith, more, here)

  -- every element
  pub sized_all : (size : A → ℕ) (xs : List A) (i sum : ℕ) → sum ≡ min (2 ^ 64 - 1) (sum_by size (take i xs)) → length xs ≤ i → sum ≡ min (2 ^ 64 - 1) (sum_by size xs)
  sized_all size xs i sum sum_is long = sum_is ∙ ap (λ ys. min (2 ^ 64 - 1) (sum_by size ys)) (take_all i xs long)
