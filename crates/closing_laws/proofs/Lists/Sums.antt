-- Sums over lists, part by part.
use Rattle.std.proofs.Common.{◌≤◌, ℕ, ◌+◌, ◌*◌, List, [], ◌∷◌, length, refl, ◌∙◌, ap, subst, arith, inl, inr, mul-add, suc-mul}
use Rattle.std.specs.Prelude.{sum_by}
use Rattle.std.proofs.lemmas.List.Sums.{sum_by-cons, sum_by-le-sum_by}
use Rattle.list_facts.specs.Lists.{IsIn}

-- parts that are at most so many times others, and so many more
pub sum_most : {X : Type 0} (d e : ℕ) (g h : X → ℕ) (xs : List X) → ((x : X) → IsIn x xs → g x ≤ d * h x + e) → sum_by g xs ≤ d * sum_by h xs + length xs * e
sum_most d e g h [] each = omega arith
sum_most d e g h (x ∷ xs) each =
    let p = sum_by-cons g x xs in
    let q = ap (λ (k : ℕ). d * k) (sum_by-cons h x xs) ∙ mul-add d (h x) (sum_by h xs) in
    let first = each x (inl refl) in
    let rest = sum_most d e g h xs (λ y among. each y (inr among)) in
    let all = suc-mul (length xs) e in
    omega (arith, p, q, first, rest, all)

-- one part is lower, and no part is higher
pub sum_lower : {X : Type 0} (g h : X → ℕ) (xs : List X) (x : X) (d : ℕ) → IsIn x xs → ((y : X) → g y ≤ h y) → g x + d ≤ h x → sum_by g xs + d ≤ sum_by h xs
sum_lower g h [] x d among each lower = absurd among
sum_lower g h (y ∷ ys) x d (inl is) each lower =
    let a = sum_by-cons g y ys in
    let b = sum_by-cons h y ys in
    let rest = sum_by-le-sum_by g h ys each in
    let first = subst (λ z. g z + d ≤ h z) is lower in
    omega (arith, a, b, rest, first)
sum_lower g h (y ∷ ys) x d (inr among) each lower =
    let a = sum_by-cons g y ys in
    let b = sum_by-cons h y ys in
    let one = each y in
    let rest = sum_lower g h ys x d among each lower in
    omega (arith, a, b, one, rest)

-- parts that are at most so many times others, less so many times third ones
pub sum_less : {X : Type 0} (d e : ℕ) (g h k : X → ℕ) (xs : List X) → ((x : X) → IsIn x xs → g x + e * k x ≤ d * h x) → sum_by g xs + e * sum_by k xs ≤ d * sum_by h xs
sum_less d e g h k [] each = omega arith
sum_less d e g h k (x ∷ xs) each =
    let p = sum_by-cons g x xs in
    let q = ap (λ (m : ℕ). d * m) (sum_by-cons h x xs) ∙ mul-add d (h x) (sum_by h xs) in
    let r = ap (λ (m : ℕ). e * m) (sum_by-cons k x xs) ∙ mul-add e (k x) (sum_by k xs) in
    let first = each x (inl refl) in
    let rest = sum_less d e g h k xs (λ y among. each y (inr among)) in
    omega (arith, p, q, r, first, rest)
