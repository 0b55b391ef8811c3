-- What holds of each of a list, of further lists made from it.
use Rattle.std.proofs.Common.{◌≡◌, ◌<◌, ◌≤◌, ℕ, ◌+◌, drop, zero, suc, Bool, true, List, [], ◌∷◌, ◌++◌, subst, inl, inr, arith}
use Rattle.std.specs.Prelude.{nat_eq, nat_lt, filter, flat_map}
use Rattle.std.specs.List.{AllByRecursion, list_any, range_with_len}
use Rattle.std.proofs.lemmas.Bool.{cond_both, eqb-true, or_cases}
use Rattle.of_types.specs.SmallSets.{with_number, without_number}
use Rattle.journal.proofs.All.{all_append, all_filter}

pub all_flat : {A B : Type 0} (f : A → List B) (P : B → Type 0) → ((x : A) → AllByRecursion P (f x)) → (xs : List A) → AllByRecursion P (flat_map f xs)
all_flat f P made [] = tt
all_flat f P made (x ∷ xs) = all_append P (f x) (flat_map f xs) (made x) (all_flat f P made xs)

-- where f depends on what holds of each
pub all_flat_of : {A B : Type 0} (f : A → List B) (P : A → Type 0) (Q : B → Type 0) → ((x : A) → P x → AllByRecursion Q (f x)) → (xs : List A) → AllByRecursion P xs → AllByRecursion Q (flat_map f xs)
all_flat_of f P Q made [] h = tt
all_flat_of f P Q made (x ∷ xs) (here, h) = all_append Q (f x) (flat_map f xs) (made x here) (all_flat_of f P Q made xs h)

-- the first of two lists
pub all_front : {A : Type 0} (P : A → Type 0) (xs ys : List A) → AllByRecursion P (xs ++ ys) → AllByRecursion P xs
all_front P [] ys h = tt
all_front P (x ∷ xs) ys (here, h) = (here, all_front P xs ys h)

pub all_drop : {A : Type 0} (P : A → Type 0) (n : ℕ) (xs : List A) → AllByRecursion P xs → AllByRecursion P (drop n xs)
all_drop P zero xs h = h
all_drop P (suc n) [] h = tt
all_drop P (suc n) (x ∷ xs) (here, h) = all_drop P n xs h

-- what passes a test
pub all_passing : {A : Type 0} (P : A → Type 0) (test : A → Bool) → ((x : A) → test x ≡ true → P x) → (xs : List A) → AllByRecursion P (filter test xs)
all_passing P test passes [] = tt
all_passing P test passes (x ∷ xs) =
    let rest = all_passing P test passes xs in
    cond_both (test x) (x ∷ filter test xs) (filter test xs) (λ ys. AllByRecursion P ys) (λ is. (passes x is, rest)) (λ _. rest)

-- a number that stands among these
pub any_of : (P : ℕ → Type 0) (n : ℕ) (xs : List ℕ) → AllByRecursion P xs → list_any (λ x. nat_eq x n) xs ≡ true → P n
any_of P n [] h found = absurd cc
any_of P n (x ∷ xs) (here, h) found = elim (or_cases (nat_eq x n) _ found) [
  | inl is ↦ subst P (eqb-true x n is) here
  | inr more ↦ any_of P n xs h more
]

pub range_below : (a n most : ℕ) → a + n ≤ most → AllByRecursion (λ k. k < most) (range_with_len a n)
range_below a zero most fits = tt
range_below a (suc n) most fits = (omega arith, range_below (a + 1) n most (omega arith))

-- a set with one more number, and with one less
pub all_with : (P : ℕ → Type 0) (n : ℕ) (xs : List ℕ) → P n → AllByRecursion P xs → AllByRecursion P (with_number n xs)
all_with P n xs here h =
    all_append P (filter (λ m. nat_lt m n) xs) (n ∷ filter (λ m. nat_lt n m) xs) (all_filter P (λ m. nat_lt m n) xs h) (here, all_filter P (λ m. nat_lt n m) xs h)

pub all_without : (P : ℕ → Type 0) (n : ℕ) (xs : List ℕ) → AllByRecursion P xs → AllByRecursion P (without_number n xs)
all_without P n xs h = all_filter P _ xs h
