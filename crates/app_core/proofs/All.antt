-- What holds of each element of a list.
use Rattle.std.proofs.Common.{◌≤◌, ◌<◌, ℕ, zero, suc, ◌+◌, List, [], ◌∷◌, ◌++◌, map, take, sym, subst, arith}
use Rattle.std.specs.Prelude.{flat_map, reverse}
use Rattle.std.specs.List.{AllByRecursion, range_with_len}
use Rattle.std.proofs.lemmas.List.{reverse-append}

pub all_append : {A : Type 0} (P : A → Type 0) (xs ys : List A) → AllByRecursion P xs → AllByRecursion P ys → AllByRecursion P (xs ++ ys)
all_append P [] ys h k = k
all_append P (x ∷ xs) ys h k = (h.0, all_append P xs ys h.1 k)

pub all_weaker : {A : Type 0} (P Q : A → Type 0) → ((x : A) → P x → Q x) → (xs : List A) → AllByRecursion P xs → AllByRecursion Q xs
all_weaker P Q weaker [] h = tt
all_weaker P Q weaker (x ∷ xs) h = (weaker x h.0, all_weaker P Q weaker xs h.1)

-- what is made of each of some numbers
pub all_numbered : {A : Type 0} (P : A → Type 0) (f : ℕ → A) (a n : ℕ) → ((k : ℕ) → a ≤ k → k < a + n → P (f k)) → AllByRecursion P (map f (range_with_len a n))
all_numbered P f a zero each = tt
all_numbered P f a (suc n) each = (each a (omega arith) (omega arith), all_numbered P f (a + 1) n (λ k low high. each k (omega (arith, low)) (omega (arith, high))))

pub all_take : {A : Type 0} (P : A → Type 0) (n : ℕ) (xs : List A) → AllByRecursion P xs → AllByRecursion P (take n xs)
all_take P zero xs h = tt
all_take P (suc n) [] h = tt
all_take P (suc n) (x ∷ xs) h = (h.0, all_take P n xs h.1)

pub all_reverse : {A : Type 0} (P : A → Type 0) (xs : List A) → AllByRecursion P xs → AllByRecursion P (reverse xs)
all_reverse P [] h = tt
all_reverse P (x ∷ xs) h = subst (λ l. AllByRecursion P l) (sym (reverse-append (x ∷ []) xs)) (all_append P (reverse xs) (x ∷ []) (all_reverse P xs h.1) (h.0, tt))

pub all_made : {A B : Type 0} (P : A → Type 0) (Q : B → Type 0) (f : A → B) → ((x : A) → P x → Q (f x)) → (xs : List A) → AllByRecursion P xs → AllByRecursion Q (map f xs)
all_made P Q f each [] h = tt
all_made P Q f each (x ∷ xs) h = (each x h.0, all_made P Q f each xs h.1)

pub all_flat : {B : Type 0} (Q : B → Type 0) (f : ℕ → List B) (a n : ℕ) → ((k : ℕ) → a ≤ k → k < a + n → AllByRecursion Q (f k)) → AllByRecursion Q (flat_map f (range_with_len a n))
all_flat Q f a zero each = tt
all_flat Q f a (suc n) each =
    all_append Q (f a) (flat_map f (range_with_len (a + 1) n)) (each a (omega arith) (omega arith)) (all_flat Q f (a + 1) n (λ k low high. each k (omega (arith, low)) (omega (arith, high))))
