-- What holds of each of a list, of lists made from it.
use Rattle.std.proofs.Common.{◌≡◌, ℕ, zero, suc, Bool, true, false, List, [], ◌∷◌, ◌++◌, take, subst}
use Rattle.std.specs.Prelude.{map, filter, find, slice_get, slice_index_or, Option, Some, if◌then◌else◌}
use Rattle.std.specs.List.{AllByRecursion}

pub all_append : {A : Type 0} (P : A → Type 0) (xs ys : List A) → AllByRecursion P xs → AllByRecursion P ys → AllByRecursion P (xs ++ ys)
all_append P [] ys h k = k
all_append P (x ∷ xs) ys (here, h) k = (here, all_append P xs ys h k)

pub all_map : {A B : Type 0} (f : A → B) (P : A → Type 0) (Q : B → Type 0) → ((x : A) → P x → Q (f x)) → (xs : List A) → AllByRecursion P xs → AllByRecursion Q (map f xs)
all_map f P Q made [] h = tt
all_map f P Q made (x ∷ xs) (here, h) = (made x here, all_map f P Q made xs h)

pub all_weaker : {A : Type 0} (P Q : A → Type 0) → ((x : A) → P x → Q x) → (xs : List A) → AllByRecursion P xs → AllByRecursion Q xs
all_weaker P Q made [] h = tt
all_weaker P Q made (x ∷ xs) (here, h) = (made x here, all_weaker P Q made xs h)

kept_choice : {A : Type 0} (P : A → Type 0) (b : Bool) (x : A) (xs : List A) → P x → AllByRecursion P xs → AllByRecursion P (if b then x ∷ xs else xs)
kept_choice P true x xs here h = (here, h)
kept_choice P false x xs here h = h

pub all_filter : {A : Type 0} (P : A → Type 0) (test : A → Bool) (xs : List A) → AllByRecursion P xs → AllByRecursion P (filter test xs)
all_filter P test [] h = tt
all_filter P test (x ∷ xs) (here, h) = kept_choice P (test x) x (filter test xs) here (all_filter P test xs h)

pub all_take : {A : Type 0} (P : A → Type 0) (n : ℕ) (xs : List A) → AllByRecursion P xs → AllByRecursion P (take n xs)
all_take P zero xs h = tt
all_take P (suc n) [] h = tt
all_take P (suc n) (x ∷ xs) (here, h) = (here, all_take P n xs h)

pub all_get : {A : Type 0} (P : A → Type 0) (xs : List A) (i : ℕ) (x : A) → AllByRecursion P xs → slice_get xs i ≡ Some x → P x
all_get P [] i x h found = cc
all_get P (y ∷ xs) zero x (here, h) found = let same : y ≡ x = cc in subst P same here
all_get P (y ∷ xs) (suc i) x (here, h) found = all_get P xs i x h found

pub all_index_or : {A : Type 0} (P : A → Type 0) (xs : List A) (i : ℕ) (d : A) → AllByRecursion P xs → P d → P (slice_index_or xs i d)
all_index_or P [] i d h other = other
all_index_or P (y ∷ xs) zero d (here, h) other = here
all_index_or P (y ∷ xs) (suc i) d (here, h) other = all_index_or P xs i d h other

found_choice : {A : Type 0} (P : A → Type 0) (b : Bool) (x y : A) (rest : Option A) → P x → (rest ≡ Some y → P y) → (if b then Some x else rest) ≡ Some y → P y
found_choice P true x y rest here there found = let same : x ≡ y = cc in subst P same here
found_choice P false x y rest here there found = there found

pub all_found : {A : Type 0} (P : A → Type 0) (test : A → Bool) (xs : List A) (y : A) → AllByRecursion P xs → find test xs ≡ Some y → P y
all_found P test [] y h found = cc
all_found P test (x ∷ xs) y (here, h) found = found_choice P (test x) x y (find test xs) here (all_found P test xs y h) found

pub all_made : {A B : Type 0} (f : A → B) (P : B → Type 0) → ((x : A) → P (f x)) → (xs : List A) → AllByRecursion P (map f xs)
all_made f P made [] = tt
all_made f P made (x ∷ xs) = (made x, all_made f P made xs)
