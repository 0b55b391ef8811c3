-- What stands in a list.
use Rattle.std.proofs.Common.{◌≡◌, ◌⊎◌, inl, inr, ℕ, Bool, true, false, List, [], ◌∷◌, ◌++◌, map, filter, take, drop, zero, suc, refl, sym, ◌∙◌, ap, subst}
use Rattle.std.specs.Prelude.{flat_map, if◌then◌else◌}
use Rattle.std.specs.List.{AllByRecursion}
use Rattle.list_facts.specs.Lists.{IsIn}

-- an element of two lists is in one of them
pub in_append : {A : Type 0} (x : A) (xs ys : List A) → IsIn x (xs ++ ys) → IsIn x xs ⊎ IsIn x ys
in_append x [] ys h = inr h
in_append x (y ∷ xs) ys (inl e) = inl (inl e)
in_append x (y ∷ xs) ys (inr h) = elim (in_append x xs ys h) [ inl k ↦ inl (inr k) | inr k ↦ inr k ]

-- and the other way
pub in_left : {A : Type 0} (x : A) (xs ys : List A) → IsIn x xs → IsIn x (xs ++ ys)
in_left x [] ys h = absurd h
in_left x (y ∷ xs) ys (inl e) = inl e
in_left x (y ∷ xs) ys (inr h) = inr (in_left x xs ys h)

pub in_right : {A : Type 0} (x : A) (xs ys : List A) → IsIn x ys → IsIn x (xs ++ ys)
in_right x [] ys h = h
in_right x (y ∷ xs) ys h = inr (in_right x xs ys h)

-- an element of a mapped list
pub in_map : {A B : Type 0} (f : A → B) (xs : List A) (y : B) → IsIn y (map f xs) → (x : A) × IsIn x xs × (y ≡ f x)
in_map f [] y h = absurd h
in_map f (x ∷ xs) y (inl e) = (x, inl refl, e)
in_map f (x ∷ xs) y (inr h) = let r = in_map f xs y h in (r.0, inr r.1, r.2)

-- of lists, one after another
pub in_flat_map : {A B : Type 0} (f : A → List B) (xs : List A) (y : B) → IsIn y (flat_map f xs) → (x : A) × IsIn x xs × IsIn y (f x)
in_flat_map f [] y h = absurd h
in_flat_map f (x ∷ xs) y h = elim (in_append y (f x) (flat_map f xs) h) [
  | inl k ↦ (x, inl refl, k)
  | inr k ↦ let r = in_flat_map f xs y k in (r.0, inr r.1, r.2)
]

-- of a front, and of what is behind one
pub in_take : {A : Type 0} (n : ℕ) (xs : List A) (x : A) → IsIn x (take n xs) → IsIn x xs
in_take zero xs x h = absurd h
in_take (suc n) [] x h = h
in_take (suc n) (y ∷ xs) x (inl e) = inl e
in_take (suc n) (y ∷ xs) x (inr h) = inr (in_take n xs x h)

pub in_drop : {A : Type 0} (n : ℕ) (xs : List A) (x : A) → IsIn x (drop n xs) → IsIn x xs
in_drop zero xs x h = h
in_drop (suc n) [] x h = h
in_drop (suc n) (y ∷ xs) x h = inr (in_drop n xs x h)

-- of a filtered list: it is of the list, and passes the test
one_more : {A : Type 0} (b : Bool) (y x : A) (xs ys : List A) → (IsIn x xs → IsIn x ys) → IsIn x (if b then y ∷ xs else xs) → (x ≡ y) ⊎ IsIn x ys
one_more true y x xs ys go (inl e) = inl e
one_more true y x xs ys go (inr h) = inr (go h)
one_more false y x xs ys go h = inr (go h)

pub in_filter : {A : Type 0} (p : A → Bool) (xs : List A) (x : A) → IsIn x (filter p xs) → IsIn x xs
in_filter p [] x h = h
in_filter p (y ∷ xs) x h = one_more (p y) y x (filter p xs) xs (λ k. in_filter p xs x k) h

passes_by : {A : Type 0} (p : A → Bool) (y x : A) (xs : List A) (b : Bool) → p y ≡ b → (IsIn x (filter p xs) → p x ≡ true) → IsIn x (if b then y ∷ filter p xs else filter p xs) → p x ≡ true
passes_by p y x xs true is rest (inl e) = ap p e ∙ is
passes_by p y x xs true is rest (inr k) = rest k
passes_by p y x xs false is rest k = rest k

pub filter_passes : {A : Type 0} (p : A → Bool) (xs : List A) (x : A) → IsIn x (filter p xs) → p x ≡ true
filter_passes p [] x h = absurd h
filter_passes p (y ∷ xs) x h = passes_by p y x xs (p y) refl (filter_passes p xs x) h

-- and the other way
pub filter_has : {A : Type 0} (p : A → Bool) (xs : List A) (x : A) → IsIn x xs → p x ≡ true → IsIn x (filter p xs)
filter_has p [] x h passes = absurd h
filter_has p (y ∷ xs) x (inl e) passes = let same : p y ≡ true = ap p (sym e) ∙ passes in rw same (inl e)
filter_has p (y ∷ xs) x (inr h) passes = by_test (p y) (filter_has p xs x h passes)
  where
    by_test : (b : Bool) → IsIn x (filter p xs) → IsIn x (if b then y ∷ filter p xs else filter p xs)
    by_test true k = inr k
    by_test false k = k

-- what holds of each holds of one of them
pub all_of : {A : Type 0} (P : A → Type 0) (xs : List A) (x : A) → AllByRecursion P xs → IsIn x xs → P x
all_of P [] x h k = absurd k
all_of P (y ∷ xs) x h (inl e) = subst P (sym e) h.0
all_of P (y ∷ xs) x h (inr k) = all_of P xs x h.1 k

-- and what holds of one after another holds of each
pub all_in : {A : Type 0} (P : A → Type 0) (xs : List A) → ((x : A) → IsIn x xs → P x) → AllByRecursion P xs
all_in P [] all = tt
all_in P (x ∷ xs) all = (all x (inl refl), all_in P xs (λ y h. all y (inr h)))
