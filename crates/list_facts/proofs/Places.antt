-- What stands at the places of a list.
use Rattle.std.proofs.Common.{◌≡◌, ◌⊎◌, inl, inr, ℕ, ◌+◌, List, [], ◌∷◌, ◌++◌, length, take, drop, zero, suc, refl, sym, ap, subst, arith}
use Rattle.std.specs.Prelude.{slice_get, get_or, Some}
use Rattle.list_facts.specs.Lists.{IsIn, IsPrefix}

-- in the front of two lists
pub get_front : {A : Type 0} (xs ys : List A) (i : ℕ) (x : A) → slice_get xs i ≡ Some x → slice_get (xs ++ ys) i ≡ Some x
get_front [] ys i x h = cc
get_front (y ∷ xs) ys zero x h = h
get_front (y ∷ xs) ys (suc i) x h = get_front xs ys i x h

-- what stands at a place stays there
pub get_prefix : {A : Type 0} {xs ys : List A} (i : ℕ) (x : A) → IsPrefix xs ys → slice_get xs i ≡ Some x → slice_get ys i ≡ Some x
get_prefix {xs = xs} i x p h = subst (λ l. slice_get l i ≡ Some x) (sym p.joined) (get_front xs p.rest i x h)

-- a place of a list with one more
pub get_push : {A : Type 0} (xs : List A) (y x : A) (i : ℕ) → slice_get (xs ++ y ∷ []) i ≡ Some x → (slice_get xs i ≡ Some x) ⊎ ((i ≡ length xs) × (x ≡ y))
get_push [] y x zero h = inr (refl, cc)
get_push [] y x (suc i) h = cc
get_push (z ∷ xs) y x zero h = inl h
get_push (z ∷ xs) y x (suc i) h = elim (get_push xs y x i h) [ inl k ↦ inl k | inr k ↦ inr (ap suc k.0, k.1) ]

-- what stands in a list has a place, and the other way
pub in_get : {A : Type 0} (xs : List A) (x : A) → IsIn x xs → (i : ℕ) × (slice_get xs i ≡ Some x)
in_get [] x h = absurd h
in_get (y ∷ xs) x (inl e) = (0, ap Some (sym e))
in_get (y ∷ xs) x (inr h) = let r = in_get xs x h in (suc r.0, r.1)

pub get_in : {A : Type 0} (xs : List A) (x : A) (i : ℕ) → slice_get xs i ≡ Some x → IsIn x xs
get_in [] x i h = cc
get_in (y ∷ xs) x zero h = inl (cc)
get_in (y ∷ xs) x (suc i) h = inr (get_in xs x i h)

-- nothing stands in no list
pub none_at : {A : Type 0} (i : ℕ) (x : A) → slice_get [] i ≡ Some x → ⊥
none_at i x h = cc

pub none_of : {A : Type 0} (xs : List A) → ((i : ℕ) (x : A) → slice_get xs i ≡ Some x → ⊥) → xs ≡ []
none_of [] h = refl
none_of (x ∷ xs) h = absurd (h 0 x refl)

pub no_split : {A : Type 0} (front back : List A) (e : A) → [] ≡ front ++ e ∷ back → ⊥
no_split [] back e is = cc
no_split (y ∷ front) back e is = cc

get_none : {A : Type 0} (n i : ℕ) (x : A) → slice_get (take n []) i ≡ Some x → ⊥
get_none zero i x h = cc
get_none (suc n) i x h = cc

-- what stands in the front of a list
get_taken : {A : Type 0} (n : ℕ) (xs : List A) (i : ℕ) (x : A) → slice_get (take n xs) i ≡ Some x → slice_get xs i ≡ Some x
get_taken zero xs i x h = cc
get_taken (suc n) [] i x h = h
get_taken (suc n) (y ∷ xs) zero x h = h
get_taken (suc n) (y ∷ xs) (suc i) x h = get_taken n xs i x h

-- in the front of what is behind a place
pub get_dropped : {A : Type 0} (k n : ℕ) (xs : List A) (i : ℕ) (x : A) → slice_get (take n (drop k xs)) i ≡ Some x → slice_get xs (k + i) ≡ Some x
get_dropped zero n xs i x h = let e : 0 + i ≡ i = omega arith in subst (λ (j : ℕ). slice_get xs j ≡ Some x) (sym e) (get_taken n xs i x h)
get_dropped (suc k) n [] i x h = absurd (get_none n i x h)
get_dropped (suc k) n (y ∷ xs) i x h =
    let e : suc k + i ≡ suc (k + i) = omega arith in
    subst (λ (j : ℕ). slice_get (y ∷ xs) j ≡ Some x) (sym e) (get_dropped k n xs i x h)

-- the last of a list of numbers
pub get_zero : (xs : List ℕ) (i : ℕ) → get_or (xs ++ 0 ∷ []) i 0 ≡ get_or xs i 0
get_zero [] zero = refl
get_zero [] (suc i) = refl
get_zero (x ∷ xs) zero = refl
get_zero (x ∷ xs) (suc i) = get_zero xs i

pub get_last : (xs : List ℕ) (y z i : ℕ) → ((i ≡ length xs) × (get_or (xs ++ y ∷ []) i 0 ≡ y)) ⊎ (get_or (xs ++ y ∷ []) i 0 ≡ get_or (xs ++ z ∷ []) i 0)
get_last [] y z zero = inl (refl, refl)
get_last [] y z (suc i) = inr refl
get_last (x ∷ xs) y z zero = inr refl
get_last (x ∷ xs) y z (suc i) = elim (get_last xs y z i) [ inl k ↦ inl (ap suc k.0, k.1) | inr k ↦ inr k ]
