-- Two lists whose elements agree one by one.
use Rattle.std.proofs.Common.{◌≡◌, suc, List, [], ◌∷◌, ◌++◌, length, refl, ap}

abbrev pub ArePaired : {A C : Type 0} → (A → C → Type 0) → List A → List C → Type 0
ArePaired R [] [] = Unit {0}
ArePaired R [] (y ∷ ys) = ⊥
ArePaired R (x ∷ xs) [] = ⊥
ArePaired R (x ∷ xs) (y ∷ ys) = R x y × ArePaired R xs ys

pub paired_append : {A C : Type 0} (R : A → C → Type 0) (xs xs' : List A) (ys ys' : List C) → ArePaired R xs ys → ArePaired R xs' ys' → ArePaired R (xs ++ xs') (ys ++ ys')
paired_append R [] xs' [] ys' a b = b
paired_append R [] xs' (y ∷ ys) ys' a b = absurd a
paired_append R (x ∷ xs) xs' [] ys' a b = absurd a
paired_append R (x ∷ xs) xs' (y ∷ ys) ys' a b = (a.0, paired_append R xs xs' ys ys' a.1 b)

pub paired_none : {A C : Type 0} (R : A → C → Type 0) (xs : List A) → ArePaired R xs [] → xs ≡ []
paired_none R [] a = refl
paired_none R (x ∷ xs) a = absurd a

pub paired_length : {A C : Type 0} (R : A → C → Type 0) (xs : List A) (ys : List C) → ArePaired R xs ys → length xs ≡ length ys
paired_length R [] [] a = refl
paired_length R [] (y ∷ ys) a = absurd a
paired_length R (x ∷ xs) [] a = absurd a
paired_length R (x ∷ xs) (y ∷ ys) a = ap suc (paired_length R xs ys a.1)
