-- Lists in which one place is changed.
use Rattle.std.proofs.Common.{◌≡◌, ℕ, List, [], ◌∷◌, length, zero, suc, refl, ap}
use Rattle.std.specs.Prelude.{slice_get, slice_set, Some}
use Rattle.group_controller.specs.Turns.{Controlling}
use Rattle.run_spec.specs.Legal.{results_of}
use Rattle.world.specs.World.{results_in}

-- what was put is there, and all else stays
pub got_set : {X : Type 0} (xs : List X) (i : ℕ) (old new : X) → slice_get xs i ≡ Some old → slice_get (slice_set xs i new) i ≡ Some new
got_set [] i old new found = cc
got_set (x ∷ xs) zero old new found = refl
got_set (x ∷ xs) (suc i) old new found = got_set xs i old new found

pub got_other : {X : Type 0} (xs : List X) (i j : ℕ) (new : X) → (i ≡ j → ⊥) → slice_get (slice_set xs i new) j ≡ slice_get xs j
got_other [] zero j new other = refl
got_other [] (suc i) j new other = refl
got_other (x ∷ xs) zero zero new other = absurd (other refl)
got_other (x ∷ xs) zero (suc j) new other = refl
got_other (x ∷ xs) (suc i) zero new other = refl
got_other (x ∷ xs) (suc i) (suc j) new other = got_other xs i j new (λ h. other (ap suc h))

-- what is put where it stands changes nothing
pub set_same : {X : Type 0} (xs : List X) (i : ℕ) (x : X) → slice_get xs i ≡ Some x → slice_set xs i x ≡ xs
set_same [] zero x found = cc
set_same [] (suc i) x found = cc
set_same (y ∷ xs) zero x found = ap (λ z. z ∷ xs) (one found)
  where
    one : Some y ≡ Some x → x ≡ y
    one h = cc
set_same (y ∷ xs) (suc i) x found = ap (λ l. y ∷ l) (set_same xs i x found)

-- the results of the saves of a controller
pub results_at : {A : Type 0} (xs : List (Controlling A)) (i : ℕ) (x : Controlling A) → slice_get xs i ≡ Some x → results_of (results_in xs) i ≡ x.results
results_at [] i x found = cc
results_at (y ∷ xs) zero x found = ap (λ c. c.results) (one found)
  where
    one : Some y ≡ Some x → y ≡ x
    one h = cc
results_at (y ∷ xs) (suc i) x found = results_at xs i x found

pub results_other : {A : Type 0} (xs : List (Controlling A)) (i j : ℕ) (new : Controlling A) → (i ≡ j → ⊥) →
    results_of (results_in (slice_set xs i new)) j ≡ results_of (results_in xs) j
results_other [] zero j new other = refl
results_other [] (suc i) j new other = refl
results_other (x ∷ xs) zero zero new other = absurd (other refl)
results_other (x ∷ xs) zero (suc j) new other = refl
results_other (x ∷ xs) (suc i) zero new other = refl
results_other (x ∷ xs) (suc i) (suc j) new other = results_other xs i j new (λ h. other (ap suc h))

pub set_length : {X : Type 0} (xs : List X) (i : ℕ) (new : X) → length (slice_set xs i new) ≡ length xs
set_length [] zero new = refl
set_length [] (suc i) new = refl
set_length (x ∷ xs) zero new = refl
set_length (x ∷ xs) (suc i) new = ap suc (set_length xs i new)
