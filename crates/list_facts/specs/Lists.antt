-- What stands in a list, and what begins one.
use Rattle.std.specs.Prelude.{◌≡◌, ◌⊎◌, List, [], ◌∷◌, ◌++◌}

-- x stands in the list
abbrev pub IsIn : {A : Type 0} → A → List A → Type 0
IsIn x [] = ⊥
IsIn x (y ∷ ys) = (x ≡ y) ⊎ IsIn x ys

-- the first list begins the second
pub record IsPrefix {A : Type 0} (front whole : List A) : Type 0 where
  pub rest : List A
  pub joined : whole ≡ front ++ rest

-- one of two lists begins the other
abbrev pub AreOne : {A : Type 0} → List A → List A → Type 0
AreOne xs ys = IsPrefix xs ys ⊎ IsPrefix ys xs
