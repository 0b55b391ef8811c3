-- The first fault of a scenario, place by place.
use Rattle.std.specs.Prelude.{ℕ, List, [], ◌∷◌, ◌++◌, length, Option, Some, None, Result, Ok, Err}
use Rattle.scenario.specs.declared.scenario.Fault.{Fault}
use Rattle.scenario.specs.declared.scenario.FaultKind.{FaultKind}
use Rattle.scenario.specs.declared.scenario.FaultPlace.{FaultPlace}

-- what was found at a place, or a fault there
abbrev pub found_at : {A : Type 0} → FaultKind → FaultPlace → Option A → Result A Fault
found_at kind place None = Err (record { kind = kind; place = place })
found_at kind place (Some said) = Ok said

-- one part after another, up to the first fault
infixl 10 ◌>>=◌
abbrev pub ◌>>=◌ : {A B : Type 0} → Result A Fault → (A → Result B Fault) → Result B Fault
(Ok said) >>= next = next said
(Err fault) >>= next = Err fault

-- each of a list in its turn, beside what was found of those before it, up to the first fault
abbrev pub each : {A B : Type 0} → FaultKind → (ℕ → FaultPlace) → (List B → A → Option B) → List B → List A → Result (List B) Fault
each kind place find before [] = Ok before
each kind place find before (value ∷ values) =
    found_at kind (place (length before)) (find before value) >>= (λ found. each kind place find (before ++ found ∷ []) values)

-- each by itself
abbrev pub each_alone : {A B : Type 0} → FaultKind → (ℕ → FaultPlace) → (A → Option B) → List A → Result (List B) Fault
each_alone kind place find values = each kind place (λ before. find) [] values
