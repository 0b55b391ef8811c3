-- How the events of a log are found by their names.
use Rattle.std.specs.Prelude.{◌≡◌, ℕ, suc, Bool, List, [], ◌∷◌, Option, Some, None, option_map, if◌then◌else◌}
use Rattle.of_types.specs.declared.message.Event.{Event}
use Rattle.vr_log.specs.Same.{same_event}
use Rattle.audit.specs.Names.{Name, same_name, name_of, value_of}

-- the first place at which a test holds
abbrev pub first_at : {A : Type 0} → (A → Bool) → List A → Option ℕ
first_at test [] = None
first_at test (x ∷ xs) = if test x then Some 0 else option_map suc (first_at test xs)

-- the values by name are the places of these events, of several with one name that of the first
abbrev pub ArePlaces : List Event → List (Name × ℕ) → Type 0
ArePlaces events places = (q : Name) → value_of places q ≡ first_at (λ e. same_name (name_of e) q) events

-- the place of the first event that has the name of this one, where it is equal
abbrev pub equal_at : List Event → Event → Option ℕ
equal_at [] line = None
equal_at (e ∷ events) line =
    if same_name (name_of e) (name_of line) then (if same_event e line then Some 0 else None) else option_map suc (equal_at events line)
