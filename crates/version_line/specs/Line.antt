-- Parts in a line, one for each of the last versions of a slot.
use Rattle.std.specs.Prelude.{ℕ, ◌-◌, nat_lt, ◌&&◌, if◌then◌else◌, List, length, drop}
use Rattle.app_core.specs.Chain.{versions}

-- the active version, where so many parts are left: those before it are gone
abbrev pub active_of : {A : Type 0} → List A → ℕ
active_of parts = length versions - length parts

-- the parts that are left where a version is asked for: those before it go, where it is one and above the active one
abbrev pub left_after : {A : Type 0} → ℕ → List A → List A
left_after asked parts =
    if nat_lt (active_of parts) asked && nat_lt asked (length versions) then drop (asked - active_of parts) parts else parts
