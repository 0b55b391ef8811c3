-- What the rules of a member of a group ask of its state (Viewstamped Replication Revisited, 4).
use Rattle.std.specs.Prelude.{ℕ, zero, suc, ◌/◌, ◌%◌, Bool, true, false, not, nat_eq, nat_lt, ◌&&◌, ◌||◌, List, [], ◌∷◌, ◌++◌, if◌then◌else◌}
use Rattle.vr_log.specs.declared.state.Status.TheVariants.{Normal, ViewChange, Recovering, Down}
use Rattle.vr_log.specs.declared.state.VrState.{VrState}

abbrev pub is_normal : VrState → Bool
is_normal s = elim s.status [ Normal ↦ true | ViewChange ↦ false | Recovering ↦ false | Down ↦ false ]

abbrev pub is_changing : VrState → Bool
is_changing s = elim s.status [ Normal ↦ false | ViewChange ↦ true | Recovering ↦ false | Down ↦ false ]

-- it takes part: it is not recovering, nor down
abbrev pub is_up : VrState → Bool
is_up s = elim s.status [ Normal ↦ true | ViewChange ↦ true | Recovering ↦ false | Down ↦ false ]

abbrev pub is_recovering : VrState → Bool
is_recovering s = elim s.status [ Normal ↦ false | ViewChange ↦ false | Recovering ↦ true | Down ↦ false ]

-- the primary of a view: members take their turns
abbrev pub primary_of : VrState → ℕ → ℕ
primary_of s view = view % s.controllers

abbrev pub is_primary : VrState → Bool
is_primary s = nat_eq (primary_of s s.view) s.me

-- another member of the group
abbrev pub is_other : VrState → ℕ → Bool
is_other s j = nat_lt j s.controllers && not (nat_eq j s.me)

-- it is the primary of this view
abbrev pub is_primary_of : VrState → ℕ → ℕ → Bool
is_primary_of s member view = nat_eq member (primary_of s view)

-- it is of this view, in which the member is normal
abbrev pub is_here : VrState → ℕ → Bool
is_here s view = is_normal s && nat_eq view s.view

-- it is of a later view
abbrev pub is_later : VrState → ℕ → Bool
is_later s view = is_up s && nat_lt s.view view

-- it is of a later view, or of this one while the view changes
abbrev pub is_newer : VrState → ℕ → Bool
is_newer s view = is_later s view || (is_changing s && nat_eq view s.view)

-- it leads: normal, and the primary of its view
abbrev pub leads : VrState → Bool
leads s = is_normal s && is_primary s

-- f of a group of 2f + 1
abbrev pub most_failures : VrState → ℕ
most_failures s = s.controllers / 2

-- the members below a number, without one, ascending
abbrev pub others_below : ℕ → ℕ → List ℕ
others_below me zero = []
others_below me (suc j) = if nat_eq j me then others_below me j else others_below me j ++ j ∷ []

-- the other members, ascending
abbrev pub others : VrState → List ℕ
others s = others_below s.me s.controllers
