-- Members of objects, and values of lists.
use Rattle.std.proofs.Common.{◌≡◌, List, [], ◌∷◌, map, length, suc, refl, ap}
use Rattle.std.specs.Prelude.{String}
use Rattle.std.specs.declared.alloc.Global.{Global}
use Rattle.serde_json.specs.View.{view, items_view, members_view}
use Rattle.serde_json.specs.declared.value.Value.{Value}
use Rattle.scenario.specs.Json.{count_members, values_of}

pub count_members_of_view : (ms : List (String Global × Value)) → length ms ≡ count_members (members_view ms)
count_members_of_view [] = refl
count_members_of_view (m ∷ ms) = ap suc (count_members_of_view ms)

pub values_of_view : (vs : List Value) → values_of (items_view vs) ≡ map view vs
values_of_view [] = refl
values_of_view (v ∷ vs) = ap (λ ds. view v ∷ ds) (values_of_view vs)
