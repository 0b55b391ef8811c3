use Rattle.std.proofs.Common.{◌≡◌, drop}
use Rattle.std.specs.Prelude.{nat_lt, length, ◌||◌}
use Rattle.of_types.specs.SmallSets.{places_from}
use Rattle.of_types.proofs.small_set.SmallSet.is_empty.Given as goal

abbrev pub invariant-members : goal.invariant-members
invariant-members l =
    (l.has_member || nat_lt 0 (length (places_from l.is_member-index (drop l.is_member-index l.is_member-items)))) ≡ nat_lt 0 (length (places_from 0 l.is_member-items))
