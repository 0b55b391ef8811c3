use Rattle.std.proofs.Common.{◌≡◌, ◌++◌, drop}
use Rattle.of_types.specs.SmallSets.{places_from}
use Rattle.of_types.proofs.small_set.SmallSet.to_vec.Given as goal

abbrev pub invariant-loop-number : goal.invariant-loop-number
invariant-loop-number l =
    l.numbers.items ++ places_from l.number (drop l.number l.is_member-items) ≡ places_from 0 l.is_member-items
