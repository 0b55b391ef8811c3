use Rattle.std.proofs.Common.{◌≡◌, ◌+◌, ◌++◌, drop}
use Rattle.of_types.specs.SmallSets.{places_from}
use Rattle.of_switch.proofs.switch.ports.down_among.Given as goal

abbrev pub invariant-loop-index : goal.invariant-loop-index
invariant-loop-index l =
    l.ports.items ++ places_from (l.index + 1) (drop l.index l.down) ≡ places_from 1 l.down
