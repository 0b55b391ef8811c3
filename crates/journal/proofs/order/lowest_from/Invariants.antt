use Rattle.std.proofs.Common.{◌-◌, length}
use Rattle.journal.specs.Order.{IsClearBelow}
use Rattle.journal.proofs.order.lowest_from.Given as goal

abbrev pub invariant-loop-lowest : goal.invariant-loop-lowest
invariant-loop-lowest l = IsClearBelow l.lowest l.slots

abbrev pub decreases-loop-lowest : goal.decreases-loop-lowest
decreases-loop-lowest l = length l.slots - l.lowest
