use Rattle.std.proofs.Common.{◌≡◌, ◌++◌, map}
use Rattle.world_record.specs.Shows.{told_of}
use Rattle.world_record.proofs.told.told_all.Given as goal

abbrev pub invariant-loop-switch : goal.invariant-loop-switch
invariant-loop-switch l = (l.told ≡ map told_of l.yielded) × (l.yielded ++ l.switch-iterator.rest.items ≡ l.fn.switches.items)
