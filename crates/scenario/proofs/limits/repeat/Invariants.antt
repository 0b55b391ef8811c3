use Rattle.std.proofs.Common.{◌≡◌, ◌-◌, ◌++◌, replicate}
use Rattle.scenario.proofs.limits.repeat.Given as goal

abbrev pub invariant-times : goal.invariant-times
invariant-times l = l.steps ≡ l.fn.steps ++ replicate (l.counter - 1) l.fn.timed.turn
