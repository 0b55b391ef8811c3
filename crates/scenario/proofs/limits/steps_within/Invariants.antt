use Rattle.std.proofs.Common.{List}
use Rattle.scenario.specs.declared.limits.Timed.{Timed}
use Rattle.scenario.proofs.Turns.{SoFar}
use Rattle.scenario.proofs.limits.steps_within.Given as goal

abbrev pub invariant-steps : goal.invariant-steps
invariant-steps l =
    (done : List Timed) × SoFar l.controllers l.ports l.fn.written done l.step-iterator.rest.items l.steps l.restarts.items l.place
