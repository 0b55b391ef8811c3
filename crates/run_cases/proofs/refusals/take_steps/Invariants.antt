use Rattle.world.specs.World.{Keeps}
use Rattle.run_cases.proofs.refusals.take_steps.Given as goal

abbrev pub invariant-loop-step : goal.invariant-loop-step
invariant-loop-step g l = Keeps g.A.App.law g.W.Stable.saving g.B.Body.sealing l.fn.world l.fn.stables l.world l.stables
