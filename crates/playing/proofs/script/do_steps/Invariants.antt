use Rattle.std.proofs.Common.{◌≡◌, ◌++◌, length}
use Rattle.closing.specs.Views.{most_view_of_a_script}
use Rattle.playing.proofs.Following.{Stands}
use Rattle.playing.proofs.script.do_steps.Given as goal

abbrev pub invariant-loop-step : goal.invariant-loop-step
invariant-loop-step g l = record {
  stands : Stands g.A.App.law g.W.Stable.saving g.B.Body.sealing l.fn.steps most_view_of_a_script (length l.yielded) l.fn.world l.fn.stables l.world l.stables;
  joined : l.yielded ++ l.step-iterator.rest.items ≡ l.fn.steps;
}
