use Rattle.std.proofs.Common.{◌-◌, ◌*◌, length}
use Rattle.run_spec.specs.Closing.{Losing}
use Rattle.world.specs.World.{Keeps}
use Rattle.closing.specs.Closing.{ClosesIn, LeadsTo, RaisesViewsBy, up_in}
use Rattle.closing.specs.Views.{views_of_an_attempt}
use Rattle.closing.proofs.rest.run.Given as goal

abbrev pub decreases-closing : goal.decreases-closing
decreases-closing g l = length (up_in l.world)

abbrev pub invariant-closing : goal.invariant-closing
invariant-closing g l = record {
  keeps : Keeps g.A.App.law g.W.Stable.saving g.B.Body.sealing l.fn.world l.fn.stables l.world l.stables;
  closes : LeadsTo g.A.App.law g.B.Body.sealing (ClosesIn Losing) (ClosesIn Losing) l.fn.world l.world;
  views : RaisesViewsBy (views_of_an_attempt * (7 - length (up_in l.world))) l.fn.world l.world;
}
