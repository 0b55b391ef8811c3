use Rattle.std.specs.Prelude.{None}
use Rattle.std.proofs.Common.{◌≡◌}
use Rattle.journal.specs.Pool.{past}
use Rattle.run_spec.specs.Closing.{Losing}
use Rattle.world.specs.World.{Keeps}
use Rattle.closing.specs.Closing.{ClosesIn, LeadsTo, SuspectsNoMore, up_in, work_left}
use Rattle.closing.proofs.rest.lose_all.Given as goal

abbrev pub decreases-losing : goal.decreases-losing
decreases-losing g l = work_left (past l.world.journal)

abbrev pub invariant-losing : goal.invariant-losing
invariant-losing g l = record {
  keeps : Keeps g.A.App.law g.W.Stable.saving g.B.Body.sealing l.fn.world l.fn.stables l.world l.stables;
  owed : l.world.owed ≡ None;
  views : SuspectsNoMore 0 l.fn.world l.world;
  closes : LeadsTo g.A.App.law g.B.Body.sealing (ClosesIn Losing) (ClosesIn Losing) l.fn.world l.world;
  up : up_in l.world ≡ up_in l.fn.world;
}
