use Rattle.std.specs.Prelude.{None}
use Rattle.std.proofs.Common.{◌≡◌}
use Rattle.journal.specs.Pool.{past}
use Rattle.world.specs.World.{Keeps}
use Rattle.closing.specs.Closing.{Drains, LeadsTo, SuspectsNoMore, up_in, work_left}
use Rattle.closing.proofs.rest.drain.Given as goal

abbrev pub decreases-draining : goal.decreases-draining
decreases-draining g l = work_left (past l.world.journal)

abbrev pub invariant-draining : goal.invariant-draining
invariant-draining g l = record {
  keeps : Keeps g.A.App.law g.W.Stable.saving g.B.Body.sealing l.fn.world l.fn.stables l.world l.stables;
  owed : l.world.owed ≡ None;
  views : SuspectsNoMore 0 l.fn.world l.world;
  drains : LeadsTo g.A.App.law g.B.Body.sealing
      (Drains l.fn.view l.fn.quorum) (Drains l.fn.view l.fn.quorum) l.fn.world l.world;
  up : up_in l.world ≡ up_in l.fn.world;
}
