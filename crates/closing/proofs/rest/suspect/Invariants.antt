use Rattle.std.specs.Prelude.{None}
use Rattle.std.proofs.Common.{◌≡◌, drop}
use Rattle.world.specs.World.{Keeps}
use Rattle.closing.specs.Closing.{LeadsTo, Suspects, SuspectsNoMore, up_in}
use Rattle.closing.proofs.rest.suspect.Given as goal

abbrev pub invariant-suspecting : goal.invariant-suspecting
invariant-suspecting g l = record {
  keeps : Keeps g.A.App.law g.W.Stable.saving g.B.Body.sealing l.fn.world l.fn.stables l.world l.stables;
  owed : l.world.owed ≡ None;
  views : SuspectsNoMore l.fn.view l.fn.world l.world;
  suspects : LeadsTo g.A.App.law g.B.Body.sealing
      (Suspects l.fn.view l.fn.quorum l.fn.quorum) (Suspects l.fn.view l.fn.quorum (drop l.number-index l.fn.quorum)) l.fn.world l.world;
  up : up_in l.world ≡ up_in l.fn.world;
}
