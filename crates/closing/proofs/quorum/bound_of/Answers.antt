use Rattle.world.specs.World.{scene_in}
use Rattle.closing.proofs.Worlds.{bounded, member_of}
use Rattle.closing.proofs.quorum.bound_of.Goals as goal

pub bound_with-bound-requires-clause-controls : goal.bound_with-bound-requires-clause-controls
bound_with-bound-requires-clause-controls g c =
    let holds = c.requires.holds.1 in
    let sealing = g.B.Body.sealing in (
      c.requires.holds.0,
      (member_of g.A.App.law (scene_in sealing c.args.world.now c.requires.holds.0) c.args.world.now holds.run c.bounding.number c.controller-controller.result.now c.controller-controller.ensures).0,
    )

pub bounding-preserved : goal.bounding-preserved
bounding-preserved g c =
    bounded c.bounding.bound c.bound_with-bound.result c.bounding.number c.args.world.now.controllers c.controller-controller.result.now c.controller-controller.ensures c.bound_with-bound.ensures c.bounding.invariant
