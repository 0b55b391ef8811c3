use Rattle.std.proofs.Common.{ap, arith}
use Rattle.world.specs.World.{scene_in}
use Rattle.closing.specs.Views.{most_view_of_a_closing}
use Rattle.closing.proofs.Worlds.{bound_near}
use Rattle.closing.proofs.Parts.{few_members}
use Rattle.closing.proofs.quorum.closing_view.Goals as goal

pub first_view-requires-clause-room : goal.first_view-requires-clause-room
first_view-requires-clause-room g c =
    let near = bound_near most_view_of_a_closing c.args.world.now.controllers c.requires.views in
    let is = c.bound_of.ensures in
    omega (arith, near, is)

pub returns-clause-near : goal.returns-clause-near
returns-clause-near g c =
    let sealing = g.B.Body.sealing in
    λ limit views.
    let near = bound_near limit c.args.world.now.controllers views in
    let is = c.bound_of.ensures in
    let added = c.first_view.ensures.near in
    let group = few_members (scene_in sealing c.args.world.now c.requires.holds.0) c.args.world.now c.requires.holds.1.run in
    let setup = ap (λ s. s.controllers) c.setup.ensures in
    omega (arith, near, is, added, group, setup)
