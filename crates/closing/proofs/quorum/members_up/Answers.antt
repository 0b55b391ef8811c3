use Rattle.std.proofs.Common.{◌∙◌}
use Rattle.world.specs.World.{scene_in}
use Rattle.closing.proofs.Worlds.{counted, knows_itself, member_of}
use Rattle.closing.proofs.quorum.members_up.Goals as goal

pub push_member-requires : goal.push_member-requires
push_member-requires g c =
    let holds = c.requires.1 in
    let sealing = g.B.Body.sealing in
    let m = member_of g.A.App.law (scene_in sealing c.args.world.now c.requires.0) c.args.world.now holds.run c.counting.number c.controller.result.now c.controller.ensures in
    (knows_itself g.A.App.law c.controller.result.now c.requires.0 m.0).me ∙ m.1

pub counting-preserved : goal.counting-preserved
counting-preserved g c =
    counted c.counting.up.items c.push_member.new.up.items c.counting.number c.args.world.now.controllers c.controller.result.now c.controller.ensures c.in_ok-push_member.ensures c.counting.invariant
