use Rattle.journal.specs.Pool.{past, pick}
use Rattle.world.proofs.Drawing.{found_there}
use Rattle.world.proofs.world.World.draw_from.Goals as goal

pub hear-requires : goal.hear-requires
hear-requires g c = found_there c.args.self.now.journal c.args.place (pick c.args.actor c.args.choice (past c.args.self.now.journal)) c.requires
