use Rattle.controller_moves.proofs.Following.{follow_law}
use Rattle.controller_moves.proofs.controllers_follow.Goals as goal

pub returns : goal.returns
returns c = follow_law
