use Rattle.controller_moves.proofs.controller_laws.down_rests_or_restarts.Goals as goal
use Rattle.controller_moves.proofs.ControllerLaws.Restarts.{down_rests}

pub returns : goal.returns
returns c = λ kinds setup x s off. down_rests kinds setup x s off
