use Rattle.controller_moves.proofs.controller_laws.settled_are_finished.Goals as goal
use Rattle.controller_moves.proofs.ControllerLaws.Finished.{settled_finished}

pub returns : goal.returns
returns c = λ kinds setup s kept ready. settled_finished kinds setup s kept ready
