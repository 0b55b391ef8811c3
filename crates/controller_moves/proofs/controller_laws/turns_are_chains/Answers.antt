use Rattle.controller_moves.proofs.controller_laws.turns_are_chains.Goals as goal
use Rattle.controller_moves.proofs.ControllerLaws.Reached.{turn_chain}

pub returns : goal.returns
returns c = λ kinds setup x s up. turn_chain kinds setup x s up
