use Rattle.controller_moves.proofs.controller_laws.chains_reach.Goals as goal
use Rattle.controller_moves.proofs.ControllerLaws.Reached.{chain_reaches}

pub returns : goal.returns
returns c = λ kinds setup x s w kept chain. chain_reaches kinds setup x s kept w chain
