use Rattle.controller_moves.proofs.controller_laws.commits_come_from.Goals as goal
use Rattle.controller_moves.proofs.ControllerLaws.CommitNumbers.{commits_from}

pub returns : goal.returns
returns c = λ kinds setup x s w kept chain. commits_from kinds setup x s w kept chain
