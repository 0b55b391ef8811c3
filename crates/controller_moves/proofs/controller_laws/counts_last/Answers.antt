use Rattle.controller_moves.proofs.controller_laws.counts_last.Goals as goal
use Rattle.controller_moves.proofs.ControllerLaws.Logs.{counts}

pub returns : goal.returns
returns c = counts
