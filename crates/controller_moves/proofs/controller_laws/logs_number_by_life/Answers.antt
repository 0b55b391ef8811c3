use Rattle.controller_moves.proofs.controller_laws.logs_number_by_life.Goals as goal
use Rattle.controller_moves.proofs.ControllerLaws.Logs.{numbered_by_life}

pub returns : goal.returns
returns c = numbered_by_life
