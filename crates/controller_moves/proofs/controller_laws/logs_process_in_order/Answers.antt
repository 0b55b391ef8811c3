use Rattle.controller_moves.proofs.controller_laws.logs_process_in_order.Goals as goal
use Rattle.controller_moves.proofs.ControllerLaws.Logs.{in_order}

pub returns : goal.returns
returns c = in_order
