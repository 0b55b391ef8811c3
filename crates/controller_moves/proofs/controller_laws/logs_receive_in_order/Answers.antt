use Rattle.controller_moves.proofs.controller_laws.logs_receive_in_order.Goals as goal
use Rattle.controller_moves.proofs.ControllerLaws.Logs.{received_in_order}

pub returns : goal.returns
returns c = received_in_order
