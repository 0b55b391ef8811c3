use Rattle.controller_moves.proofs.MemberMoves.Logs.{logs_law}
use Rattle.controller_moves.proofs.member_moves.logs_make_groups.Goals as goal

pub returns : goal.returns
returns c = logs_law
