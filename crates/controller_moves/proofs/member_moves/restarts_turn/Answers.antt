use Rattle.controller_moves.proofs.MemberMoves.Turns.{restarts_law}
use Rattle.controller_moves.proofs.member_moves.restarts_turn.Goals as goal

pub returns : goal.returns
returns c = restarts_law
