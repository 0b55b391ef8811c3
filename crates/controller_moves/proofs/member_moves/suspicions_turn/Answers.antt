use Rattle.controller_moves.proofs.MemberMoves.Turns.{suspicions_law}
use Rattle.controller_moves.proofs.member_moves.suspicions_turn.Goals as goal

pub returns : goal.returns
returns c = suspicions_law
