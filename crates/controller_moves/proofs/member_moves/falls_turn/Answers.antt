use Rattle.controller_moves.proofs.MemberMoves.Turns.{falls_law}
use Rattle.controller_moves.proofs.member_moves.falls_turn.Goals as goal

pub returns : goal.returns
returns c = falls_law
