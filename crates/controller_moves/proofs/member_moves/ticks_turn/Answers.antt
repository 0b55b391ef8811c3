use Rattle.controller_moves.proofs.MemberMoves.Turns.{ticks_law}
use Rattle.controller_moves.proofs.member_moves.ticks_turn.Goals as goal

pub returns : goal.returns
returns c = ticks_law
