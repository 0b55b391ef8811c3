use Rattle.controller_moves.proofs.MemberMoves.Turns.{messages_law}
use Rattle.controller_moves.proofs.member_moves.messages_turn.Goals as goal

pub returns : goal.returns
returns c = messages_law
