use Rattle.controller_moves.proofs.MemberMoves.Turns.{proposals_law}
use Rattle.controller_moves.proofs.member_moves.proposals_turn.Goals as goal

pub returns : goal.returns
returns c = proposals_law
