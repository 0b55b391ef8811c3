use Rattle.controller_moves.proofs.MemberMoves.Turns.{keeps_law}
use Rattle.controller_moves.proofs.member_moves.steps_keep_members.Goals as goal

pub returns : goal.returns
returns c = keeps_law
