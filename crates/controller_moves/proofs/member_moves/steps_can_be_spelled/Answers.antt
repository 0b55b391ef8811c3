use Rattle.controller_moves.proofs.MemberMoves.Spelling.{spelling_law}
use Rattle.controller_moves.proofs.member_moves.steps_can_be_spelled.Goals as goal

pub returns : goal.returns
returns c = spelling_law
