use Rattle.controller_moves.proofs.MemberMoves.Turns.{alone_law}
use Rattle.controller_moves.proofs.member_moves.alone_goes_on.Goals as goal

pub returns : goal.returns
returns c = alone_law
