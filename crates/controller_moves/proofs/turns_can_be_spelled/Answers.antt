use Rattle.controller_moves.proofs.Spelling.{spelling_law}
use Rattle.controller_moves.proofs.turns_can_be_spelled.Goals as goal

pub returns : goal.returns
returns c = spelling_law
