use Rattle.controller_moves.proofs.controller_laws.letters_tell.Goals as goal
use Rattle.controller_moves.proofs.ControllerLaws.Letters.{says_told}

pub returns : goal.returns
returns c = λ kinds setup x s l said. says_told kinds setup x s l said
