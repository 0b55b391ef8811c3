use Rattle.controller_moves.proofs.Works.{works_law}
use Rattle.controller_moves.proofs.works_stand_on_steps.Goals as goal

pub returns : goal.returns
returns c = works_law
