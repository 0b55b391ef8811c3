use Rattle.run_laws.proofs.Laws.{sides_law}
use Rattle.run_laws.proofs.controllers_keep_their_side.Goals as goal

pub returns : goal.returns
returns g c = sides_law
