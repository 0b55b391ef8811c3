use Rattle.run_laws.proofs.Laws.{lasting_law}
use Rattle.run_laws.proofs.lasting.Goals as goal

pub returns : goal.returns
returns g c = lasting_law
