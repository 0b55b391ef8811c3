use Rattle.run_laws.proofs.FirstLives.{first_law}
use Rattle.run_laws.proofs.unrestarted_is_first.Goals as goal

pub returns : goal.returns
returns g c = first_law
