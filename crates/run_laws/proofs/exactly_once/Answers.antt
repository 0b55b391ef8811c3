use Rattle.run_laws.proofs.Laws.{once_law}
use Rattle.run_laws.proofs.exactly_once.Goals as goal

pub returns : goal.returns
returns g c = once_law
