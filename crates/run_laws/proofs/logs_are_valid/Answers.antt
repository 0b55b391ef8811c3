use Rattle.run_laws.proofs.Laws.{valid_law}
use Rattle.run_laws.proofs.logs_are_valid.Goals as goal

pub returns : goal.returns
returns g c = valid_law
