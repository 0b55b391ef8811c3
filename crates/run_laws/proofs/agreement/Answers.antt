use Rattle.run_laws.proofs.Laws.{agreement_law}
use Rattle.run_laws.proofs.agreement.Goals as goal

pub returns : goal.returns
returns g c = agreement_law
