use Rattle.run_laws.proofs.RunAgreement.Lasting.{lasting_law}
use Rattle.run_laws.proofs.run_agreement.decided_lasts.Goals as goal

pub returns : goal.returns
returns g c = lasting_law
