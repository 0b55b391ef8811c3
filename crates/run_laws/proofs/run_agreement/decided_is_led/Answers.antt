use Rattle.run_laws.proofs.RunAgreement.Leading.{decided_law}
use Rattle.run_laws.proofs.run_agreement.decided_is_led.Goals as goal

pub returns : goal.returns
returns g c = decided_law
