use Rattle.run_laws.proofs.RunAgreement.Groups.{odd_law}
use Rattle.run_laws.proofs.run_agreement.setups_are_odd.Goals as goal

pub returns : goal.returns
returns c = odd_law
