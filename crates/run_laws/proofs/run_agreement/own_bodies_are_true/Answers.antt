use Rattle.run_laws.proofs.RunAgreement.Reading.{own_law}
use Rattle.run_laws.proofs.run_agreement.own_bodies_are_true.Goals as goal

pub returns : goal.returns
returns c = own_law
