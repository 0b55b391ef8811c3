use Rattle.run_laws.proofs.RunAgreement.Agreeing.{kept_law}
use Rattle.run_laws.proofs.run_agreement.kept_logs_agree.Goals as goal

pub returns : goal.returns
returns g c = kept_law
