use Rattle.agreement.proofs.Leading.{safe_law}
use Rattle.agreement.proofs.safe_logs_begin.Goals as goal

pub returns : goal.returns
returns g c = safe_law
