use Rattle.agreement.proofs.Leading.{later_law}
use Rattle.agreement.proofs.later_logs_begin.Goals as goal

pub returns : goal.returns
returns g c = later_law
