use Rattle.agreement.proofs.Dropping.{dropped_law}
use Rattle.agreement.proofs.nothing_is_dropped.Goals as goal

pub returns : goal.returns
returns g c = dropped_law
