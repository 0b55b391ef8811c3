use Rattle.agreement.proofs.Backing.{backed_law}
use Rattle.agreement.proofs.primaries_are_backed.Goals as goal

pub returns : goal.returns
returns g c = backed_law
