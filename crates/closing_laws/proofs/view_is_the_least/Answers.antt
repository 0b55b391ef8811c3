use Rattle.closing_laws.proofs.Start.Pasts.{view_law}
use Rattle.closing_laws.proofs.view_is_the_least.Goals as goal

pub returns : goal.returns
returns g c = view_law
