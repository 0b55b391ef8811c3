use Rattle.run_laws.proofs.Views.{views_law}
use Rattle.run_laws.proofs.views_are_suspected.Goals as goal

pub returns : goal.returns
returns g c = views_law
