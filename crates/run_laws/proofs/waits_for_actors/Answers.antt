use Rattle.run_laws.proofs.Laws.{waits_law}
use Rattle.run_laws.proofs.waits_for_actors.Goals as goal

pub returns : goal.returns
returns g c = waits_law
