use Rattle.run_laws.proofs.Laws.{fence_law}
use Rattle.run_laws.proofs.fence.Goals as goal

pub returns : goal.returns
returns g c = fence_law
