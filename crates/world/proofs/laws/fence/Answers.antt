use Rattle.run_laws.proofs.Laws.{fence_law}
use Rattle.world.proofs.laws.fence.Goals as goal

pub returns : goal.returns
returns g c = λ kinds h. fence_law _ _ _ h.run.setup g.met.B.Body.faithful h.run.legal.possible
