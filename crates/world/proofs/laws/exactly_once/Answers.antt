use Rattle.run_laws.proofs.Laws.{once_law}
use Rattle.world.proofs.laws.exactly_once.Goals as goal

pub returns : goal.returns
returns g c = λ kinds h. once_law _ _ _ h.run.setup g.met.B.Body.faithful h.run.legal.possible
