use Rattle.run_laws.proofs.Laws.{lasting_law}
use Rattle.world.proofs.laws.lasting.Goals as goal

pub returns : goal.returns
returns g c = λ kinds h. lasting_law _ _ _ h.run.setup g.met.B.Body.faithful h.run.legal.possible
