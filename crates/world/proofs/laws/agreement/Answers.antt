use Rattle.run_laws.proofs.Laws.{agreement_law}
use Rattle.world.proofs.laws.agreement.Goals as goal

pub returns : goal.returns
returns g c = λ kinds h. agreement_law _ _ _ h.run.setup g.met.B.Body.faithful h.run.legal.possible
