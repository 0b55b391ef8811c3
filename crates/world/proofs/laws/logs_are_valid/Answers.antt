use Rattle.run_laws.proofs.Laws.{valid_law}
use Rattle.world.proofs.laws.logs_are_valid.Goals as goal

pub returns : goal.returns
returns g c = λ kinds h. valid_law _ _ _ h.run.setup g.met.B.Body.faithful h.run.legal.possible
