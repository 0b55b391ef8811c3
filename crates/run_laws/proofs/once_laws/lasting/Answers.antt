use Rattle.run_laws.proofs.OnceLaws.Laws.{is_lasting}
use Rattle.run_laws.proofs.once_laws.lasting.Goals as goal

pub returns : goal.returns
returns g c = λ scene results entries faithful sides possible. is_lasting scene results entries faithful sides possible
