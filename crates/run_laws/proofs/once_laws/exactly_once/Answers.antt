use Rattle.run_laws.proofs.OnceLaws.Laws.{is_once}
use Rattle.run_laws.proofs.once_laws.exactly_once.Goals as goal

pub returns : goal.returns
returns g c = λ scene results entries faithful sides possible. is_once scene results entries faithful sides possible
