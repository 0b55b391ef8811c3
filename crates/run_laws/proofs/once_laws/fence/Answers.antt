use Rattle.run_laws.proofs.OnceLaws.Laws.{is_fenced}
use Rattle.run_laws.proofs.once_laws.fence.Goals as goal

pub returns : goal.returns
returns g c = λ scene results entries faithful sides possible. is_fenced scene results entries faithful sides possible
