use Rattle.run_laws.proofs.OnceLaws.Executed.{holds_always}
use Rattle.run_laws.proofs.once_laws.invariant.Goals as goal

pub returns : goal.returns
returns g c = λ scene results entries faithful sides possible. holds_always scene results faithful sides entries possible
