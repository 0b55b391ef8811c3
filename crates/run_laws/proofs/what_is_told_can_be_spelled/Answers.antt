use Rattle.run_laws.proofs.Told.{told_law}
use Rattle.run_laws.proofs.what_is_told_can_be_spelled.Goals as goal

pub returns : goal.returns
returns g c = told_law
