use Rattle.world.proofs.Folded.{have_folded}
use Rattle.world.proofs.laws.folds.Goals as goal

pub returns : goal.returns
returns g c = have_folded _ _ _
