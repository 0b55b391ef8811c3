use Rattle.world.proofs.Folded.{run_versions}
use Rattle.world.proofs.laws.versions_are_one.Goals as goal

pub returns : goal.returns
returns g c = run_versions _ _ _
