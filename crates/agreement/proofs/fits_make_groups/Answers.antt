use Rattle.agreement.proofs.Fitting.{groups_law}
use Rattle.agreement.proofs.fits_make_groups.Goals as goal

pub returns : goal.returns
returns g c = groups_law
