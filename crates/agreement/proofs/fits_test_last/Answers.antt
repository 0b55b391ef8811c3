use Rattle.agreement.proofs.Fitting.{last_law}
use Rattle.agreement.proofs.fits_test_last.Goals as goal

pub returns : goal.returns
returns g c = last_law
