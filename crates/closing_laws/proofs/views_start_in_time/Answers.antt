use Rattle.closing_laws.proofs.Start.InTime.{in_time_law}
use Rattle.closing_laws.proofs.views_start_in_time.Goals as goal

pub returns : goal.returns
returns g c = in_time_law
