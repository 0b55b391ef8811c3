use Rattle.closing_laws.proofs.closings_meet_limits.Goals as goal
use Rattle.closing_laws.proofs.Ends.Limits.{limits_law}

pub returns : goal.returns
returns g c = limits_law
