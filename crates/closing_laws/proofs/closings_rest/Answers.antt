use Rattle.closing_laws.proofs.closings_rest.Goals as goal
use Rattle.closing_laws.proofs.Ends.Rested.{rest_law}

pub returns : goal.returns
returns g c = rest_law
