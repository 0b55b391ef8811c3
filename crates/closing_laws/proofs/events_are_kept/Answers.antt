use Rattle.closing_laws.proofs.events_are_kept.Goals as goal
use Rattle.closing_laws.proofs.Truths.Kept.{kept_law}

pub returns : goal.returns
returns g c = kept_law
