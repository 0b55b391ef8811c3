use Rattle.closing_laws.proofs.members_are_a_quorum.Goals as goal
use Rattle.closing_laws.proofs.Start.Pasts.{quorum_law}

pub returns : goal.returns
returns g c = quorum_law
