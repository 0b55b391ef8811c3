use Rattle.closing_laws.proofs.closings_find_a_quorum.Goals as goal
use Rattle.closing_laws.proofs.Ends.Quorate.{quorum_law}

pub returns : goal.returns
returns g c = quorum_law
