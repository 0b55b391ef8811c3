use Rattle.agreement.proofs.Leading.{lead_law}
use Rattle.agreement.proofs.primaries_lead.Goals as goal

pub returns : goal.returns
returns g c = lead_law
