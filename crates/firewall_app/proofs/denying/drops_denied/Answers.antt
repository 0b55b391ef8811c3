use Rattle.firewall_app.proofs.Denied.{row_meets}
use Rattle.firewall_app.proofs.denying.drops_denied.Goals as goal

pub returns : goal.returns
returns c = row_meets
