use Rattle.app_core.proofs.Singly.{single_law}
use Rattle.app_core.proofs.issued.issued_is_single.Goals as goal

pub returns : goal.returns
returns c = single_law
