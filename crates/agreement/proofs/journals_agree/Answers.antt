use Rattle.agreement.proofs.Agreeing.{journals_law}
use Rattle.agreement.proofs.journals_agree.Goals as goal

pub returns : goal.returns
returns g c = journals_law
