use Rattle.closing_laws.proofs.log_is_adopted.Goals as goal
use Rattle.closing_laws.proofs.Start.Steps as steps

pub returns : goal.returns
returns c = λ n w j s voters sent logs supply log base commit m other from up_to within one agree. steps.adopts n w j s voters sent logs supply log base commit m other from up_to within one agree
