use Rattle.closing_laws.proofs.Start.Steps as steps
use Rattle.closing_laws.proofs.suspicion_enters.Goals as goal

pub returns : goal.returns
returns c = λ n w j s m group. steps.enters n w j s m group
