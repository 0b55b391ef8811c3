use Rattle.closing_laws.proofs.alone_starts.Goals as goal
use Rattle.closing_laws.proofs.Start.Steps as steps

pub returns : goal.returns
returns c = λ w s m. steps.alone w s m
