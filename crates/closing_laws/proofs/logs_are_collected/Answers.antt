use Rattle.closing_laws.proofs.logs_are_collected.Goals as goal
use Rattle.closing_laws.proofs.Start.Steps as steps

pub returns : goal.returns
returns c = λ n w s voters logs log m small other new few. steps.collected n w s voters logs log m small other new few
