use Rattle.closing_laws.proofs.last_log_starts.Goals as goal
use Rattle.closing_laws.proofs.Start.Steps as steps

pub returns : goal.returns
returns c = λ n w s voters logs last_log m small other new last best found near log is sound. steps.starts n w s voters logs last_log m small other new last best found near log is sound
