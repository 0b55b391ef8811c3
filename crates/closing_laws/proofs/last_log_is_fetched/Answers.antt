use Rattle.closing_laws.proofs.last_log_is_fetched.Goals as goal
use Rattle.closing_laws.proofs.Start.Steps as steps

pub returns : goal.returns
returns c = λ n w s voters logs last_log m small other new last best found far. steps.fetches n w s voters logs last_log m small other new last best found far
