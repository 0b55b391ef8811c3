use Rattle.closing_laws.proofs.one_log_is_best.Goals as goal
use Rattle.closing_laws.proofs.Start.BestLogs.{has_best}

pub returns : goal.returns
returns c = λ quorum start some. has_best start quorum some
