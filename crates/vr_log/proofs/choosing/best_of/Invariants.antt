use Rattle.std.proofs.Common.{◌≡◌, drop}
use Rattle.vr_log.specs.Choosing.{best_of}
use Rattle.vr_log.proofs.choosing.best_of.Given as goal

abbrev pub invariant-loop-log : goal.invariant-loop-log
invariant-loop-log l = best_of l.best (drop l.log-index l.rest) ≡ best_of l.first l.rest
