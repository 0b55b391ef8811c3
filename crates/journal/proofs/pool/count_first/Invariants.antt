use Rattle.journal.proofs.Fitting.{FitsSoFar}
use Rattle.journal.proofs.pool.count_first.Given as goal

abbrev pub invariant-loop-count : goal.invariant-loop-count
invariant-loop-count g l = FitsSoFar g.B.Weight.size l.fn.waiting l.letters l.sums l.count
