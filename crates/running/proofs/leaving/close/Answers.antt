use Rattle.std.proofs.Common.{subst}
use Rattle.journal.specs.Orderly.{IsOrderly}
use Rattle.journal.specs.Pool.{past}
use Rattle.journal.specs.Turns.{IsWithinLimits}
use Rattle.running.proofs.leaving.close.Goals as goal

pub returns-clause-orderly : goal.returns-clause-orderly
returns-clause-orderly g c = subst (λ z. IsOrderly z (past c.close.result)) g.met.B.Body.weighed c.close.ensures.orderly

pub returns-clause-within : goal.returns-clause-within
returns-clause-within g c = subst (λ z. IsWithinLimits z (past c.close.result)) g.met.B.Body.weighed c.close.ensures.within
