use Rattle.std.proofs.Common.{subst}
use Rattle.journal.specs.Orderly.{IsOrderly}
use Rattle.journal.specs.Pool.{past}
use Rattle.journal.specs.Turns.{IsWithinLimits}
use Rattle.world.proofs.world.World.lawful.Goals as goal

pub returns-clause-orderly : goal.returns-clause-orderly
returns-clause-orderly g c =
    subst (λ v. IsOrderly g.B.Body.sealing.size (past v.journal)) c.self.view_is (subst (λ z. IsOrderly z (past c.self.inside.wire)) g.met.B.Body.weighed c.lawful.ensures.orderly)

pub returns-clause-within : goal.returns-clause-within
returns-clause-within g c =
    subst (λ v. IsWithinLimits g.B.Body.sealing.size (past v.journal)) c.self.view_is (subst (λ z. IsWithinLimits z (past c.self.inside.wire)) g.met.B.Body.weighed c.lawful.ensures.within)
