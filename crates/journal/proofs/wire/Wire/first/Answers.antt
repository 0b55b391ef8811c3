use Rattle.journal.specs.Pool.{past, pool}
use Rattle.journal.proofs.Firsts.{first_found}
use Rattle.journal.proofs.wire.Wire.first.Goals as goal

pub returns : goal.returns
returns g c =
    let ledger = c.self.inside.ledger in
    let waits = c.self.invariant.waits in
    rw (← c.self.view_is, c.first.ensures) (first_found ledger.entries.items ledger.queues (pool (past ledger.entries.items)) waits.order_is waits.queues_are)
