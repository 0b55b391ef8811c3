use Rattle.journal.specs.Places.{queue_of}
use Rattle.journal.specs.Pool.{past, pool, waiting}
use Rattle.journal.proofs.Placing.{places_picked}
use Rattle.journal.proofs.ledger.Ledger.look.Goals as goal

pub returns : goal.returns
returns g c =
    let entries = c.args.self.now.entries.items in
    rw c.look.ensures (places_picked entries (queue_of c.args.self.now.queues c.args.actor) (waiting c.args.actor (pool (past entries))) c.args.choice (c.requires.waits.queues_are c.args.actor))
