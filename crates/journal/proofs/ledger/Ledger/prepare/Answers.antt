use Rattle.journal.specs.Pool.{past, pool}
use Rattle.journal.proofs.Pools.{Rising-pool}
use Rattle.journal.proofs.Waiters.{waiters-below}
use Rattle.journal.proofs.ledger.Ledger.prepare.Goals as goal

pub place_letters-requires : goal.place_letters-requires
place_letters-requires g c =
    let before = past c.args.self.now.entries.items in
    let kept = c.requires.kept in
    record { above = rw (kept.waits.order_is, kept.kept.next_is) (waiters-below (pool before) (Rising-pool g.B.Weight.size before kept.kept.orderly)) }
