use Rattle.std.proofs.Common.{◌+◌, arith}
use Rattle.journal.proofs.Slots.{clear_next, lowest_at, slot_empty, slot_full, slot_past}
use Rattle.journal.proofs.order.lowest_from.Goals as goal

pub loop-lowest-preserved : goal.loop-lowest-preserved
loop-lowest-preserved c =
    let empty = slot_empty c.loop-lowest.lowest c.args.slots.now c.loop-lowest-test.true c.if-is_none.ensures in
    clear_next c.loop-lowest.lowest (c.loop-lowest.lowest + 1) c.args.slots.now (omega arith) c.loop-lowest.invariant empty

pub returns-else-is_none : goal.returns-else-is_none
returns-else-is_none c =
    lowest_at c.loop-lowest.lowest c.args.slots.now c.loop-lowest.invariant (slot_full c.loop-lowest.lowest c.args.slots.now c.if-is_none.ensures)

pub returns-after-loop-lowest : goal.returns-after-loop-lowest
returns-after-loop-lowest c =
    lowest_at c.loop-lowest.lowest c.args.slots.now c.loop-lowest.invariant (slot_past c.loop-lowest.lowest c.args.slots.now c.loop-lowest-test.false)
