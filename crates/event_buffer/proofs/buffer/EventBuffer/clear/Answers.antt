use Rattle.std.proofs.Common.{◌-◌, length, length-drop, ap, arith}
use Rattle.event_buffer.specs.Buffer.{Held}
use Rattle.event_buffer.proofs.Counts.{newest-dropped, numbered-left}
use Rattle.event_buffer.proofs.buffer.EventBuffer.clear.Goals as goal

pub invariant_of-self : goal.invariant_of-self
invariant_of-self c =
    let events = c.self.inside.events.items in
    let inv = c.self.invariant in
    let gone = c.len.result - c.count.result in
    let count = ap (λ (h : Held). h.count) c.clear-count.ensures.after in
    rw (c.drop_front.ensures.rest, newest-dropped c.clear-count.new.self.count gone events (omega (arith, inv.2, count)), length-drop, c.clear-count.ensures.after) (
      numbered-left c.self.inside.held c.args.through events inv.2 inv.0,
      omega (arith, inv.1, c.drop_front.ensures.room),
      omega (arith, inv.2, count),
      omega (arith, inv.2, count),
    )

pub invariant_of-self-else-gone-ge-MOST_GONE : goal.invariant_of-self-else-gone-ge-MOST_GONE
invariant_of-self-else-gone-ge-MOST_GONE c =
    let inv = c.self.invariant in
    let few = c.if-gone-ge-MOST_GONE.false in
    let count = ap (λ (h : Held). h.count) c.clear-count.ensures.after in
    rw c.clear-count.ensures.after (
      numbered-left c.self.inside.held c.args.through c.self.inside.events.items inv.2 inv.0,
      inv.1,
      omega (arith, inv.2),
      omega (arith, few, count),
    )
