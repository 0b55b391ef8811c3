use Rattle.std.proofs.Common.{sym, ap, ◌∙◌, arith}
use Rattle.journal.specs.Order.{without_packet}
use Rattle.journal.proofs.Slots.{awaited-set, clear_of, clear_set, without_packet-outside}
use Rattle.journal.proofs.order.Order.remove.Goals as goal

pub lowest_from-self-inside-requires : goal.lowest_from-self-inside-requires
lowest_from-self-inside-requires c =
    rw c.as_slice.ensures.value (clear_set c.self.inside.lowest c.args.number c.self.inside.slots.items (clear_of c.self.inside.lowest c.self.inside.slots.items c.self.invariant))

pub returns-then-index-len : goal.returns-then-index-len
returns-then-index-len c =
    awaited-set 0 c.args.number c.args.number c.self.inside.slots.items (omega arith) (omega (arith, c.if-index-len.true, c.len.ensures, c.self.inside.slots.ok.0))
    ∙ ap (without_packet c.args.number) c.self.view_is

pub returns-else-index-len : goal.returns-else-index-len
returns-else-index-len c =
    rw (← c.self.view_is) (sym (without_packet-outside 0 c.args.number c.self.inside.slots.items
    (λ k within is. omega (arith, within, is, c.if-index-len.false, c.len.ensures, c.self.inside.slots.ok.0))))
