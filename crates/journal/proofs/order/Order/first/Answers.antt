use Rattle.std.proofs.Common.{sym, ap, ◌∙◌, ◌≤◌, refl, length, arith}
use Rattle.std.proofs.lemmas.Option.{slice_get_past, slice_get_read}
use Rattle.std.specs.Prelude.{option_map, slice_get}
use Rattle.journal.proofs.Slots.{lowest_none, lowest_receiver}
use Rattle.journal.proofs.order.Order.first.Goals as goal

pub returns-in-Some : goal.returns-in-Some
returns-in-Some c =
    let found = slice_get_read c.deref.result.now (length c.deref.result.now) c.self.inside.lowest c.in-Some.receiver.now refl c.in-Some.ensures.lookup.3.0 c.in-Some.ensures.lookup.1 in
    lowest_receiver 0 c.self.inside.lowest c.in-Some.receiver.now c.self.inside.slots.items c.self.invariant (ap (λ xs. slice_get xs c.self.inside.lowest) (sym c.deref.ensures.value) ∙ found)
    ∙ ap (λ ws. option_map (λ w. w.1) (slice_get ws 0)) c.self.view_is

pub returns-in-None : goal.returns-in-None
returns-in-None c =
    let past : length c.self.inside.slots.items ≤ c.self.inside.lowest = omega (arith, ap length c.deref.ensures.value, c.in-None.ensures.lookup.3) in
    sym (lowest_none 0 c.self.inside.lowest c.self.inside.slots.items c.self.invariant (slice_get_past c.self.inside.slots.items c.self.inside.lowest past))
    ∙ ap (λ ws. option_map (λ w. w.1) (slice_get ws 0)) c.self.view_is
