use Rattle.std.proofs.Common.{◌≡◌, ◌<◌, ℕ, List, length, refl, ap, arith, subst}
use Rattle.std.specs.Prelude.{IfSome}
use Rattle.std.proofs.lemmas.List.{length-map}
use Rattle.std.proofs.lemmas.Option.{slice_get_read}
use Rattle.journal.specs.declared.packed.Stored.TheVariants.{Own}
use Rattle.journal.specs.Mailbags.{letter_of}
use Rattle.journal.proofs.Packing.{taken_body, taken_left, taken_none, taken_within}
use Rattle.journal.proofs.packed.Packed.take_own.Goals as goal

pub invariant_of-self : goal.invariant_of-self
invariant_of-self c =
    let bytes = c.self.inside.bytes in
    let slips = c.self.inside.slips.items in
    let slip = c.index_mut.result.now in
    let within : c.args.index < length slips = omega (arith, c.requires, ap length c.self.view_is, length-map slips (letter_of bytes)) in
    let here = slice_get_read slips (length slips) c.args.index slip refl within c.index_mut.ensures.value in
    let left = subst (λ (other : List ℕ). IfSome c.take_own.result (λ _. c.take_own.new.self ≡ record { to = slip.to; body = Own other })) c.new-none.ensures c.take_own.ensures.left in
    taken_within bytes slips c.args.index slip c.take_own.new.self here (length bytes) c.take_own.result c.self.invariant left c.take_own.ensures.none

pub returns-clause-body : goal.returns-clause-body
returns-clause-body c =
    let bytes = c.self.inside.bytes in
    let slips = c.self.inside.slips.items in
    let slip = c.index_mut.result.now in
    let within : c.args.index < length slips = omega (arith, c.requires, ap length c.self.view_is, length-map slips (letter_of bytes)) in
    let here = slice_get_read slips (length slips) c.args.index slip refl within c.index_mut.ensures.value in
    rw (← c.self.view_is) (taken_body bytes slips c.args.index slip c.take_own.new.self here c.take_own.result c.take_own.ensures.own)

pub returns-clause-left : goal.returns-clause-left
returns-clause-left c =
    let bytes = c.self.inside.bytes in
    let slips = c.self.inside.slips.items in
    let slip = c.index_mut.result.now in
    let within : c.args.index < length slips = omega (arith, c.requires, ap length c.self.view_is, length-map slips (letter_of bytes)) in
    let here = slice_get_read slips (length slips) c.args.index slip refl within c.index_mut.ensures.value in
    let left = subst (λ (other : List ℕ). IfSome c.take_own.result (λ _. c.take_own.new.self ≡ record { to = slip.to; body = Own other })) c.new-none.ensures c.take_own.ensures.left in
    rw (← c.self.view_is) (taken_left bytes slips c.args.index slip c.take_own.new.self here c.take_own.result left)

pub returns-clause-none : goal.returns-clause-none
returns-clause-none c =
    let bytes = c.self.inside.bytes in
    let slips = c.self.inside.slips.items in
    let slip = c.index_mut.result.now in
    let within : c.args.index < length slips = omega (arith, c.requires, ap length c.self.view_is, length-map slips (letter_of bytes)) in
    let here = slice_get_read slips (length slips) c.args.index slip refl within c.index_mut.ensures.value in
    rw (← c.self.view_is) (taken_none bytes slips c.args.index slip c.take_own.new.self here c.take_own.result c.take_own.ensures.none)
