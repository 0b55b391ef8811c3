use Rattle.std.proofs.Common.{rules, ap, ◌∙◌, ◌∷◌, sym, subst, Some}
use mathlib.Core.Option.{none}
use Rattle.atomic_table.specs.Table.{step, rest}
use lib.ListN.{get_elem?}
use Rattle.shared_wire.specs.Rule.{IsTrueOf}
use Rattle.shared_wire.proofs.Lists.{one_value}
use Rattle.shared_wire.proofs.Steps.{takes_wire}
use Rattle.shared_wire.proofs.hold.take_wire.Goals as goal

pub compare_exchange-requires : goal.compare_exchange-requires
compare_exchange-requires g c =
    let free = c.requires.free in (
      search rules,
      search rules,
      takes_wire c.args.table.now.key.items _ _ _ free.0 (step 0 0 0 0 none) (ap (λ m. m.0.known) c.loop.invariant.me ∙ free.1.0),
    )

pub exchange-requires : goal.exchange-requires
exchange-requires g c =
    let took = c.compare_exchange.ensures.2.0 c.if-compare_exchange-eq0.true in
    let now = ap (λ m. m.1) took.1 in
    (search rules, (Some took.0, now ∙ ap (λ l. (0, Some took.0) ∷ l) (sym (ap rest now))))

pub returns-in-Some-exchange-clause-known : goal.returns-in-Some-exchange-clause-known
returns-in-Some-exchange-clause-known g c = λ k free.
    let took = c.compare_exchange.ensures.2.0 c.if-compare_exchange-eq0.true in
    let is = one_value _ took.0 c.in-Some-exchange.wire _ _ _ (ap (λ m. m.1) took.1) c.exchange.ensures.2 c.in-Some-exchange.is in
    let here = ap (λ m. get_elem? m.0.known 0) c.loop.invariant.me ∙ ap (λ l. get_elem? l 0) free.0 in
    subst (λ j. IsTrueOf j k) is (took.2 0 k here)
