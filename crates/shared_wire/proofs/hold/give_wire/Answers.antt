use Rattle.std.proofs.Common.{rules, ap, ◌∙◌, ◌∷◌, Some}
use mathlib.Core.Option.{none}
use Rattle.atomic_table.specs.Table.{step, rest}
use Rattle.shared_wire.proofs.Steps.{gives_wire}
use Rattle.shared_wire.proofs.hold.give_wire.Goals as goal

pub store-requires : goal.store-requires
store-requires g c =
    let r = c.requires.grown in
    let now = c.exchange.ensures.3 in (
      search rules,
      search rules,
      gives_wire c.args.table.now.key.items _ _ _ r.about (step 0 0 0 0 none) r.taken c.args.wire r.entries (ap (λ m. m.0.known) now ∙ r.knows) (ap (λ m. m.0.held) now ∙ r.holds)
          (ap (λ m. m.1) now ∙ ap (λ l. (0, Some c.args.wire) ∷ rest l) c.requires.held) r.joined r.named,
    )
