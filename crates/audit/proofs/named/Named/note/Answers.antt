use Rattle.std.proofs.Common.{◌≡◌, ap, sym, ◌∙◌}
use Rattle.audit.specs.Names.{Name, same_name, value_of, or_new}
use Rattle.audit.proofs.Naming.{noted_is}
use Rattle.audit.proofs.named.Named.note.Goals.{in-Some-1, in-None-1}
use Rattle.audit.proofs.named.Named.note.Goals as goal

pub returns-in_ok-insert : goal.returns-in_ok-insert
returns-in_ok-insert g c =
    let put = noted_is c.self.inside.values.entries c.insert.new.self.entries c.args.name c.args.value (sym c.contains_key.ensures ∙ c.if-not-contains_key.true) c.in_ok-insert.ensures.updates.0 in
    let at : (q : Name) → value_of c.insert.new.self.entries q ≡ or_new (value_of c.args.self.now q) (same_name c.args.name q) c.args.value =
    λ q. put q ∙ ap (λ l. or_new (value_of l q) (same_name c.args.name q) c.args.value) c.self.view_is in
    elim c.match-branch-2.branch [
      | in-Some-1 w ↦ λ q. ap (λ l. value_of l q) w.self-is ∙ at q
      | in-None-1 w ↦ λ q. ap (λ l. value_of l q) w.self-is ∙ at q
    ]
