use Rattle.std.proofs.Common.{◌≡◌, ◌<◌, ◌+◌, length, ap, sym, ◌∙◌, refl, arith}
use Rattle.std.proofs.lemmas.List.{length-drop}
use Rattle.journal.proofs.Lists.{dropped_at}
use Rattle.journal.proofs.outgoing.Coming.size.Goals as goal

pub overflow_add-self-inside : goal.overflow_add-self-inside
overflow_add-self-inside g c =
    let c' = c.self.inside in
    omega (arith, c.requires, c.self.invariant.0, c.self.invariant.1, ap length c.self.view_is, length-drop c'.first c'.letters.now)

pub returns : goal.returns
returns g c =
    let bag = c.self.inside in
    rw (← c.self.view_is, dropped_at bag.first c.args.index (bag.first + c.args.index) bag.letters.now refl) c.size.ensures
