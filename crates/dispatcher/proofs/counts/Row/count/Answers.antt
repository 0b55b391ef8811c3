use Rattle.std.proofs.Common.{◌≡◌, length, ap, ◌∙◌, arith}
use Rattle.dispatcher.specs.declared.counts.Counts.{Counts}
use Rattle.dispatcher.specs.Counted.{counts_in}
use Rattle.dispatcher.specs.Ledger.{tally_of}
use Rattle.dispatcher.proofs.Counting.{counts_found, counts_nowhere, counts_put, counts_pushed}
use Rattle.dispatcher.proofs.counts.Row.count.Goals as goal

pub returns-then-place-len-clause-before : goal.returns-then-place-len-clause-before
returns-then-place-len-clause-before c =
    let is : c.index.result.now.counts ≡ counts_in c.args.self.now c.args.life =
    rw (← c.self.view_is)
    (counts_found c.self.inside.lives.items c.args.life c.place_of-place.result c.index.result.now (rw c.self.view_is c.place_of-place.ensures) (omega arith) c.index.ensures) in
    c.count_one-before.ensures.before ∙ ap (λ (x : Counts). tally_of c.args.progress x) is

pub returns-then-place-len-clause-counted : goal.returns-then-place-len-clause-counted
returns-then-place-len-clause-counted c = λ l.
    let is : c.index.result.now.counts ≡ counts_in c.args.self.now c.args.life =
    rw (← c.self.view_is)
    (counts_found c.self.inside.lives.items c.args.life c.place_of-place.result c.index.result.now (rw c.self.view_is c.place_of-place.ensures) (omega arith) c.index.ensures) in
    rw (← is, ← c.count_one-before.ensures.after, ← c.self.view_is)
    (counts_put c.self.inside.lives.items c.args.life c.place_of-place.result c.count_one-before.result.1 (rw c.self.view_is c.place_of-place.ensures) (omega arith) l)

pub returns-in_ok-add-clause-before : goal.returns-in_ok-add-clause-before
returns-in_ok-add-clause-before c =
    c.count_one-before-else-place-len.ensures.before
    ∙ ap (λ (x : Counts). tally_of c.args.progress x) (counts_nowhere c.args.self.now c.args.life (omega (arith, c.place_of-place.ensures, ap length c.self.view_is)))

pub returns-in_ok-add-clause-counted : goal.returns-in_ok-add-clause-counted
returns-in_ok-add-clause-counted c = λ l.
    let is = counts_nowhere c.args.self.now c.args.life (omega (arith, c.place_of-place.ensures, ap length c.self.view_is)) in
    rw (← is, ← c.count_one-before-else-place-len.ensures.after, c.in_ok-add.ensures, ← c.self.view_is)
    (counts_pushed c.self.inside.lives.items c.args.life c.place_of-place.result c.count_one-before-else-place-len.result.1 (rw c.self.view_is c.place_of-place.ensures) (omega arith) l)
