use Rattle.std.proofs.Common.{◌-◌, length, take, arith, ap, ◌∙◌}
use Rattle.journal.proofs.Rows.{row_changed}
use Rattle.journal.proofs.queues.Row.pop.Goals as goal

pub returns-then-index-len : goal.returns-then-index-len
returns-then-index-len c =
    let last = c.pop_back.ensures.rest ∙ ap (λ n. take (n - 1) c.index_mut.result.now.items) c.index_mut.result.now.ok.0 in
    rw (← c.self.view_is) (row_changed (λ q. q.items) (λ q. take (length q - 1) q) c.self.inside.queues.items c.args.number c.index_mut.result.now c.pop_back.new.self (omega (arith, c.self.inside.queues.ok.0)) c.index_mut.ensures.value last)
