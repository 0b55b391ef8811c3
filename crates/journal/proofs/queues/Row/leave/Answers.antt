use Rattle.std.proofs.Common.{arith}
use Rattle.journal.specs.Places.{left_in}
use Rattle.journal.proofs.Rows.{row_changed}
use Rattle.journal.proofs.queues.Row.leave.Goals as goal

pub returns-then-index-len : goal.returns-then-index-len
returns-then-index-len c = rw (← c.self.view_is) (row_changed (λ q. q.items) (left_in c.args.choice) c.self.inside.queues.items c.args.number c.index_mut.result.now c.leave.new.queue (omega (arith, c.self.inside.queues.ok.0)) c.index_mut.ensures.value c.leave.ensures)
