use Rattle.flow_table.proofs.Modified.{one_more}
use Rattle.flow_table.proofs.changes.copies_of.Goals as goal

pub loop-preserved : goal.loop-preserved
loop-preserved c = rw (c.in_ok-push.ensures.items, c.in_ok-copy_actions.ensures, c.loop.invariant) (one_more c.loop.counter c.args.change.now.actions)
