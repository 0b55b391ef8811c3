use Rattle.vr_normal.proofs.Agreed.{Best}
use Rattle.vr_normal.proofs.acks.agreed_op.Given as goal

abbrev pub invariant-loop-op : goal.invariant-loop-op
invariant-loop-op l = Best l.state l.op-index l.best
