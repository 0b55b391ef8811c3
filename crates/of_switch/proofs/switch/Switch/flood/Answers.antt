use Rattle.std.proofs.Common.{arith}
use Rattle.of_switch.proofs.Ports.{flood-more, flood-starts, flood-ends}
use Rattle.of_switch.proofs.switch.Switch.flood.Goals as goal

pub loop-index-preserved : goal.loop-index-preserved
loop-index-preserved c =
    flood-more c.args.self.now c.args.in_port c.args.frame.now c.args.draft.now c.loop-index.index c.loop-index.count _ c.loop-index.draft _ c.loop-index.invariant (omega arith)
    c.in_ok-count.ensures.count c.in_ok-count.ensures.letters

pub loop-index-init : goal.loop-index-init
loop-index-init c = flood-starts c.args.self.now c.args.in_port c.args.frame.now c.args.draft.now

pub returns-clause-count : goal.returns-clause-count
returns-clause-count c = (flood-ends _ _ _ _ _ _ _ c.loop-index.invariant (omega arith)).0

pub returns-clause-letters : goal.returns-clause-letters
returns-clause-letters c = (flood-ends _ _ _ _ _ _ _ c.loop-index.invariant (omega arith)).1
