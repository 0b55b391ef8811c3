use Rattle.report.proofs.Sequences.{told_more}
use Rattle.report.proofs.switch_lines.switches.Goals as goal

pub loop-switch-preserved : goal.loop-switch-preserved
loop-switch-preserved c =
    rw c.in_ok-push.ensures
    (told_more c.args.count c.loop-switch.switch c.loop-switch.switches c.in_ok-told.told c.loop-switch.rest.now c.in_ok-told.after.now _
    c.loop-switch-test.true c.in_ok-told.ensures c.loop-switch.invariant)
