use Rattle.report.proofs.Sequences.{ok_gives, ports_more}
use Rattle.report.proofs.setup_lines.port_counts.Goals as goal

pub loop-switch-preserved : goal.loop-switch-preserved
loop-switch-preserved c =
    rw c.in_ok-push.ensures
    (ports_more c.args.switches c.loop-switch.switch c.loop-switch.counts c.in_ok-count.count c.loop-switch.rest.now c.in_ok-count.after.now _
    c.loop-switch-test.true (ok_gives _ _ _ _ c.port_count.ensures c.in_ok-count.ensures) c.loop-switch.invariant)
