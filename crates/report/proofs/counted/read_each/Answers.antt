use Rattle.report.proofs.Sequences.{ok_gives, each_more}
use Rattle.report.proofs.counted.read_each.Goals as goal

pub loop-place-preserved : goal.loop-place-preserved
loop-place-preserved g c =
    rw c.in_ok-push.ensures
    (each_more (g.L.CountedLine.line_at c.args.switch) c.args.count c.loop-place.place c.loop-place.items c.in_ok-item.item c.loop-place.rest.now c.in_ok-item.after.now _
    c.loop-place-test.true (ok_gives _ _ _ _ c.read_line.ensures c.in_ok-item.ensures) c.loop-place.invariant)
