use Rattle.std.proofs.Common.{◌<◌, length, add-one, drop-cons, arith}
use Rattle.plain_controller.proofs.Runs.{run_none, run_more}
use Rattle.plain_controller.proofs.single.Single.run.Goals as goal

pub loop-event-init : goal.loop-event-init
loop-event-init g c = rw c.new-lists.ensures.items (run_none g.A.App.law c.args.app.now c.args.events.now)

pub loop-event-preserved : goal.loop-event-preserved
loop-event-preserved g c =
    let lt : c.loop-event.event-index < length c.args.events.now = omega arith in
    let here = drop-cons c.args.events.now c.loop-event.event-index c.event-item.result lt in
    let inv = rw (here, ← c.event-item.is) at c.loop-event.invariant in
    rw (add-one, c.in_ok-push.ensures.items)
    (run_more g.A.App.law c.args.app.now c.loop-event.app c.react.new.self c.loop-event.lists.items c.event-item.result _ _ c.in_ok-react.field-0 inv
    c.react.ensures.kinds c.react.ensures.suits c.in_ok-react.ensures.step c.in_ok-react.ensures.few)
