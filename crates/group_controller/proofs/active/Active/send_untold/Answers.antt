use Rattle.std.proofs.Common.{◌∙◌, Some, ap, map, subst, sym}
use Rattle.dispatcher.specs.Few.{values_in}
use Rattle.dispatcher.specs.Folding.{numbered}
use Rattle.dispatcher.specs.Ledger.{StandsFor}
use Rattle.dispatcher.specs.Marks.{outstanding}
use Rattle.group_controller.specs.Acting.{Acting, Works}
use Rattle.group_controller.specs.Settling.{with_commands}
use Rattle.group_controller.specs.State.{committed}
use Rattle.group_controller.proofs.Acting.{untold, untold_does}
use Rattle.group_controller.proofs.active.Active.send_untold.Goals as goal

pub returns-in_ok-send : goal.returns-in_ok-send
returns-in_ok-send g c = λ kinds setup acts.
    let now = c.args.self.now in
    let log = committed now.work.state in
    let stands = subst (λ (a : Acting _). StandsFor g.A.App.law a.dispatcher kinds setup log) (sym c.self.view_is) acts.stands in
    let place = c.processed-place.ensures kinds setup log stands in
    let is = untold g.A.App.law kinds setup now.work.state c.has_unprocessed.result c.was_told.result c.processed-place.result (c.has_unprocessed.ensures kinds setup log stands) c.if-has_unprocessed.true c.was_told.ensures c.if-not-was_told.true place in
    let marks = ap (λ (a : Acting _). map (numbered kinds setup log) (outstanding kinds setup log a.dispatcher.marks)) c.self.view_is ∙ ap (λ m. map (numbered kinds setup log) (outstanding kinds setup log m)) (sym acts.marks) in
    subst (λ (b : Acting _). Works g.A.App.law kinds setup now (with_commands kinds setup now.work) (record b { work = record b.work { state = record b.work.state { last_told = Some c.processed-place.result } } }))
    (sym c.self-then-not-was_told.view_is)
    (untold_does g.A.App.law kinds setup now c.send.new.self c.processed-place.result (values_in c.in_ok-commands.commands) acts is place (c.in_ok-commands.ensures kinds setup log stands ∙ marks) c.in_ok-send.ensures)
