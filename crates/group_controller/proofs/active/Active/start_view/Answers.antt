use Rattle.std.proofs.Common.{refl, ap, subst, sym}
use Rattle.std.specs.Prelude.{OnOk}
use Rattle.std.proofs.lemmas.Result.{on_ok_weaker}
use Rattle.dispatcher.specs.Ledger.{Dispatching}
use Rattle.group_controller.specs.Acting.{Acting, Acts, Works}
use Rattle.group_controller.specs.Rules.{starting_view}
use Rattle.group_controller.proofs.Acting.{posts_acts}
use Rattle.group_controller.proofs.Finishing.{none_new}
use Rattle.group_controller.proofs.Settling.{begin_does, begun_acts}
use Rattle.group_controller.proofs.active.Active.start_view.Goals as goal

pub returns : goal.returns
returns g c = λ kinds setup acts.
    let inside = subst (λ (a : Acting _). Acts g.A.App.law a kinds setup) (sym c.self.view_is) acts in
    let begun = begun_acts g.A.App.law kinds setup _ _ c.begin_view.new.self inside c.begin_view.ensures.stands refl in
    let asked = c.in_ok-ask_unconfirmed.ensures kinds setup begun in
    let then_acts = posts_acts g.A.App.law kinds setup _ c.ask_unconfirmed.new.self _ begun asked in
    subst (λ (a : Acting _). OnOk c.settle.result (Works g.A.App.law kinds setup a (starting_view kinds setup a.work) c.settle.new.self)) c.self.view_is
    (on_ok_weaker c.settle.result (λ settled. begin_does g.A.App.law kinds setup _ _ c.ask_unconfirmed.new.self c.settle.new.self c.begin_view.new.self inside (ap (λ (d : Dispatching _). d.marks) c.begin_view.ensures.marks) c.begin_view.ensures.stands refl asked settled)
    (c.settle.ensures kinds setup then_acts c.ask_unconfirmed.new.self.work.state.vr.commit (none_new kinds setup c.ask_unconfirmed.new.self.work.state)))
