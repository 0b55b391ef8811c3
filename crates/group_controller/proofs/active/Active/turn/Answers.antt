use Rattle.std.proofs.Common.{subst}
use Rattle.group_controller.specs.Acting.{Acting, Works}
use Rattle.group_controller.specs.Rules.{on_input}
use Rattle.group_controller.proofs.Controlling.{began_begins}
use Rattle.group_controller.proofs.active.Active.turn.Goals as goal

pub returns-clause-works : goal.returns-clause-works
returns-clause-works g c = λ kinds setup begins off.
    let law = g.A.App.law in
    let begun_is = c.forget_limit.ensures in
    subst (λ (a : Acting _). Works law kinds setup a (on_input kinds setup a.work.state c.args.input) c.on_input.new.self) begun_is
    (c.in_ok-on_input.ensures.works kinds setup (began_begins law kinds setup c.args.self.now c.forget_limit.new.self begins begun_is) off)
