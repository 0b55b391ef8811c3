use Rattle.std.proofs.Common.{rules, subst, sym}
use Rattle.std.specs.Prelude.{OnOk}
use Rattle.std.proofs.lemmas.Result.{on_ok_weaker}
use Rattle.dispatcher.specs.Few.{values_in}
use Rattle.group_controller.specs.Acting.{Acting, BeginsTurn, Works}
use Rattle.group_controller.specs.Rules.{on_role_reply}
use Rattle.group_controller.proofs.Acting.{master_does}
use Rattle.group_controller.proofs.active.Active.on_role_reply.Goals as goal

pub returns : goal.returns
returns g c = λ kinds setup begins.
    let inside = subst (λ (a : Acting _). BeginsTurn g.A.App.law a kinds setup) (sym c.self.view_is) begins in
    let stands = c.on_role.ensures.stands kinds setup _ inside.acts.stands in
    subst (λ (a : Acting _). OnOk c.send.result (Works g.A.App.law kinds setup a (on_role_reply kinds setup a.work.state c.args.switch c.args.role c.args.generation) c.send.new.self)) c.self.view_is
    (on_ok_weaker c.send.result
    (λ sent. master_does g.A.App.law kinds setup _ c.send.new.self c.on_role.new.self c.args.switch c.args.role c.args.generation (values_in c.in_ok-commands.commands) inside (search rules) (search rules) c.on_role.ensures.marks c.on_role.ensures.stands (c.in_ok-commands.ensures kinds setup _ stands) sent)
    c.send.ensures)
