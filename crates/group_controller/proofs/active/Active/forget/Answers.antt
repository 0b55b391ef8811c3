use Rattle.std.proofs.Common.{◌∙◌, ap, subst, sym}
use Rattle.group_controller.specs.Acting.{Acting, Acts, BeginsTurn}
use Rattle.group_controller.specs.State.{with_settled_forgotten}
use Rattle.group_controller.proofs.Acting.{forgets_begins, forgets_state}
use Rattle.group_controller.proofs.active.Active.forget.Goals as goal

pub returns-clause-state : goal.returns-clause-state
returns-clause-state g c = λ kinds setup acts.
    let inside = subst (λ (a : Acting _). Acts g.A.App.law a kinds setup) (sym c.self.view_is) acts in
    forgets_state g.A.App.law kinds setup _ c.forget.new.self inside c.forget.ensures.marks ∙ ap (λ (a : Acting _). with_settled_forgotten kinds setup a.work.state) c.self.view_is

pub returns-clause-begins : goal.returns-clause-begins
returns-clause-begins g c = λ kinds setup begins.
    let inside = subst (λ (a : Acting _). BeginsTurn g.A.App.law a kinds setup) (sym c.self.view_is) begins in
    forgets_begins g.A.App.law kinds setup _ c.forget.new.self inside c.forget.ensures.stands
