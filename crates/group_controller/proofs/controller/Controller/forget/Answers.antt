use Rattle.std.proofs.Common.{◌∙◌, ap, subst, sym}
use Rattle.group_controller.specs.State.{with_settled_forgotten}
use Rattle.group_controller.specs.Turns.{Controlling, Controls, state_of}
use Rattle.group_controller.proofs.Controlling.{controls_alike}
use Rattle.group_controller.proofs.controller.Controller.forget.Goals as goal

pub returns-clause-state : goal.returns-clause-state
returns-clause-state g c = λ kinds controls.
    let inside = subst (λ (x : Controlling _). Controls g.A.App.law x kinds) (sym c.self.view_is) controls in
    c.forget_settled.ensures.state kinds (controls_alike g.A.App.law kinds _ c.clear.new.self.items inside) ∙ ap (λ (x : Controlling _). with_settled_forgotten kinds x.setup (state_of x)) c.self.view_is

pub returns-clause-controls : goal.returns-clause-controls
returns-clause-controls g c = λ kinds controls.
    let inside = subst (λ (x : Controlling _). Controls g.A.App.law x kinds) (sym c.self.view_is) controls in
    c.forget_settled.ensures.controls kinds (controls_alike g.A.App.law kinds _ c.clear.new.self.items inside)
