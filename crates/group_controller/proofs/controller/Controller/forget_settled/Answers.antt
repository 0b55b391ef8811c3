use Rattle.std.proofs.Common.{◌∙◌, ap, subst, sym}
use Rattle.std.specs.Prelude.{box_value, option_map}
use Rattle.group_controller.specs.Acting.{Acting, Acts, BeginsTurn}
use Rattle.group_controller.specs.State.{with_settled_forgotten}
use Rattle.group_controller.specs.Turns.{Controlling, Controls, state_of}
use Rattle.group_controller.proofs.Controlling.{acting_stands, forgets_controls, forgets_state}
use Rattle.group_controller.proofs.controller.Controller.forget_settled.Goals as goal

pub returns-clause-state : goal.returns-clause-state
returns-clause-state g c = λ kinds controls.
    let law = g.A.App.law in
    let i = c.self.inside in
    let now : Controlling _ = record { setup = i.setup; me = i.me; promise = i.promise; life = i.life; acting = option_map box_value i.active; shelf = i.shelf.items; results = i.results.items } in
    let before = c.in-Some.active.value in
    let value = c.deref_mut.ensures.value in
    let acting = ap (option_map box_value) c.in-Some.is in
    let inside = subst (λ (x : Controlling _). Controls law x kinds) (sym c.self.view_is) controls in
    let stands = acting_stands law kinds now before inside acting in
    let acts = subst (λ (a : Acting _). Acts law a kinds now.setup) (sym value) stands.begins.acts in
    let state = c.forget.ensures.state kinds now.setup acts ∙ ap (λ (a : Acting _). with_settled_forgotten kinds now.setup a.work.state) value in
    forgets_state law kinds now before c.forget.new.self acting state ∙ ap (λ (x : Controlling _). with_settled_forgotten kinds x.setup (state_of x)) c.self.view_is

pub returns-clause-controls : goal.returns-clause-controls
returns-clause-controls g c = λ kinds controls.
    let law = g.A.App.law in
    let i = c.self.inside in
    let now : Controlling _ = record { setup = i.setup; me = i.me; promise = i.promise; life = i.life; acting = option_map box_value i.active; shelf = i.shelf.items; results = i.results.items } in
    let before = c.in-Some.active.value in
    let value = c.deref_mut.ensures.value in
    let acting = ap (option_map box_value) c.in-Some.is in
    let inside = subst (λ (x : Controlling _). Controls law x kinds) (sym c.self.view_is) controls in
    let stands = acting_stands law kinds now before inside acting in
    let begins = subst (λ (a : Acting _). BeginsTurn law a kinds now.setup) (sym value) stands.begins in
    let state = c.forget.ensures.state kinds now.setup begins.acts ∙ ap (λ (a : Acting _). with_settled_forgotten kinds now.setup a.work.state) value in
    forgets_controls law kinds now before c.forget.new.self inside acting (c.forget.ensures.begins kinds now.setup begins) state
