use Rattle.std.proofs.Common.{ap, subst, sym}
use Rattle.std.specs.Prelude.{box_value, option_map, IfOk, OnOk, Some}
use Rattle.group_controller.specs.Acting.{Acting, BeginsTurn, begun, Works}
use Rattle.group_controller.specs.Rules.{on_input}
use Rattle.group_controller.specs.Turns.{Controlling, Controls, TakesInput}
use Rattle.group_controller.proofs.Controlling.{acting_stands, takes_by}
use Rattle.group_controller.proofs.controller.Controller.take.Goals as goal

pub returns-clause-takes : goal.returns-clause-takes
returns-clause-takes g c = λ kinds controls off.
    let law = g.A.App.law in
    let i = c.self.inside in
    let now : Controlling _ = record { setup = i.setup; me = i.me; promise = i.promise; life = i.life; acting = option_map box_value i.active; shelf = i.shelf.items; results = i.results.items } in
    let before = c.in-Some.active.value in
    let left = c.turn.new.self in
    let value = c.deref_mut.ensures.value in
    let acting = ap (option_map box_value) c.in-Some.is in
    let stands = acting_stands law kinds now before (subst (λ (x : Controlling _). Controls law x kinds) (sym c.self.view_is) controls) acting in
    let begins = subst (λ (a : Acting _). BeginsTurn law a kinds now.setup) (sym value) stands.begins in
    let works = subst (λ (a : Acting _). OnOk c.turn.result (Works law kinds now.setup (begun a) (on_input kinds now.setup (begun a).work.state c.args.input) left)) value (c.turn.ensures.works kinds now.setup begins off) in
    subst (λ (x : Controlling _). IfOk c.turn.result (λ promise. TakesInput law kinds c.args.input promise x (record now { acting = Some left }))) c.self.view_is
    (takes_by law kinds c.turn.result now before left c.args.input acting works c.turn.ensures.promise)
