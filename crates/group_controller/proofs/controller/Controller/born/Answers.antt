use Rattle.std.proofs.Common.{List, ℕ, ◌++◌, ◌∙◌, ap, subst, sym}
use Rattle.std.proofs.lemmas.List.{append-nil}
use Rattle.std.specs.Prelude.{Option, None, option_to_list}
use Rattle.vr_log.specs.declared.state.VrState.{VrState}
use Rattle.vr_core.specs.Lasting.{CollectsItsOwn}
use Rattle.group_controller.specs.Acting.{Acting, BeginsTurn, with_out}
use Rattle.group_controller.specs.Turns.{Born, Controlling, Controls, TakesOneAtMost}
use Rattle.group_controller.proofs.Controlling.{born_is, last_alike, on_any_err, rest_alike}
use Rattle.group_controller.proofs.controller.Controller.born.Goals as goal

pub returns-clause-born : goal.returns-clause-born
returns-clause-born g c = λ kinds controls.
    let inside = subst (λ (x : Controlling _). Controls g.A.App.law x kinds) (sym c.self.view_is) controls in
    let alike = last_alike g.A.App.law kinds _ _ c.pop.result c.in-Some.app inside.shelf c.pop.ensures.items c.in-Some.is in
    let begins = subst (λ (k : List ℕ). BeginsTurn g.A.App.law c.in_ok-active.active k c.self.inside.setup) alike.0 c.in_ok-active.ensures.begins in
    subst (λ (x : Controlling _). Born g.A.App.law x kinds c.args.life c.take.new.self) c.self.view_is
    (born_is g.A.App.law kinds _ c.args.life c.in_ok-active.active c.take.new.self c.in_ok-replica.replica c.in_ok-replica.out begins c.in_ok-active.ensures.state c.in_ok-replica.ensures.step (c.in_ok-take.ensures ∙ ap (λ (a : Acting _). with_out a c.in_ok-replica.out) (c.deref_mut.ensures.value ∙ c.in_ok-active-2.ensures.ok)))

pub new-requires-clause-few : goal.new-requires-clause-few
new-requires-clause-few g c =
    let kinds = c.requires.controls.0 in
    let inside = subst (λ (x : Controlling _). Controls g.A.App.law x kinds) (sym c.self.view_is) c.requires.controls.1 in
    (last_alike g.A.App.law kinds c.self.inside.shelf.items c.pop.new.self.items c.pop.result c.in-Some.app inside.shelf c.pop.ensures.items c.in-Some.is).1

pub new-requires-clause-valid : goal.new-requires-clause-valid
new-requires-clause-valid g c = c.in_ok-replica.ensures.valid

pub new-requires-clause-own : goal.new-requires-clause-own
new-requires-clause-own g c = subst (λ (v : VrState). CollectsItsOwn v) (sym c.in_ok-replica.ensures.step.state_is) (λ changing. absurd cc changing)

pub new-requires-clause-none : goal.new-requires-clause-none
new-requires-clause-none g c = ap (λ (v : VrState). v.commit) c.in_ok-replica.ensures.step.state_is

pub returns-in_default-clause-shelf : goal.returns-in_default-clause-shelf
returns-in_default-clause-shelf g c = ap (λ (x : Controlling _). record x { shelf = c.pop.new.self.items }) c.self.view_is

pub returns-in_err-active-clause-shelf : goal.returns-in_err-active-clause-shelf
returns-in_err-active-clause-shelf g c = ap (λ (x : Controlling _). record x { shelf = c.pop.new.self.items }) c.self.view_is

pub returns-in_err-active-2-clause-shelf : goal.returns-in_err-active-2-clause-shelf
returns-in_err-active-2-clause-shelf g c = ap (λ (x : Controlling _). record x { shelf = c.pop.new.self.items }) c.self.view_is

pub returns-in_err-take-clause-shelf : goal.returns-in_err-take-clause-shelf
returns-in_err-take-clause-shelf g c = ap (λ (x : Controlling _). record x { shelf = c.pop.new.self.items }) c.self.view_is

pub returns-clause-shelf : goal.returns-clause-shelf
returns-clause-shelf g c = ap (λ (x : Controlling _). record x { shelf = c.pop.new.self.items }) c.self.view_is

pub returns-in_default-clause-alike : goal.returns-in_default-clause-alike
returns-in_default-clause-alike g c = λ kinds controls.
    let inside = subst (λ (x : Controlling _). Controls g.A.App.law x kinds) (sym c.self.view_is) controls in
    rest_alike g.A.App.law kinds c.self.inside.shelf.items c.pop.new.self.items c.pop.result inside.shelf c.pop.ensures.items

pub returns-in_err-active-clause-alike : goal.returns-in_err-active-clause-alike
returns-in_err-active-clause-alike g c = λ kinds controls.
    let inside = subst (λ (x : Controlling _). Controls g.A.App.law x kinds) (sym c.self.view_is) controls in
    rest_alike g.A.App.law kinds c.self.inside.shelf.items c.pop.new.self.items c.pop.result inside.shelf c.pop.ensures.items

pub returns-in_err-active-2-clause-alike : goal.returns-in_err-active-2-clause-alike
returns-in_err-active-2-clause-alike g c = λ kinds controls.
    let inside = subst (λ (x : Controlling _). Controls g.A.App.law x kinds) (sym c.self.view_is) controls in
    rest_alike g.A.App.law kinds c.self.inside.shelf.items c.pop.new.self.items c.pop.result inside.shelf c.pop.ensures.items

pub returns-in_err-take-clause-alike : goal.returns-in_err-take-clause-alike
returns-in_err-take-clause-alike g c = λ kinds controls.
    let inside = subst (λ (x : Controlling _). Controls g.A.App.law x kinds) (sym c.self.view_is) controls in
    rest_alike g.A.App.law kinds c.self.inside.shelf.items c.pop.new.self.items c.pop.result inside.shelf c.pop.ensures.items

pub returns-clause-alike : goal.returns-clause-alike
returns-clause-alike g c = λ kinds controls.
    let inside = subst (λ (x : Controlling _). Controls g.A.App.law x kinds) (sym c.self.view_is) controls in
    rest_alike g.A.App.law kinds c.self.inside.shelf.items c.pop.new.self.items c.pop.result inside.shelf c.pop.ensures.items

pub returns-in_default-clause-lost : goal.returns-in_default-clause-lost
returns-in_default-clause-lost g c = (c.pop.result, ap (λ (x : Controlling _). x.shelf) (sym c.self.view_is) ∙ c.pop.ensures.items)

pub returns-in_err-active-clause-lost : goal.returns-in_err-active-clause-lost
returns-in_err-active-clause-lost g c = on_any_err _ (TakesOneAtMost c.args.self.now.shelf c.pop.new.self.items) (c.pop.result, ap (λ (x : Controlling _). x.shelf) (sym c.self.view_is) ∙ c.pop.ensures.items)

pub returns-in_err-active-2-clause-lost : goal.returns-in_err-active-2-clause-lost
returns-in_err-active-2-clause-lost g c = on_any_err _ (TakesOneAtMost c.args.self.now.shelf c.pop.new.self.items) (c.pop.result, ap (λ (x : Controlling _). x.shelf) (sym c.self.view_is) ∙ c.pop.ensures.items)

pub returns-in_err-take-clause-lost : goal.returns-in_err-take-clause-lost
returns-in_err-take-clause-lost g c = on_any_err _ (TakesOneAtMost c.args.self.now.shelf c.pop.new.self.items) (c.pop.result, ap (λ (x : Controlling _). x.shelf) (sym c.self.view_is) ∙ c.pop.ensures.items)

pub returns-in_err-replica-clause-lost : goal.returns-in_err-replica-clause-lost
returns-in_err-replica-clause-lost g c = on_any_err _ (TakesOneAtMost c.args.self.now.shelf c.args.self.now.shelf) (None, sym (append-nil c.args.self.now.shelf))

pub returns-clause-takes : goal.returns-clause-takes
returns-clause-takes g c =
    (c.in-Some.app, ap (λ (x : Controlling _). x.shelf) (sym c.self.view_is) ∙ c.pop.ensures.items ∙ ap (λ (o : Option _). c.pop.new.self.items ++ option_to_list o) c.in-Some.is)
