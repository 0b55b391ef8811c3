use Rattle.std.proofs.Common.{◌∙◌, ap, subst, sym}
use Rattle.vr_log.specs.declared.state.VrState.{VrState}
use Rattle.vr_core.specs.Lasting.{CollectsItsOwn}
use Rattle.group_controller.specs.Acting.{Acting, BeginsTurn}
use Rattle.group_controller.specs.State.{fresh}
use Rattle.group_controller.proofs.Controlling.{starts_controlled}
use Rattle.group_controller.proofs.controller.Controller.new.Goals as goal

pub new-requires-2-clause-few : goal.new-requires-2-clause-few
new-requires-2-clause-few g c = c.requires.few

pub new-requires-2-clause-valid : goal.new-requires-2-clause-valid
new-requires-2-clause-valid g c = c.in_ok-replica.ensures.valid

pub new-requires-2-clause-own : goal.new-requires-2-clause-own
new-requires-2-clause-own g c = subst (λ (v : VrState). CollectsItsOwn v) (sym c.in_ok-replica.ensures.state) (λ changing. absurd cc changing)

pub new-requires-2-clause-none : goal.new-requires-2-clause-none
new-requires-2-clause-none g c = ap (λ (v : VrState). v.commit) c.in_ok-replica.ensures.state

pub returns-clause-controls : goal.returns-clause-controls
returns-clause-controls g c =
    let boxed = c.in_ok-new.ensures.ok in
    let begins = subst (λ (a : Acting _). BeginsTurn g.A.App.law a (g.A.App.law.kinds c.args.app) c.args.setup.now) (sym boxed) c.in_ok-active.ensures.begins in
    let state = ap (λ (a : Acting _). a.work.state) boxed ∙ c.in_ok-active.ensures.state in
    starts_controlled g.A.App.law (g.A.App.law.kinds c.args.app) c.args.me c.args.setup.now c.in_ok-copy.field-0 c.in_ok-new.field-0.value c.in_ok-replica.replica c.args.shelf.items c.new-4.result.items
    c.in_ok-copy.ensures c.requires.setup c.requires.member begins state c.in_ok-replica.ensures.state c.requires.alike

pub returns-clause-starts : goal.returns-clause-starts
returns-clause-starts g c = (c.in_ok-copy.ensures, ap (λ (a : Acting _). a.work.state) c.in_ok-new.ensures.ok ∙ c.in_ok-active.ensures.state ∙ ap (λ (v : VrState). fresh v) c.in_ok-replica.ensures.state, c.new-4.ensures.items)
