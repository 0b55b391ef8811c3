use Rattle.std.proofs.Common.{◌≡◌, ◌∙◌, ◌≤◌, ℕ, false, true, ap, subst, sym}
use Rattle.std.specs.Prelude.{OnOk}
use Rattle.std.proofs.lemmas.Bool.{lt-ltb, le-ltb}
use Rattle.std.proofs.lemmas.Result.{on_ok_weaker}
use Rattle.vr_log.specs.declared.state.VrState.{VrState}
use Rattle.vr_log.specs.Members.{leads}
use Rattle.vr_core.specs.Step.{vr_step}
use Rattle.group_controller.specs.Acting.{Acting, ActsUpTo, AreNewlyHandled, BeginsTurn, TakesStep, Works}
use Rattle.group_controller.specs.Rules.{after_step}
use Rattle.group_controller.specs.State.{Work}
use Rattle.group_controller.proofs.Acting.{folded_does, steps}
use Rattle.group_controller.proofs.Events.{step_rests, step_settles, step_starts}
use Rattle.group_controller.proofs.Finishing.{is_settling, leads_started, not_settled, not_started, started_is}
use Rattle.group_controller.proofs.active.Active.step.Goals as goal

pub fold_behind-requires-clause-reach : goal.fold_behind-requires-clause-reach
fold_behind-requires-clause-reach g c =
    let kinds = c.requires.begins.0 in
    let setup = c.requires.begins.1 in
    let inside = subst (λ (a : Acting _). BeginsTurn g.A.App.law a kinds setup) (sym c.self.view_is) c.requires.begins.2 in
    let taken = subst (λ (a : Acting _). TakesStep a (vr_step a.work.state.vr c.args.input) c.take_step.new.self) (sym c.self.view_is) c.in_ok-take_step.ensures in
    let s = steps g.A.App.law kinds setup _ c.take_step.new.self c.args.input taken.vr taken.out inside taken.valid taken.did taken.takes in
    subst (λ (n : ℕ). n ≤ c.take_step.new.self.work.state.vr.commit) (sym c.committed-before.ensures) s.acts.reach

pub fold_unanswered-requires-clause-reach : goal.fold_unanswered-requires-clause-reach
fold_unanswered-requires-clause-reach g c =
    let kinds = c.requires.begins.0 in
    let setup = c.requires.begins.1 in
    let inside = subst (λ (a : Acting _). BeginsTurn g.A.App.law a kinds setup) (sym c.self.view_is) c.requires.begins.2 in
    let taken = subst (λ (a : Acting _). TakesStep a (vr_step a.work.state.vr c.args.input) c.take_step.new.self) (sym c.self.view_is) c.in_ok-take_step.ensures in
    let s = steps g.A.App.law kinds setup _ c.take_step.new.self c.args.input taken.vr taken.out inside taken.valid taken.did taken.takes in
    subst (λ (n : ℕ). n ≤ c.take_step.new.self.work.state.vr.commit) (sym c.committed-before.ensures) s.acts.reach

pub start_view-requires-clause-acts : goal.start_view-requires-clause-acts
start_view-requires-clause-acts g c =
    let kinds = c.requires.begins.0 in
    let setup = c.requires.begins.1 in
    let begins = c.requires.begins.2 in
    let inside = subst (λ (a : Acting _). BeginsTurn g.A.App.law a kinds setup) (sym c.self.view_is) begins in
    let old = c.self.inside.replica in
    let step = vr_step old c.args.input in
    let taken = subst (λ (a : Acting _). TakesStep a (vr_step a.work.state.vr c.args.input) c.take_step.new.self) (sym c.self.view_is) c.in_ok-take_step.ensures in
    let s = steps g.A.App.law kinds setup _ c.take_step.new.self c.args.input taken.vr taken.out inside taken.valid taken.did taken.takes in
    let upto = subst (λ (n : ℕ). ActsUpTo g.A.App.law n c.take_step.new.self kinds setup) (sym c.committed-before.ensures) s.acts in
    let folded = c.in_ok-processed.ensures.folds kinds setup upto in
    let d = c.fold_behind.new.self in
    let first = folded_does g.A.App.law kinds setup _ c.take_step.new.self d step s folded.1 c.in_ok-processed.ensures.work c.in_ok-processed.ensures.promise in
    (kinds, setup, folded.1)

pub start_view-requires-clause-leads : goal.start_view-requires-clause-leads
start_view-requires-clause-leads g c =
    let kinds = c.requires.begins.0 in
    let setup = c.requires.begins.1 in
    let begins = c.requires.begins.2 in
    let inside = subst (λ (a : Acting _). BeginsTurn g.A.App.law a kinds setup) (sym c.self.view_is) begins in
    let old = c.self.inside.replica in
    let step = vr_step old c.args.input in
    let taken = subst (λ (a : Acting _). TakesStep a (vr_step a.work.state.vr c.args.input) c.take_step.new.self) (sym c.self.view_is) c.in_ok-take_step.ensures in
    let s = steps g.A.App.law kinds setup _ c.take_step.new.self c.args.input taken.vr taken.out inside taken.valid taken.did taken.takes in
    let upto = subst (λ (n : ℕ). ActsUpTo g.A.App.law n c.take_step.new.self kinds setup) (sym c.committed-before.ensures) s.acts in
    let folded = c.in_ok-processed.ensures.folds kinds setup upto in
    let d = c.fold_behind.new.self in
    let first = folded_does g.A.App.law kinds setup _ c.take_step.new.self d step s folded.1 c.in_ok-processed.ensures.work c.in_ok-processed.ensures.promise in
    let known = c.self-3.view_is in
    let is = ap (λ (w : Work). w.state.vr) first.work_is in
    let leading : true ≡ leads step.state = sym c.if-not-leads.false ∙ c.leads.ensures ∙ ap (λ (a : Acting _). leads a.work.state.vr) c.self-2.view_is ∙ ap (λ (w : Work). leads w.state.vr) s.work_is in
    let started = started_is old step.state c.has_started.result true c.leads-led.result c.view-view.result c.view.result c.has_started.ensures leading c.leads-led.ensures c.view-view.ensures
    (c.view.ensures ∙ ap (λ (a : Acting _). a.work.state.vr.view) known ∙ ap (λ (v : VrState). v.view) is) in
    ap (λ (v : VrState). leads v) is ∙ leads_started old step.state (started ∙ c.if-has_started.true)

pub returns-then-has_started : goal.returns-then-has_started
returns-then-has_started g c = λ kinds setup begins.
    let inside = subst (λ (a : Acting _). BeginsTurn g.A.App.law a kinds setup) (sym c.self.view_is) begins in
    let old = c.self.inside.replica in
    let step = vr_step old c.args.input in
    let taken = subst (λ (a : Acting _). TakesStep a (vr_step a.work.state.vr c.args.input) c.take_step.new.self) (sym c.self.view_is) c.in_ok-take_step.ensures in
    let s = steps g.A.App.law kinds setup _ c.take_step.new.self c.args.input taken.vr taken.out inside taken.valid taken.did taken.takes in
    let upto = subst (λ (n : ℕ). ActsUpTo g.A.App.law n c.take_step.new.self kinds setup) (sym c.committed-before.ensures) s.acts in
    let folded = c.in_ok-processed.ensures.folds kinds setup upto in
    let d = c.fold_behind.new.self in
    let first = folded_does g.A.App.law kinds setup _ c.take_step.new.self d step s folded.1 c.in_ok-processed.ensures.work c.in_ok-processed.ensures.promise in
    let known = c.self-3.view_is in
    let is = ap (λ (w : Work). w.state.vr) first.work_is in
    let leading : true ≡ leads step.state = sym c.if-not-leads.false ∙ c.leads.ensures ∙ ap (λ (a : Acting _). leads a.work.state.vr) c.self-2.view_is ∙ ap (λ (w : Work). leads w.state.vr) s.work_is in
    let started = started_is old step.state c.has_started.result true c.leads-led.result c.view-view.result c.view.result c.has_started.ensures leading c.leads-led.ensures c.view-view.ensures
    (c.view.ensures ∙ ap (λ (a : Acting _). a.work.state.vr.view) known ∙ ap (λ (v : VrState). v.view) is) in
    subst (λ (a : Acting _). OnOk c.start_view.result (Works g.A.App.law kinds setup a (after_step kinds setup a.work.state (vr_step a.work.state.vr c.args.input)) c.start_view.new.self)) c.self.view_is
    (on_ok_weaker c.start_view.result (λ rest. step_starts g.A.App.law kinds setup _ d c.start_view.new.self step first (started ∙ c.if-has_started.true) rest) (c.start_view.ensures kinds setup folded.1))

pub returns-then-not-leads : goal.returns-then-not-leads
returns-then-not-leads g c = λ kinds setup begins.
    let inside = subst (λ (a : Acting _). BeginsTurn g.A.App.law a kinds setup) (sym c.self.view_is) begins in
    let old = c.self.inside.replica in
    let step = vr_step old c.args.input in
    let taken = subst (λ (a : Acting _). TakesStep a (vr_step a.work.state.vr c.args.input) c.take_step.new.self) (sym c.self.view_is) c.in_ok-take_step.ensures in
    let s = steps g.A.App.law kinds setup _ c.take_step.new.self c.args.input taken.vr taken.out inside taken.valid taken.did taken.takes in
    let upto = subst (λ (n : ℕ). ActsUpTo g.A.App.law n c.take_step.new.self kinds setup) (sym c.committed-before.ensures) s.acts in
    let d = c.fold_unanswered.new.self in
    let off : leads step.state ≡ false = sym (c.leads.ensures ∙ ap (λ (a : Acting _). leads a.work.state.vr) c.self-2.view_is ∙ ap (λ (w : Work). leads w.state.vr) s.work_is) ∙ c.if-not-leads.true in
    subst (λ (a : Acting _). OnOk c.fold_unanswered.result (Works g.A.App.law kinds setup a (after_step kinds setup a.work.state (vr_step a.work.state.vr c.args.input)) d)) c.self.view_is
    (on_ok_weaker c.fold_unanswered.result
    (λ acts. step_rests g.A.App.law kinds setup _ d step
    (folded_does g.A.App.law kinds setup _ c.take_step.new.self d step s acts c.fold_unanswered.ensures.work c.fold_unanswered.ensures.promise)
    (not_started old step.state off) (not_settled old step.state off))
    (c.fold_unanswered.ensures.folds kinds setup upto))

pub settle-requires-clause-acts : goal.settle-requires-clause-acts
settle-requires-clause-acts g c =
    let kinds = c.requires.begins.0 in
    let setup = c.requires.begins.1 in
    let begins = c.requires.begins.2 in
    let inside = subst (λ (a : Acting _). BeginsTurn g.A.App.law a kinds setup) (sym c.self.view_is) begins in
    let old = c.self.inside.replica in
    let step = vr_step old c.args.input in
    let taken = subst (λ (a : Acting _). TakesStep a (vr_step a.work.state.vr c.args.input) c.take_step.new.self) (sym c.self.view_is) c.in_ok-take_step.ensures in
    let s = steps g.A.App.law kinds setup _ c.take_step.new.self c.args.input taken.vr taken.out inside taken.valid taken.did taken.takes in
    let upto = subst (λ (n : ℕ). ActsUpTo g.A.App.law n c.take_step.new.self kinds setup) (sym c.committed-before.ensures) s.acts in
    let folded = c.in_ok-processed.ensures.folds kinds setup upto in
    let d = c.fold_behind.new.self in
    let first = folded_does g.A.App.law kinds setup _ c.take_step.new.self d step s folded.1 c.in_ok-processed.ensures.work c.in_ok-processed.ensures.promise in
    (kinds, setup, folded.1)

pub settle-requires-clause-leads : goal.settle-requires-clause-leads
settle-requires-clause-leads g c =
    ap (λ (w : Work). leads w.state.vr) c.fold_behind.ensures.work ∙ sym (c.leads.ensures ∙ ap (λ (a : Acting _). leads a.work.state.vr) c.self-2.view_is) ∙ c.if-not-leads.false

pub returns-then-before-committed : goal.returns-then-before-committed
returns-then-before-committed g c = λ kinds setup begins.
    let inside = subst (λ (a : Acting _). BeginsTurn g.A.App.law a kinds setup) (sym c.self.view_is) begins in
    let old = c.self.inside.replica in
    let step = vr_step old c.args.input in
    let taken = subst (λ (a : Acting _). TakesStep a (vr_step a.work.state.vr c.args.input) c.take_step.new.self) (sym c.self.view_is) c.in_ok-take_step.ensures in
    let s = steps g.A.App.law kinds setup _ c.take_step.new.self c.args.input taken.vr taken.out inside taken.valid taken.did taken.takes in
    let upto = subst (λ (n : ℕ). ActsUpTo g.A.App.law n c.take_step.new.self kinds setup) (sym c.committed-before.ensures) s.acts in
    let folded = c.in_ok-processed.ensures.folds kinds setup upto in
    let d = c.fold_behind.new.self in
    let first = folded_does g.A.App.law kinds setup _ c.take_step.new.self d step s folded.1 c.in_ok-processed.ensures.work c.in_ok-processed.ensures.promise in
    let known = c.self-3.view_is in
    let is = ap (λ (w : Work). w.state.vr) first.work_is in
    let leading : true ≡ leads step.state = sym c.if-not-leads.false ∙ c.leads.ensures ∙ ap (λ (a : Acting _). leads a.work.state.vr) c.self-2.view_is ∙ ap (λ (w : Work). leads w.state.vr) s.work_is in
    let started = started_is old step.state c.has_started.result true c.leads-led.result c.view-view.result c.view.result c.has_started.ensures leading c.leads-led.ensures c.view-view.ensures
    (c.view.ensures ∙ ap (λ (a : Acting _). a.work.state.vr.view) known ∙ ap (λ (v : VrState). v.view) is) in
    let more = is_settling old step.state c.committed-before.result c.committed.result _ (sym leading) c.committed-before.ensures
    (c.committed.ensures ∙ ap (λ (a : Acting _). a.work.state.vr.commit) known ∙ ap (λ (v : VrState). v.commit) is) (lt-ltb c.committed-before.result c.committed.result c.if-before-committed.true) in
    let new = subst (λ (n : ℕ). AreNewlyHandled kinds setup d.work.state n c.as_slice.result.now) c.committed-before.ensures (subst (λ l. AreNewlyHandled kinds setup d.work.state c.committed-before.result l) (sym c.as_slice.ensures) folded.0) in
    subst (λ (a : Acting _). OnOk c.settle.result (Works g.A.App.law kinds setup a (after_step kinds setup a.work.state (vr_step a.work.state.vr c.args.input)) c.settle.new.self)) c.self.view_is
    (on_ok_weaker c.settle.result (λ rest. step_settles g.A.App.law kinds setup _ d c.settle.new.self step first (started ∙ c.if-has_started.false) more rest) (c.settle.ensures kinds setup folded.1 old.commit new))

pub returns : goal.returns
returns g c = λ kinds setup begins.
    let inside = subst (λ (a : Acting _). BeginsTurn g.A.App.law a kinds setup) (sym c.self.view_is) begins in
    let old = c.self.inside.replica in
    let step = vr_step old c.args.input in
    let taken = subst (λ (a : Acting _). TakesStep a (vr_step a.work.state.vr c.args.input) c.take_step.new.self) (sym c.self.view_is) c.in_ok-take_step.ensures in
    let s = steps g.A.App.law kinds setup _ c.take_step.new.self c.args.input taken.vr taken.out inside taken.valid taken.did taken.takes in
    let upto = subst (λ (n : ℕ). ActsUpTo g.A.App.law n c.take_step.new.self kinds setup) (sym c.committed-before.ensures) s.acts in
    let folded = c.in_ok-processed.ensures.folds kinds setup upto in
    let d = c.fold_behind.new.self in
    let first = folded_does g.A.App.law kinds setup _ c.take_step.new.self d step s folded.1 c.in_ok-processed.ensures.work c.in_ok-processed.ensures.promise in
    let known = c.self-3.view_is in
    let is = ap (λ (w : Work). w.state.vr) first.work_is in
    let leading : true ≡ leads step.state = sym c.if-not-leads.false ∙ c.leads.ensures ∙ ap (λ (a : Acting _). leads a.work.state.vr) c.self-2.view_is ∙ ap (λ (w : Work). leads w.state.vr) s.work_is in
    let started = started_is old step.state c.has_started.result true c.leads-led.result c.view-view.result c.view.result c.has_started.ensures leading c.leads-led.ensures c.view-view.ensures
    (c.view.ensures ∙ ap (λ (a : Acting _). a.work.state.vr.view) known ∙ ap (λ (v : VrState). v.view) is) in
    let none = is_settling old step.state c.committed-before.result c.committed.result _ (sym leading) c.committed-before.ensures
    (c.committed.ensures ∙ ap (λ (a : Acting _). a.work.state.vr.commit) known ∙ ap (λ (v : VrState). v.commit) is) (le-ltb c.committed-before.result c.committed.result c.if-before-committed.false) in
    subst (λ (a : Acting _). (Works g.A.App.law kinds setup a (after_step kinds setup a.work.state (vr_step a.work.state.vr c.args.input)) d)) c.self.view_is
    (step_rests g.A.App.law kinds setup _ d step first (started ∙ c.if-has_started.false) none)
