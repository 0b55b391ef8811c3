use Rattle.std.proofs.Common.{rules, ◌∙◌, ◌∷◌, [], not, ap, sym}
use Rattle.dispatcher.specs.Marks.{is_confirmed}
use Rattle.group_controller.specs.Acting.{Acting, posts_letters}
use Rattle.group_controller.specs.Settling.{role_letter}
use Rattle.group_controller.proofs.Acting.{asked_all, asked_no, asked_yes}
use Rattle.group_controller.proofs.active.Active.ask_unconfirmed.Goals.{then-not-confirmed+in_ok-post, else-not-confirmed}
use Rattle.group_controller.proofs.active.Active.ask_unconfirmed.Goals as goal

pub switches-preserved : goal.switches-preserved
switches-preserved g c =
    let start = c.args.self.now in
    let view = start.work.state.vr.view in
    let known = c.self-in-switches.view_is ∙ c.switches.invariant in
    let confirmed = c.confirmed.ensures ∙ ap (λ (a : Acting _). is_confirmed a.dispatcher.marks c.switches.switch) known in
    elim c.if-not-confirmed.branch [
      | then-not-confirmed+in_ok-post w ↦
          asked_yes (λ s. not (is_confirmed start.dispatcher.marks s)) start c.switches.self c.if-not-confirmed.self view c.switches.switch (ap not (sym confirmed ∙ w.if-not-confirmed.true)) c.switches.invariant
          (w.self-is ∙ w.in_ok-post.ensures
          ∙ ap (λ l. posts_letters c.switches.self l) (w.role_letter.ensures ∙ ap (λ n. role_letter n c.switches.switch ∷ []) (w.view-view.ensures ∙ ap (λ (a : Acting _). a.work.state.vr.view) known)))
      | else-not-confirmed w ↦
          w.self-is ∙ asked_no (λ s. not (is_confirmed start.dispatcher.marks s)) start c.switches.self view c.switches.switch (ap not (sym confirmed ∙ w.if-not-confirmed.false)) c.switches.invariant
    ]

pub returns : goal.returns
returns g c = λ kinds setup acts.
    asked_all g.A.App.law kinds setup c.args.self.now c.switches.self c.switches-switch-end.result acts (c.switches-switch-end.ensures ∙ ap (λ (a : Acting _). a.dispatcher.switches) c.self.view_is) (search rules)
