use Rattle.std.proofs.Common.{inl, inr, ◌∙◌, subst, sym}
use Rattle.std.proofs.lemmas.Result.{on_ok_weaker}
use Rattle.dispatcher.specs.Ledger.{StandsFor}
use Rattle.group_controller.specs.Acting.{Acting}
use Rattle.group_controller.specs.State.{committed}
use Rattle.group_controller.proofs.Finishing.{settled_follows}
use Rattle.group_controller.proofs.Settling.{finish_last, finish_more, finish_rests}
use Rattle.group_controller.proofs.active.Active.+finish.Goals.{then-more-eq0-via-then-more-eq0, then-more-eq0-via-else-more-eq0+then-not-is_settled}
use Rattle.group_controller.proofs.active.Active.+finish.Goals as goal

pub returns-then-more-eq0 : goal.returns-then-more-eq0
returns-then-more-eq0 g n c = λ kinds setup acts. elim c.then-more-eq0.branch [
  | then-more-eq0-via-then-more-eq0 w ↦ finish_rests g.A.App.law kinds setup c.args.self.now c.args.more acts (inl w.if-more-eq0.true)
  | then-more-eq0-via-else-more-eq0+then-not-is_settled w ↦ finish_rests g.A.App.law kinds setup c.args.self.now c.args.more acts (inr (sym (w.is_settled.ensures kinds setup acts) ∙ w.if-not-is_settled.true))
]

pub propose-requires-clause-follows : goal.propose-requires-clause-follows
propose-requires-clause-follows g n c =
    let kinds = c.requires.acts.0 in
    let setup = c.requires.acts.1 in
    let acts = c.requires.acts.2 in
    let now = c.args.self.now in
    let stands = subst (λ (a : Acting _). StandsFor g.A.App.law a.dispatcher kinds setup (committed now.work.state)) (sym c.self.view_is) acts.stands in
    settled_follows kinds setup now.work.state c.processed-place.result (c.processed-place.ensures kinds setup (committed now.work.state) stands) (sym (c.is_settled.ensures kinds setup acts) ∙ c.if-not-is_settled.false)

pub returns-then-branch : goal.returns-then-branch
returns-then-branch g n c = λ kinds setup acts.
    let now = c.args.self.now in
    let stands = subst (λ (a : Acting _). StandsFor g.A.App.law a.dispatcher kinds setup (committed now.work.state)) (sym c.self.view_is) acts.stands in
    let p = c.in_ok-propose.ensures kinds setup acts in
    on_ok_weaker c.finish.result
    (λ rest. finish_more g.A.App.law kinds setup now c.propose.new.self c.finish.new.self c.args.more c.processed-place.result (c.processed-place.ensures kinds setup (committed now.work.state) stands) c.if-more-eq0.false
    (sym (c.is_settled.ensures kinds setup acts) ∙ c.if-not-is_settled.false) (sym p.0 ∙ c.if-branch.true) p.1 rest)
    (c.finish.ensures kinds setup p.1.acts)

pub returns-else-branch : goal.returns-else-branch
returns-else-branch g n c = λ kinds setup acts.
    let now = c.args.self.now in
    let stands = subst (λ (a : Acting _). StandsFor g.A.App.law a.dispatcher kinds setup (committed now.work.state)) (sym c.self.view_is) acts.stands in
    let p = c.in_ok-propose.ensures kinds setup acts in
    finish_last g.A.App.law kinds setup now c.propose.new.self c.args.more c.processed-place.result (c.processed-place.ensures kinds setup (committed now.work.state) stands) c.if-more-eq0.false
    (sym (c.is_settled.ensures kinds setup acts) ∙ c.if-not-is_settled.false) (sym p.0 ∙ c.if-branch.false) p.1
