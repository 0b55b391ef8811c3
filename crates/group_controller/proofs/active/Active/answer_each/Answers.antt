use Rattle.std.proofs.Common.{rules, ◌∙◌, ap}
use Rattle.group_controller.specs.Acting.{Acting, answers_to, posts_letters}
use Rattle.group_controller.proofs.Acting.{answered, posts_acts}
use Rattle.group_controller.proofs.active.Active.answer_each.Goals as goal

pub processed-preserved : goal.processed-preserved
processed-preserved g c = λ kinds setup acts.
    let before = c.processed.invariant kinds setup acts in
    let now = posts_acts g.A.App.law kinds setup _ _ _ acts before in
    answered g.A.App.law kinds setup (answers_to kinds setup c.args.self.now.work.state) c.args.self.now c.processed.self c.answer.new.self c.args.processed.now c.processed.handled-index c.handled-item.result
    (search rules) (search rules) before (c.in_ok-answer.ensures kinds setup now ∙ ap (λ (a : Acting _). posts_letters c.processed.self (answers_to kinds setup a.work.state c.handled-item.result)) before)
