use Rattle.std.proofs.Common.{◌∙◌, ap}
use Rattle.std.specs.Prelude.{flat_map}
use Rattle.std.proofs.lemmas.Result.{on_ok_weaker}
use Rattle.group_controller.specs.Acting.{answers_to, posts_letters}
use Rattle.dispatcher.specs.Few.{values_in}
use Rattle.group_controller.proofs.Settling.{answers_do, follow_does, refolded}
use Rattle.group_controller.proofs.active.Active.follow.Goals as goal

pub returns : goal.returns
returns g c = λ kinds setup acts.
    let folded = c.in_ok-processed.ensures.folds kinds setup acts in
    let f = c.fold_behind.new.self in
    let answered = c.in_ok-answer_each.ensures kinds setup folded.1 ∙ ap (λ l. posts_letters f (flat_map (answers_to kinds setup f.work.state) l)) c.as_slice.ensures in
    let first = refolded g.A.App.law kinds setup c.args.self.now f folded.1 c.in_ok-processed.ensures.work c.in_ok-processed.ensures.promise in
    let second = answers_do g.A.App.law kinds setup f c.answer_each.new.self c.args.before (values_in c.in_ok-processed.processed) folded.1 folded.0 answered in
    on_ok_weaker c.send_untold.result (λ third. follow_does g.A.App.law kinds setup c.args.self.now f c.answer_each.new.self c.send_untold.new.self c.args.before first second third) (c.send_untold.ensures kinds setup second.acts)
