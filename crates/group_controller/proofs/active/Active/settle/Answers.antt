use Rattle.std.proofs.lemmas.Result.{on_ok_weaker}
use Rattle.group_controller.proofs.Settling.{answers_do, settle_does}
use Rattle.group_controller.proofs.active.Active.settle.Goals as goal

pub returns : goal.returns
returns g c = λ kinds setup acts before new.
    let first = answers_do g.A.App.law kinds setup c.args.self.now c.answer_each.new.self before c.args.processed.now acts new (c.in_ok-answer_each.ensures kinds setup acts) in
    let second = c.in_ok-send_untold.ensures kinds setup first.acts in
    on_ok_weaker c.finish_all.result (λ third. settle_does g.A.App.law kinds setup c.args.self.now c.answer_each.new.self c.send_untold.new.self c.finish_all.new.self before first second third) (c.finish_all.ensures kinds setup second.acts)
