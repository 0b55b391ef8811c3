use Rattle.std.proofs.Common.{◌∙◌, ℕ, subst, sym, ap}
use Rattle.std.specs.Prelude.{None, Option}
use Rattle.std.proofs.lemmas.Result.{on_ok_weaker}
use Rattle.group_controller.specs.Turns.{Controlling, TakesInput}
use Rattle.group_controller.proofs.Controlling.{act_crashed, act_saved, act_unsaved}
use Rattle.group_controller.proofs.controller.Controller.act.Goals as goal

pub returns-then-crashes-clause-turn : goal.returns-then-crashes-clause-turn
returns-then-crashes-clause-turn g c = λ kinds controls.
    act_crashed g.A.App.law kinds c.args.self.now c.stop-then-crashes.new.self c.args.input _ _ c.requires.awake controls (sym c.is_crash-crashes.ensures ∙ c.if-crashes.true)
    (c.stop-then-crashes.ensures ∙ ap (λ (x : Controlling _). record x { acting = None }) c.in-Ok.ensures.only)

pub returns-in-Some-clause-turn : goal.returns-in-Some-clause-turn
returns-in-Some-clause-turn g c = λ kinds controls.
    let law = g.A.App.law in
    let off = sym c.is_crash-crashes.ensures ∙ c.if-crashes.false in
    let takes = subst (λ (o : Option ℕ). TakesInput law kinds c.args.input o c.args.self.now c.take.new.self) c.in-Some.is (c.in-Ok.ensures.takes kinds controls off) in
    on_ok_weaker c.save_promise.result (λ k. act_saved law kinds c.args.self.now c.take.new.self c.save_promise.new.self c.args.input c.in-Some.promise _ _ _ _ controls takes k) c.save_promise.ensures.saves

pub returns-in-None-clause-turn : goal.returns-in-None-clause-turn
returns-in-None-clause-turn g c = λ kinds controls.
    let law = g.A.App.law in
    let off = sym c.is_crash-crashes.ensures ∙ c.if-crashes.false in
    let takes = subst (λ (o : Option ℕ). TakesInput law kinds c.args.input o c.args.self.now c.take.new.self) c.in-None.is (c.in-Ok.ensures.takes kinds controls off) in
    act_unsaved law kinds c.args.self.now c.take.new.self c.args.input _ _ controls takes
