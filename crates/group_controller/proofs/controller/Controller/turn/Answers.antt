use Rattle.std.proofs.Common.{rules, ◌∙◌, subst, sym}
use Rattle.group_controller.specs.Turns.{Controlling, letters_left, Restarts}
use Rattle.group_controller.proofs.Controlling.{turn_drops, turn_restarts}
use Rattle.group_controller.proofs.controller.Controller.turn.Goals as goal

pub returns-in_ok-restart-clause-turn : goal.returns-in_ok-restart-clause-turn
returns-in_ok-restart-clause-turn g c = λ kinds controls.
    let told = sym c.is_restart-restarts.ensures ∙ c.if-restarts.true in
    let released = c.release-then-restarts in
    turn_restarts g.A.App.law kinds c.args.self.now c.args.input released.result released.new.self (g.W.Stable.saving.pair c.args.stable.now) (g.W.Stable.saving.pair c.restart.new.stable) (g.W.Stable.saving.faults c.args.stable.now) (g.W.Stable.saving.faults c.restart.new.stable) (search rules) told
    (subst (λ l. Restarts c.args.self.now l released.new.self (g.W.Stable.saving.pair c.args.stable.now) (g.W.Stable.saving.pair c.restart.new.stable) (g.W.Stable.saving.faults c.args.stable.now) (g.W.Stable.saving.faults c.restart.new.stable)) (sym released.ensures.letters)
    (subst (λ (x : Controlling _). Restarts c.args.self.now (letters_left c.restart.new.self.acting) x (g.W.Stable.saving.pair c.args.stable.now) (g.W.Stable.saving.pair c.restart.new.stable) (g.W.Stable.saving.faults c.args.stable.now) (g.W.Stable.saving.faults c.restart.new.stable)) (sym released.ensures.rests) (c.in_ok-restart.ensures.turn kinds controls)))

pub returns-else-restarts-clause-turn : goal.returns-else-restarts-clause-turn
returns-else-restarts-clause-turn g c = λ kinds controls.
    turn_drops g.A.App.law kinds c.args.self.now c.args.input c.new.result _ _ (search rules) (sym c.is_restart-restarts.ensures ∙ c.if-restarts.false) c.new.ensures
