use Rattle.std.proofs.Common.{subst}
use Rattle.journal.specs.declared.journal.Turn.TheVariants as turn
use Rattle.journal.specs.Actors.{IsActor}
use Rattle.journal.specs.Turns.{turn_actor}
use Rattle.world.proofs.Drawing.{loss_steps, none_taken, on_err}
use Rattle.world.proofs.Turning.{on_ok}
use Rattle.world.proofs.world.World.step.Goals as goal

pub returns-in-Lose-clause-steps : goal.returns-in-Lose-clause-steps
returns-in-Lose-clause-steps g c =
    let law = g.A.App.law in
    let sealing = g.B.Body.sealing in
    let named = subst (λ t. IsActor c.args.self.now.setup (turn_actor t)) c.in-Lose.is c.requires.named in
    rw c.in-Lose.is (on_ok c.enter_loss.result _ _ (λ is. loss_steps law g.W.Stable.saving sealing g.met.B.Body.faithful c.args.self.now c.args.stables.now c.requires.rests c.requires.holds c.requires.pairs c.in-Lose.actor c.in-Lose.choice named c.enter_loss.new.self is c.enter_loss.ensures.orderly) c.enter_loss.ensures.enters)

pub returns-in-Lose-clause-stops : goal.returns-in-Lose-clause-stops
returns-in-Lose-clause-stops g c =
    let law = g.A.App.law in
    let sealing = g.B.Body.sealing in
    rw c.in-Lose.is (on_err c.enter_loss.result _ _ (λ is. none_taken law g.W.Stable.saving sealing g.met.B.Body.faithful c.args.self.now c.args.stables.now c.requires.rests c.requires.holds c.requires.pairs (turn.Lose c.in-Lose.actor c.in-Lose.choice) c.enter_loss.new.self is) c.enter_loss.ensures.wants)
