use Rattle.std.proofs.Common.{subst}
use Rattle.journal.specs.declared.journal.Turn.TheVariants as turn
use Rattle.journal.specs.Places.{IsFound}
use Rattle.journal.specs.Pool.{past, pick}
use Rattle.world.proofs.Drawing.{none_taken, nothing_steps, on_err}
use Rattle.world.proofs.Turning.{on_ok}
use Rattle.world.proofs.world.World.draw.Goals as goal

pub returns-in_default-clause-steps : goal.returns-in_default-clause-steps
returns-in_default-clause-steps g c =
    let law = g.A.App.law in
    let sealing = g.B.Body.sealing in
    let found = subst (λ o. IsFound c.args.self.now.journal o (pick c.args.actor c.args.choice (past c.args.self.now.journal))) c.in_default.is c.look.ensures in
    on_ok c.enter.result _ _ (λ is. nothing_steps law g.W.Stable.saving sealing g.met.B.Body.faithful c.args.self.now c.args.stables.now c.requires.rests c.requires.holds c.requires.pairs c.args.actor c.args.choice c.args.keep found c.requires.named c.enter.new.self is c.enter.ensures.orderly) c.enter.ensures.enters

pub returns-in_default-clause-stops : goal.returns-in_default-clause-stops
returns-in_default-clause-stops g c =
    let law = g.A.App.law in
    let sealing = g.B.Body.sealing in
    on_err c.enter.result _ _ (λ is. none_taken law g.W.Stable.saving sealing g.met.B.Body.faithful c.args.self.now c.args.stables.now c.requires.rests c.requires.holds c.requires.pairs (turn.Draw c.args.actor c.args.choice c.args.keep) c.enter.new.self is) c.enter.ensures.wants

pub draw_place-requires-clause-found : goal.draw_place-requires-clause-found
draw_place-requires-clause-found g c = subst (λ o. IsFound c.args.self.now.journal o (pick c.args.actor c.args.choice (past c.args.self.now.journal))) c.in-Some.is c.look.ensures
