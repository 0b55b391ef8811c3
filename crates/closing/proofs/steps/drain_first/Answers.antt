use Rattle.closing.specs.declared.closed.TurnOutcome.{TurnOutcome}
use Rattle.std.proofs.Common.{sym, ◌∙◌}
use Rattle.std.proofs.lemmas.Result.{err_from_is_err_and}
use Rattle.world.specs.World.{scene_in}
use Rattle.closing.specs.Closing.{CameTo, Drains}
use Rattle.closing.proofs.Parts.{same_stop}
use Rattle.closing.proofs.steps.drain_first.Goals as goal

pub returns-in_err-lose_first-clause-drains : goal.returns-in_err-lose_first-clause-drains
returns-in_err-lose_first-clause-drains g c =
    let sealing = g.B.Body.sealing in
    let p = err_from_is_err_and c.from_residual.result c.from_residual.ensures.1 in
    rw (p.1, p.2) (λ kinds holds start s.
    same_stop (Unit {0}) TurnOutcome (λ _. Drains c.args.view c.args.quorum.now) (CameTo (Drains c.args.view c.args.quorum.now)) c.in_err-lose_first.field-0.0 (scene_in sealing c.args.world.now kinds) start c.lose_first.new.world
    (c.in_err-lose_first.ensures.drains c.args.view c.args.quorum.now (sym c.is_drawn.ensures ∙ c.if-is_drawn.false) kinds holds start s))

pub returns-clause-drains : goal.returns-clause-drains
returns-clause-drains g c =
    c.in_ok-lose_first.ensures.drains c.args.view c.args.quorum.now (sym c.is_drawn.ensures ∙ c.if-is_drawn.false)
