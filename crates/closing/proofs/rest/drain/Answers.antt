use Rattle.closing.specs.declared.closed.TurnOutcome.{TurnOutcome}
use Rattle.std.proofs.Common.{sym, ◌∙◌, subst, arith, Err}
use Rattle.std.proofs.lemmas.Result.{err_from_is_err_and}
use Rattle.world.specs.World.{scene_in}
use Rattle.closing.specs.Closing.{CameTo, Drained, Drains, LeadsTo, ClosingStandsAt, UpBy, up_in}
use Rattle.closing.proofs.Leading.{leads_then}
use Rattle.closing.proofs.Parts.{keeps_then, none_waits, not_over, over_came, views_then, same_stop}
use Rattle.closing.proofs.rest.drain.Goals as goal

pub drain_first-requires-clause-holds : goal.drain_first-requires-clause-holds
drain_first-requires-clause-holds g c = (c.requires.holds.0, c.draining.invariant.keeps.holds c.requires.holds.0 c.requires.holds.1)

pub returns-in_err-came-clause-keeps : goal.returns-in_err-came-clause-keeps
returns-in_err-came-clause-keeps g c =
    let law = g.A.App.law in
    let sealing = g.B.Body.sealing in
    keeps_then law g.W.Stable.saving sealing c.args.world.now c.draining.world c.drain_first.new.world c.args.stables.now c.draining.stables c.drain_first.new.stables c.draining.invariant.keeps c.in_err-came.ensures.keeps

pub returns-in_err-came-clause-drains : goal.returns-in_err-came-clause-drains
returns-in_err-came-clause-drains g c =
    let law = g.A.App.law in
    let sealing = g.B.Body.sealing in
    let p = err_from_is_err_and c.from_residual.result c.from_residual.ensures.1 in
    rw (p.1, p.2) (λ kinds holds start s.
    same_stop TurnOutcome TurnOutcome (CameTo (Drains c.args.view c.args.quorum.now)) (CameTo (Drained c.args.view c.args.quorum.now)) c.in_err-came.field-0.0 (scene_in sealing c.args.world.now kinds) start c.drain_first.new.world
    (leads_then law sealing (Drains c.args.view c.args.quorum.now) (Drains c.args.view c.args.quorum.now) (ClosingStandsAt (CameTo (Drains c.args.view c.args.quorum.now)) (Err c.in_err-came.field-0.0)) c.args.world.now c.draining.world c.drain_first.new.world c.draining.invariant.keeps.setup c.draining.invariant.keeps.holds c.draining.invariant.drains c.in_err-came.ensures.drains kinds holds start s))

pub returns-then-is_over-clause-keeps : goal.returns-then-is_over-clause-keeps
returns-then-is_over-clause-keeps g c =
    let law = g.A.App.law in
    let sealing = g.B.Body.sealing in
    keeps_then law g.W.Stable.saving sealing c.args.world.now c.draining.world c.drain_first.new.world c.args.stables.now c.draining.stables c.drain_first.new.stables c.draining.invariant.keeps c.in_ok-came.ensures.keeps

pub returns-then-is_over-clause-views : goal.returns-then-is_over-clause-views
returns-then-is_over-clause-views g c =
    views_then 0 0 c.args.world.now c.draining.world c.drain_first.new.world (omega arith) c.draining.invariant.views c.in_ok-came.ensures.views

pub returns-in_err-came-clause-views : goal.returns-in_err-came-clause-views
returns-in_err-came-clause-views g c =
    views_then 0 0 c.args.world.now c.draining.world c.drain_first.new.world (omega arith) c.draining.invariant.views c.in_err-came.ensures.views

pub returns-then-is_over-clause-drains : goal.returns-then-is_over-clause-drains
returns-then-is_over-clause-drains g c =
    let law = g.A.App.law in
    let sealing = g.B.Body.sealing in
    λ kinds holds start s.
    over_came (Drains c.args.view c.args.quorum.now) (Drained c.args.view c.args.quorum.now) c.in_ok-came.came (scene_in sealing c.args.world.now kinds) start c.drain_first.new.world (sym c.is_over.ensures ∙ c.if-is_over.true)
    (leads_then law sealing (Drains c.args.view c.args.quorum.now) (Drains c.args.view c.args.quorum.now) (CameTo (Drains c.args.view c.args.quorum.now) c.in_ok-came.came) c.args.world.now c.draining.world c.drain_first.new.world c.draining.invariant.keeps.setup c.draining.invariant.keeps.holds c.draining.invariant.drains c.in_ok-came.ensures.drains kinds holds start s)

pub draining-preserved : goal.draining-preserved
draining-preserved g c =
    let law = g.A.App.law in
    let sealing = g.B.Body.sealing in
    let rests = not_over c.in_ok-came.came (sym c.is_over.ensures ∙ c.if-is_over.false) in
    record {
      keeps = keeps_then law g.W.Stable.saving sealing c.args.world.now c.draining.world c.drain_first.new.world c.args.stables.now c.draining.stables c.drain_first.new.stables c.draining.invariant.keeps c.in_ok-came.ensures.keeps;
      owed = c.in_ok-came.ensures.rests;
      views = views_then 0 0 c.args.world.now c.draining.world c.drain_first.new.world (omega arith) c.draining.invariant.views c.in_ok-came.ensures.views;
      drains = leads_then law sealing (Drains c.args.view c.args.quorum.now) (Drains c.args.view c.args.quorum.now) (Drains c.args.view c.args.quorum.now) c.args.world.now c.draining.world c.drain_first.new.world c.draining.invariant.keeps.setup c.draining.invariant.keeps.holds c.draining.invariant.drains (subst (λ x. LeadsTo law sealing (Drains c.args.view c.args.quorum.now) (CameTo (Drains c.args.view c.args.quorum.now) x) c.draining.world c.drain_first.new.world) rests c.in_ok-came.ensures.drains);
      up = subst (λ x. UpBy x (up_in c.draining.world) (up_in c.drain_first.new.world)) rests c.in_ok-came.ensures.up ∙ c.draining.invariant.up;
    }

pub returns-clause-drains : goal.returns-clause-drains
returns-clause-drains g c =
    let law = g.A.App.law in
    let sealing = g.B.Body.sealing in
    λ kinds holds start s. (c.draining.invariant.drains kinds holds start s, none_waits c.draining.world.journal c.first.result c.first.ensures c.in_default.not-Some)
