use Rattle.closing.specs.declared.closed.TurnOutcome.{TurnOutcome}
use Rattle.std.proofs.Common.{◌+◌, drop, sym, ◌∙◌, subst, arith, Err}
use Rattle.std.proofs.lemmas.Result.{err_from_is_err_and}
use Rattle.world.specs.World.{scene_in}
use Rattle.closing.specs.Closing.{CameTo, Drains, LeadsTo, ClosingStandsAt, Suspects, UpBy, up_in}
use Rattle.std.proofs.lemmas.List.{drop_all}
use Rattle.closing.proofs.Lists.{drop_at}
use Rattle.closing.proofs.Leading.{leads_then}
use Rattle.closing.proofs.Parts.{keeps_then, not_over, over_came, views_then, same_stop}
use Rattle.closing.proofs.rest.suspect.Goals as goal

pub suspect_next-requires-clause-holds : goal.suspect_next-requires-clause-holds
suspect_next-requires-clause-holds g c = (c.requires.holds.0, c.suspecting.invariant.keeps.holds c.requires.holds.0 c.requires.holds.1)

pub returns-in_err-came-clause-keeps : goal.returns-in_err-came-clause-keeps
returns-in_err-came-clause-keeps g c =
    let law = g.A.App.law in
    let sealing = g.B.Body.sealing in
    keeps_then law g.W.Stable.saving sealing c.args.world.now c.suspecting.world c.suspect_next.new.world c.args.stables.now c.suspecting.stables c.suspect_next.new.stables c.suspecting.invariant.keeps c.in_err-came.ensures.keeps

pub returns-in_err-came-clause-suspects : goal.returns-in_err-came-clause-suspects
returns-in_err-came-clause-suspects g c =
    let law = g.A.App.law in
    let sealing = g.B.Body.sealing in
    let p = err_from_is_err_and c.from_residual.result c.from_residual.ensures.1 in
    let behind = drop (c.suspecting.number-index + 1) c.args.quorum.now in
    let step = subst (λ l. LeadsTo law sealing (Suspects c.args.view c.args.quorum.now l) (ClosingStandsAt (CameTo (Suspects c.args.view c.args.quorum.now behind)) (Err c.in_err-came.field-0.0)) c.suspecting.world c.suspect_next.new.world) (sym (drop_at c.args.quorum.now c.suspecting.number-index c.suspecting-test.true)) (c.in_err-came.ensures.suspects c.args.quorum.now behind) in
    rw (p.1, p.2) (λ kinds holds start s.
    same_stop TurnOutcome TurnOutcome (CameTo (Suspects c.args.view c.args.quorum.now behind)) (CameTo (Drains c.args.view c.args.quorum.now)) c.in_err-came.field-0.0 (scene_in sealing c.args.world.now kinds) start c.suspect_next.new.world
    (leads_then law sealing (Suspects c.args.view c.args.quorum.now c.args.quorum.now) (Suspects c.args.view c.args.quorum.now (drop c.suspecting.number-index c.args.quorum.now)) (ClosingStandsAt (CameTo (Suspects c.args.view c.args.quorum.now behind)) (Err c.in_err-came.field-0.0)) c.args.world.now c.suspecting.world c.suspect_next.new.world c.suspecting.invariant.keeps.setup c.suspecting.invariant.keeps.holds c.suspecting.invariant.suspects step kinds holds start s))

pub returns-then-is_over-clause-keeps : goal.returns-then-is_over-clause-keeps
returns-then-is_over-clause-keeps g c =
    let law = g.A.App.law in
    let sealing = g.B.Body.sealing in
    keeps_then law g.W.Stable.saving sealing c.args.world.now c.suspecting.world c.suspect_next.new.world c.args.stables.now c.suspecting.stables c.suspect_next.new.stables c.suspecting.invariant.keeps c.in_ok-came.ensures.keeps

pub returns-then-is_over-clause-views : goal.returns-then-is_over-clause-views
returns-then-is_over-clause-views g c =
    views_then c.args.view c.args.view c.args.world.now c.suspecting.world c.suspect_next.new.world (omega arith) c.suspecting.invariant.views c.in_ok-came.ensures.views

pub returns-in_err-came-clause-views : goal.returns-in_err-came-clause-views
returns-in_err-came-clause-views g c =
    views_then c.args.view c.args.view c.args.world.now c.suspecting.world c.suspect_next.new.world (omega arith) c.suspecting.invariant.views c.in_err-came.ensures.views

pub returns-then-is_over-clause-suspects : goal.returns-then-is_over-clause-suspects
returns-then-is_over-clause-suspects g c =
    let law = g.A.App.law in
    let sealing = g.B.Body.sealing in
    let behind = drop (c.suspecting.number-index + 1) c.args.quorum.now in
    let step = subst (λ l. LeadsTo law sealing (Suspects c.args.view c.args.quorum.now l) (CameTo (Suspects c.args.view c.args.quorum.now behind) c.in_ok-came.came) c.suspecting.world c.suspect_next.new.world) (sym (drop_at c.args.quorum.now c.suspecting.number-index c.suspecting-test.true)) (c.in_ok-came.ensures.suspects c.args.quorum.now behind) in
    λ kinds holds start s.
    over_came (Suspects c.args.view c.args.quorum.now behind) (Drains c.args.view c.args.quorum.now) c.in_ok-came.came (scene_in sealing c.args.world.now kinds) start c.suspect_next.new.world (sym c.is_over.ensures ∙ c.if-is_over.true)
    (leads_then law sealing (Suspects c.args.view c.args.quorum.now c.args.quorum.now) (Suspects c.args.view c.args.quorum.now (drop c.suspecting.number-index c.args.quorum.now)) (CameTo (Suspects c.args.view c.args.quorum.now behind) c.in_ok-came.came) c.args.world.now c.suspecting.world c.suspect_next.new.world c.suspecting.invariant.keeps.setup c.suspecting.invariant.keeps.holds c.suspecting.invariant.suspects step kinds holds start s)

pub suspecting-preserved : goal.suspecting-preserved
suspecting-preserved g c =
    let law = g.A.App.law in
    let sealing = g.B.Body.sealing in
    let rests = not_over c.in_ok-came.came (sym c.is_over.ensures ∙ c.if-is_over.false) in
    let behind = drop (c.suspecting.number-index + 1) c.args.quorum.now in
    let step = subst (λ l. LeadsTo law sealing (Suspects c.args.view c.args.quorum.now l) (CameTo (Suspects c.args.view c.args.quorum.now behind) c.in_ok-came.came) c.suspecting.world c.suspect_next.new.world) (sym (drop_at c.args.quorum.now c.suspecting.number-index c.suspecting-test.true)) (c.in_ok-came.ensures.suspects c.args.quorum.now behind) in
    record {
      keeps = keeps_then law g.W.Stable.saving sealing c.args.world.now c.suspecting.world c.suspect_next.new.world c.args.stables.now c.suspecting.stables c.suspect_next.new.stables c.suspecting.invariant.keeps c.in_ok-came.ensures.keeps;
      owed = c.in_ok-came.ensures.rests;
      views = views_then c.args.view c.args.view c.args.world.now c.suspecting.world c.suspect_next.new.world (omega arith) c.suspecting.invariant.views c.in_ok-came.ensures.views;
      suspects = leads_then law sealing (Suspects c.args.view c.args.quorum.now c.args.quorum.now) (Suspects c.args.view c.args.quorum.now (drop c.suspecting.number-index c.args.quorum.now)) (Suspects c.args.view c.args.quorum.now behind) c.args.world.now c.suspecting.world c.suspect_next.new.world c.suspecting.invariant.keeps.setup c.suspecting.invariant.keeps.holds c.suspecting.invariant.suspects (subst (λ x. LeadsTo law sealing (Suspects c.args.view c.args.quorum.now (drop c.suspecting.number-index c.args.quorum.now)) (CameTo (Suspects c.args.view c.args.quorum.now behind) x) c.suspecting.world c.suspect_next.new.world) rests step);
      up = subst (λ x. UpBy x (up_in c.suspecting.world) (up_in c.suspect_next.new.world)) rests c.in_ok-came.ensures.up ∙ c.suspecting.invariant.up;
    }

pub returns-clause-suspects : goal.returns-clause-suspects
returns-clause-suspects g c =
    let law = g.A.App.law in
    let sealing = g.B.Body.sealing in
    λ kinds holds start s.
    let last = c.suspecting-test.false in
    let none = drop_all c.suspecting.number-index c.args.quorum.now (omega (arith, last)) in
    let done = subst (λ l. LeadsTo law sealing (Suspects c.args.view c.args.quorum.now c.args.quorum.now) (Suspects c.args.view c.args.quorum.now l) c.args.world.now c.suspecting.world) none c.suspecting.invariant.suspects kinds holds start s in
    record { phase = done.phase; closes = done.closes; next = done.next }
