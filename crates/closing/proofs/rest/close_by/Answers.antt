use Rattle.std.proofs.Common.{sym, ◌∙◌, subst, arith}
use Rattle.closing.specs.Closing.{CameTo, Drained, Drains, LeadsTo, ClosingStandsAt, Suspects}
use Rattle.closing.proofs.Leading.{leads_then}
use Rattle.closing.proofs.Parts.{keeps_then, not_over, views_then}
use Rattle.closing.proofs.rest.close_by.Goals as goal

pub drain-requires-clause-holds : goal.drain-requires-clause-holds
drain-requires-clause-holds g c = (c.requires.holds.0, c.in_ok-came.ensures.keeps.holds c.requires.holds.0 c.requires.holds.1)

pub returns-clause-keeps : goal.returns-clause-keeps
returns-clause-keeps g c =
    let law = g.A.App.law in
    let sealing = g.B.Body.sealing in
    keeps_then law g.W.Stable.saving sealing c.args.world.now c.suspect.new.world c.drain.new.world c.args.stables.now c.suspect.new.stables c.drain.new.stables c.in_ok-came.ensures.keeps c.drain.ensures.keeps

pub returns-clause-views : goal.returns-clause-views
returns-clause-views g c = views_then c.args.view 0 c.args.world.now c.suspect.new.world c.drain.new.world (omega arith) c.in_ok-came.ensures.views c.drain.ensures.views

pub returns-clause-closes : goal.returns-clause-closes
returns-clause-closes g c =
    let law = g.A.App.law in
    let sealing = g.B.Body.sealing in
    let rests = not_over c.in_ok-came.came (sym c.is_over.ensures ∙ c.if-is_over.false) in
    leads_then law sealing (Suspects c.args.view c.args.quorum.now c.args.quorum.now) (Drains c.args.view c.args.quorum.now) (ClosingStandsAt (CameTo (Drained c.args.view c.args.quorum.now)) c.drain.result) c.args.world.now c.suspect.new.world c.drain.new.world c.in_ok-came.ensures.keeps.setup c.in_ok-came.ensures.keeps.holds
    (subst (λ x. LeadsTo law sealing (Suspects c.args.view c.args.quorum.now c.args.quorum.now) (CameTo (Drains c.args.view c.args.quorum.now) x) c.args.world.now c.suspect.new.world) rests c.in_ok-came.ensures.suspects) c.drain.ensures.drains
