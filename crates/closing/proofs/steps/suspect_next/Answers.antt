use Rattle.std.proofs.Common.{◌<◌, sym, subst}
use Rattle.std.proofs.lemmas.Result.{err_from_is_err_and}
use Rattle.world.specs.World.{scene_in}
use Rattle.closing.specs.Closing.{CameTo, Suspects}
use Rattle.journal.specs.declared.journal.Actor.TheVariants.{Controller}
use Rattle.journal.specs.declared.journal.Local.TheVariants.{Suspect}
use Rattle.journal.specs.declared.journal.Turn.TheVariants.{Local}
use Rattle.closing.proofs.Leading.{turn_views}
use Rattle.closing.proofs.Worlds.{knows_itself, up_within}
use Rattle.closing.proofs.Stepping.{suspect_cut, suspect_leads, suspect_up}
use Rattle.closing.proofs.steps.suspect_next.Goals as goal

pub take-requires-clause-named : goal.take-requires-clause-named
take-requires-clause-named g c =
    let law = g.A.App.law in
    let knows = knows_itself g.A.App.law in
    let sealing = g.B.Body.sealing in
    up_within law (scene_in sealing c.args.world.now c.requires.holds.0) c.args.world.now c.requires.holds.1.run (λ x h. knows x c.requires.holds.0 h) c.args.number c.requires.up

pub returns-in_err-take-clause-suspects : goal.returns-in_err-take-clause-suspects
returns-in_err-take-clause-suspects g c =
    let law = g.A.App.law in
    let knows = knows_itself g.A.App.law in
    let sealing = g.B.Body.sealing in
    let p = err_from_is_err_and c.from_residual.result c.from_residual.ensures.1 in
    let there = up_within law (scene_in sealing c.args.world.now c.requires.holds.0) c.args.world.now c.requires.holds.1.run (λ x h. knows x c.requires.holds.0 h) c.args.number c.requires.up in
    λ quorum members. rw (p.1, p.2) (suspect_cut law knows g.W.Stable.saving sealing c.args.world.now c.args.stables.now c.take.new.self c.take.new.stables c.requires.rests c.requires.pairs c.args.view c.args.number there quorum members (CameTo (Suspects c.args.view quorum members)) c.in_err-take.field-0.0 c.in_err-take.ensures.keeps c.in_err-take.ensures.stops)

pub came_at-requires-clause-holds : goal.came_at-requires-clause-holds
came_at-requires-clause-holds g c = (c.requires.holds.0, c.in_ok-take.ensures.keeps.holds c.requires.holds.0 c.requires.holds.1)

pub came_at-requires-clause-named : goal.came_at-requires-clause-named
came_at-requires-clause-named g c =
    let law = g.A.App.law in
    let knows = knows_itself g.A.App.law in
    let sealing = g.B.Body.sealing in
    subst (λ s. c.args.number < s.controllers) (sym c.in_ok-take.ensures.keeps.setup) (up_within law (scene_in sealing c.args.world.now c.requires.holds.0) c.args.world.now c.requires.holds.1.run (λ x h. knows x c.requires.holds.0 h) c.args.number c.requires.up)

pub returns-clause-suspects : goal.returns-clause-suspects
returns-clause-suspects g c =
    let law = g.A.App.law in
    let knows = knows_itself g.A.App.law in
    let sealing = g.B.Body.sealing in
    let there = up_within law (scene_in sealing c.args.world.now c.requires.holds.0) c.args.world.now c.requires.holds.1.run (λ x h. knows x c.requires.holds.0 h) c.args.number c.requires.up in
    λ quorum members. suspect_leads law knows g.W.Stable.saving sealing c.args.world.now c.args.stables.now c.take.new.self c.take.new.stables c.requires.rests c.requires.pairs c.args.view c.args.number there c.in_ok-take.ensures.applies c.in_ok-take.ensures.keeps c.came_at.result c.came_at.ensures quorum members

pub returns-clause-up : goal.returns-clause-up
returns-clause-up g c =
    let law = g.A.App.law in
    let knows = knows_itself g.A.App.law in
    let sealing = g.B.Body.sealing in
    let there = up_within law (scene_in sealing c.args.world.now c.requires.holds.0) c.args.world.now c.requires.holds.1.run (λ x h. knows x c.requires.holds.0 h) c.args.number c.requires.up in
    suspect_up law knows g.W.Stable.saving sealing c.args.world.now c.args.stables.now c.take.new.self c.take.new.stables c.requires.rests c.requires.pairs c.args.view c.args.number there c.in_ok-take.ensures.applies c.in_ok-take.ensures.keeps c.came_at.result c.came_at.ensures c.requires.holds.0 c.requires.holds.1 c.requires.up

pub returns-in_err-take-clause-views : goal.returns-in_err-take-clause-views
returns-in_err-take-clause-views g c =
    turn_views g.B.Body.sealing.size (Local (Controller c.args.number) (Suspect c.args.view)) c.args.world.now c.take.new.self c.args.view c.requires.rests (λ most low. low) c.take.result c.take.ensures.applies c.take.ensures.stops

pub returns-clause-views : goal.returns-clause-views
returns-clause-views g c =
    turn_views g.B.Body.sealing.size (Local (Controller c.args.number) (Suspect c.args.view)) c.args.world.now c.take.new.self c.args.view c.requires.rests (λ most low. low) c.take.result c.take.ensures.applies c.take.ensures.stops
