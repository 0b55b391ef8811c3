use Rattle.std.proofs.Common.{false, refl, sym, subst}
use Rattle.std.proofs.lemmas.Result.{err_from_is_err_and}
use Rattle.journal.specs.Actors.{IsActor}
use Rattle.closing.specs.Closing.{CameTo, Drains}
use Rattle.journal.specs.declared.journal.Turn.TheVariants.{Draw}
use Rattle.closing.proofs.Leading.{turn_views}
use Rattle.closing.proofs.Worlds.{knows_itself}
use Rattle.closing.proofs.Moves.{first_is_picked}
use Rattle.closing.proofs.Stepping.{named, draw_cut, draw_leads, draw_up, draw_less}
use Rattle.closing.proofs.steps.draw_first.Goals as goal

pub returns-in_err-draw_first-clause-drains : goal.returns-in_err-draw_first-clause-drains
returns-in_err-draw_first-clause-drains g c =
    let law = g.A.App.law in
    let knows = knows_itself g.A.App.law in
    let sealing = g.B.Body.sealing in
    let p = err_from_is_err_and c.from_residual.result c.from_residual.ensures.1 in
    rw (p.1, p.2) (draw_cut law knows g.W.Stable.saving sealing c.args.world.now c.args.stables.now c.draw_first.new.self c.draw_first.new.stables c.requires.rests c.requires.pairs c.args.place c.requires.first c.lawful.ensures.addressed c.args.view c.args.quorum.now c.requires.drawn (CameTo (Drains c.args.view c.args.quorum.now)) c.in_err-draw_first.field-0.0 c.in_err-draw_first.ensures.keeps c.in_err-draw_first.ensures.stops)

pub came_at-requires-clause-holds : goal.came_at-requires-clause-holds
came_at-requires-clause-holds g c = (c.requires.holds.0, c.in_ok-draw_first.ensures.keeps.holds c.requires.holds.0 c.requires.holds.1)

pub came_at-requires-clause-named : goal.came_at-requires-clause-named
came_at-requires-clause-named g c =
    let law = g.A.App.law in
    let knows = knows_itself g.A.App.law in
    let sealing = g.B.Body.sealing in
    subst (λ s. IsActor s c.args.place.to) (sym c.in_ok-draw_first.ensures.keeps.setup) (named law knows g.W.Stable.saving sealing c.args.world.now c.args.stables.now c.draw_first.new.self c.draw_first.new.stables c.requires.rests c.requires.pairs c.args.place c.requires.first c.lawful.ensures.addressed)

pub returns-clause-drains : goal.returns-clause-drains
returns-clause-drains g c =
    let law = g.A.App.law in
    let knows = knows_itself g.A.App.law in
    let sealing = g.B.Body.sealing in
    draw_leads law knows g.W.Stable.saving sealing c.args.world.now c.args.stables.now c.draw_first.new.self c.draw_first.new.stables c.requires.rests c.requires.pairs c.args.place c.requires.first c.lawful.ensures.addressed c.args.view c.args.quorum.now c.requires.drawn c.in_ok-draw_first.ensures.applies c.in_ok-draw_first.ensures.keeps c.args.place.to refl c.came_at.result c.came_at.ensures

pub returns-clause-up : goal.returns-clause-up
returns-clause-up g c =
    let law = g.A.App.law in
    let knows = knows_itself g.A.App.law in
    let sealing = g.B.Body.sealing in
    draw_up law knows g.W.Stable.saving sealing c.args.world.now c.args.stables.now c.draw_first.new.self c.draw_first.new.stables c.requires.rests c.requires.pairs c.args.place c.requires.first c.lawful.ensures.addressed c.args.view c.args.quorum.now c.requires.drawn c.in_ok-draw_first.ensures.applies c.in_ok-draw_first.ensures.keeps c.requires.holds.0 c.requires.holds.1 c.requires.up c.args.place.to refl c.came_at.result c.came_at.ensures

pub returns-clause-less : goal.returns-clause-less
returns-clause-less g c =
    let law = g.A.App.law in
    let knows = knows_itself g.A.App.law in
    let sealing = g.B.Body.sealing in
    draw_less law knows g.W.Stable.saving sealing c.args.world.now c.args.stables.now c.draw_first.new.self c.draw_first.new.stables c.requires.rests c.requires.pairs c.args.place c.requires.first c.lawful.ensures.addressed c.in_ok-draw_first.ensures.applies c.lawful-2.ensures.within

pub returns-in_err-draw_first-clause-views : goal.returns-in_err-draw_first-clause-views
returns-in_err-draw_first-clause-views g c =
    turn_views g.B.Body.sealing.size (Draw c.args.place.to 0 false) c.args.world.now c.draw_first.new.self 0 c.requires.rests (λ most low. tt) c.draw_first.result c.draw_first.ensures.applies c.draw_first.ensures.stops

pub returns-clause-views : goal.returns-clause-views
returns-clause-views g c =
    turn_views g.B.Body.sealing.size (Draw c.args.place.to 0 false) c.args.world.now c.draw_first.new.self 0 c.requires.rests (λ most low. tt) c.draw_first.result c.draw_first.ensures.applies c.draw_first.ensures.stops

pub draw_first-requires-clause-found : goal.draw_first-requires-clause-found
draw_first-requires-clause-found g c = first_is_picked c.args.place c.args.world.now.journal c.requires.first
