use Rattle.journal.specs.declared.journal.Turn.TheVariants.{Lose}
use Rattle.closing.proofs.Leading.{turn_views}
use Rattle.closing.proofs.Worlds.{knows_itself}
use Rattle.closing.proofs.Stepping.{lose_closes, lose_drains, lose_up, lose_less}
use Rattle.closing.proofs.steps.lose_first.Goals as goal

pub returns-clause-closes : goal.returns-clause-closes
returns-clause-closes g c =
    let law = g.A.App.law in
    let knows = knows_itself g.A.App.law in
    let sealing = g.B.Body.sealing in
    lose_closes law knows g.W.Stable.saving sealing c.args.world.now c.args.stables.now c.take-result.new.self c.take-result.new.stables c.requires.rests c.requires.pairs c.args.place c.requires.first c.lawful.ensures.addressed c.take-result.result c.take-result.ensures.applies c.take-result.ensures.keeps c.take-result.ensures.stops

pub returns-clause-drains : goal.returns-clause-drains
returns-clause-drains g c =
    let law = g.A.App.law in
    let knows = knows_itself g.A.App.law in
    let sealing = g.B.Body.sealing in
    λ view quorum drawn. lose_drains law knows g.W.Stable.saving sealing c.args.world.now c.args.stables.now c.take-result.new.self c.take-result.new.stables c.requires.rests c.requires.pairs c.args.place c.requires.first c.lawful.ensures.addressed view quorum drawn c.take-result.result c.take-result.ensures.applies c.take-result.ensures.keeps c.take-result.ensures.stops

pub returns-clause-up : goal.returns-clause-up
returns-clause-up g c =
    let law = g.A.App.law in
    let knows = knows_itself g.A.App.law in
    let sealing = g.B.Body.sealing in
    lose_up law knows g.W.Stable.saving sealing c.args.world.now c.args.stables.now c.take-result.new.self c.take-result.new.stables c.requires.rests c.requires.pairs c.args.place c.requires.first c.lawful.ensures.addressed c.requires.holds.0 c.requires.holds.1 c.take-result.result c.take-result.ensures.applies c.take-result.ensures.keeps

pub returns-clause-less : goal.returns-clause-less
returns-clause-less g c =
    let law = g.A.App.law in
    let knows = knows_itself g.A.App.law in
    let sealing = g.B.Body.sealing in
    lose_less law knows g.W.Stable.saving sealing c.args.world.now c.args.stables.now c.take-result.new.self c.take-result.new.stables c.requires.rests c.requires.pairs c.args.place c.requires.first c.lawful.ensures.addressed c.take-result.result c.take-result.ensures.applies c.lawful-2.ensures.within

pub returns-clause-views : goal.returns-clause-views
returns-clause-views g c =
    turn_views g.B.Body.sealing.size (Lose c.args.place.to 0) c.args.world.now c.take-result.new.self 0 c.requires.rests (λ most low. tt) c.take-result.result c.take-result.ensures.applies c.take-result.ensures.stops
