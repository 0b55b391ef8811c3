use Rattle.std.proofs.lemmas.Option.{slice_get-get_or}
use Rattle.world.proofs.Acting.{controller_took, controller_wanted}
use Rattle.world.proofs.actors.controller_takes.Goals as goal

pub returns-clause-takes : goal.returns-clause-takes
returns-clause-takes g c =
    controller_took g.A.App.law g.W.Stable.saving c.args.controllers.now c.args.stables.now c.args.number
    _ c.typed_turn.new.player _ c.typed_turn.new.beside
    (slice_get-get_or c.args.controllers.now c.args.number c.index-controllers-number.result c.requires.there) (slice_get-get_or c.args.stables.now c.args.number c.index-stables-number.result c.requires.stable)
    c.args.input c.typed_turn.result c.typed_turn.ensures.turned

pub returns-clause-wants : goal.returns-clause-wants
returns-clause-wants g c =
    controller_wanted g.A.App.law g.W.Stable.saving c.args.controllers.now c.args.stables.now c.args.number
    _ c.typed_turn.new.player _ c.typed_turn.new.beside
    (slice_get-get_or c.args.controllers.now c.args.number c.index-controllers-number.result c.requires.there) (slice_get-get_or c.args.stables.now c.args.number c.index-stables-number.result c.requires.stable)
    c.typed_turn.result c.typed_turn.ensures.wanted
