use Rattle.std.proofs.lemmas.Option.{slice_get-get_or}
use Rattle.world.proofs.Acting.{switch_took, switch_wanted}
use Rattle.world.proofs.actors.switch_takes.Goals as goal

pub returns-clause-takes : goal.returns-clause-takes
returns-clause-takes c =
    switch_took c.args.switches.now c.args.number _ c.typed_turn.new.player
    (slice_get-get_or c.args.switches.now c.args.number c.index-switches-number.result c.requires) c.args.input c.typed_turn.result c.typed_turn.ensures.turned

pub returns-clause-wants : goal.returns-clause-wants
returns-clause-wants c =
    switch_wanted c.args.switches.now c.args.number _ c.typed_turn.new.player
    (slice_get-get_or c.args.switches.now c.args.number c.index-switches-number.result c.requires) c.typed_turn.result c.typed_turn.ensures.wanted
