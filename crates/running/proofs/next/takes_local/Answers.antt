use Rattle.std.proofs.Common.{◌∙◌, ap, subst}
use Rattle.journal.specs.declared.journal.Turn.TheVariants as turn
use Rattle.journal.specs.Turns.{turn_entries}
use Rattle.shared_wire.specs.Calls.{Adds}
use Rattle.running.proofs.Going.{local_on}
use Rattle.running.proofs.next.takes_local.Goals as goal

pub returns-clause-ok : goal.returns-clause-ok
returns-clause-ok g c =
    local_on g.B.Body.sealing g.P.Player.hears g.P.Player.locally c.args.place.now c.local.new.place c.args.owed.now c.args.input.now c.take_local-mine.result c.fits_types.ensures
    (c.take_local-mine.ensures ∙ ap g.P.Player.locally c.in_ok-copy.ensures)
    (subst (λ z. Adds c.args.place.now c.local.new.place (turn_entries z c.args.owed.now (turn.Local c.args.place.now.actor c.args.input.now))) g.met.B.Body.weighed
    (subst (λ i. Adds c.args.place.now c.local.new.place (turn_entries g.B.Weight.size c.args.owed.now (turn.Local c.args.place.now.actor i))) c.in_ok-its.ensures c.in_ok-local.ensures.ok))
