use Rattle.std.proofs.Common.{subst}
use Rattle.journal.specs.declared.journal.Turn.TheVariants as turn
use Rattle.journal.specs.Turns.{turn_entries}
use Rattle.shared_wire.specs.Calls.{Adds}
use Rattle.running.proofs.Going.{loses_on}
use Rattle.running.proofs.next.loses.Goals as goal

pub returns-clause-ok : goal.returns-clause-ok
returns-clause-ok g c =
    loses_on g.B.Body.sealing g.P.Player.hears g.P.Player.locally c.args.place.now c.lose.new.place c.args.owed.now c.args.choice
    (subst (λ z. Adds c.args.place.now c.lose.new.place (turn_entries z c.args.owed.now (turn.Lose c.args.place.now.actor c.args.choice))) g.met.B.Body.weighed c.in_ok-lose.ensures.ok)
