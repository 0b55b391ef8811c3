use Rattle.std.proofs.Common.{refl}
use Rattle.dispatcher.proofs.Rooms.{room_at_first}
use Rattle.dispatcher.proofs.dispatcher.Dispatcher.new.Goals as goal

pub returns-clause-stands : goal.returns-clause-stands
returns-clause-stands g c =
    record { kind = refl; few = c.requires.few; suited = c.requires.suits; states = c.requires.starts; size = c.len.ensures; ledger = c.new.ensures _ _; room = room_at_first _ _ _ _ c.new-2.ensures }
