use Rattle.std.proofs.Common.{◌≡◌, take}
use Rattle.event_buffer.proofs.buffer.EventBuffer.items.Given as goal

abbrev pub invariant-loop-event : goal.invariant-loop-event
invariant-loop-event l = l.events.items ≡ take l.event-index l.held
