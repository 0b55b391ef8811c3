use Rattle.std.proofs.Common.{◌≡◌, take}
use Rattle.event_buffer.proofs.held.HeldEvents.dirty.Given as goal

abbrev pub invariant-loop-port : goal.invariant-loop-port
invariant-loop-port l = l.wide.items ≡ take l.port-index l.port-items
