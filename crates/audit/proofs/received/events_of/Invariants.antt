use Rattle.std.proofs.Common.{◌≡◌, take}
use Rattle.vr_log.specs.Log.{received}
use Rattle.audit.specs.Received.{ArePlaces}
use Rattle.audit.proofs.received.events_of.Given as goal

abbrev pub invariant-loop-entry : goal.invariant-loop-entry
invariant-loop-entry l = (l.events.items ≡ received (take l.entry-index l.log)) × ArePlaces l.events.items l.places
