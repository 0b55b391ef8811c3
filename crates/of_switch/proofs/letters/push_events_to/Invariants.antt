use Rattle.std.proofs.Common.{◌≡◌, ◌++◌, take}
use Rattle.std.specs.Prelude.{map}
use Rattle.of_switch.specs.Events.{event_letter}
use Rattle.of_switch.proofs.letters.push_events_to.Given as goal

abbrev pub invariant-loop-event : goal.invariant-loop-event
invariant-loop-event l = l.letters.items ≡ l.fn.letters.items ++ map (event_letter l.controller) (take l.event-index l.events)
