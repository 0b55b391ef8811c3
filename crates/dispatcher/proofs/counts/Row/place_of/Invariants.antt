use Rattle.std.proofs.Common.{◌≡◌, ◌+◌, drop}
use Rattle.dispatcher.specs.Counted.{event_place_of}
use Rattle.dispatcher.proofs.counts.Row.place_of.Given as goal

abbrev pub invariant-loop-place : goal.invariant-loop-place
invariant-loop-place l = event_place_of l.self l.life ≡ l.place + event_place_of (drop l.place l.self) l.life
