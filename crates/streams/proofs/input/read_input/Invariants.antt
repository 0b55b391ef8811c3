use Rattle.std.proofs.Common.{◌≤◌, ◌-◌, ◌+◌, ◌≡◌, length}
use Rattle.std.specs.Io.KnownBytes.{Consumes}
use Rattle.streams.proofs.input.read_input.Given as goal

abbrev pub decreases-pieces : goal.decreases-pieces
decreases-pieces g l = l.limit + 1 - length l.bytes

abbrev pub invariant-pieces : goal.invariant-pieces
invariant-pieces g l = record {
  small : length l.bytes ≤ l.limit + 1;
  served : g.S.Source.faults l.source ≡ g.S.Source.faults l.fn.source;
  consumed : Consumes (g.S.Source.left l.fn.source) (g.S.Source.left l.source) l.bytes;
}
