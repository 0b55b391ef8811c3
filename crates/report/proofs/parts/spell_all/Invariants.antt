use Rattle.std.proofs.Common.{◌≡◌, List, ℕ, ◌++◌, length}
use Rattle.std.specs.Io.KnownBytes.{Appends}
use Rattle.report.specs.Report.{hex_of}
use Rattle.report.proofs.parts.spell_all.Given as goal

abbrev pub invariant-pieces : goal.invariant-pieces
invariant-pieces g l = record {
  taken : (done : List ℕ) × Appends (g.K.Sink.taken l.initial.sink) (g.K.Sink.taken l.sink) done × (done ++ hex_of l.rest ≡ hex_of l.bytes);
  served : g.K.Sink.faults l.sink ≡ g.K.Sink.faults l.initial.sink;
}

abbrev pub decreases-pieces : goal.decreases-pieces
decreases-pieces g l = length l.rest
