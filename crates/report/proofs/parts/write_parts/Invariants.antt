use Rattle.std.proofs.Common.{◌≡◌, List, ℕ, ◌++◌, drop}
use Rattle.std.specs.Io.KnownBytes.{Appends}
use Rattle.report.specs.Parts.{parts_text}
use Rattle.report.proofs.parts.write_parts.Given as goal

abbrev pub invariant-loop-part : goal.invariant-loop-part
invariant-loop-part g l = record {
  taken : (done : List ℕ) × Appends (g.K.Sink.taken l.initial.sink) (g.K.Sink.taken l.sink) done × (done ++ parts_text (drop l.part-index l.parts) ≡ parts_text l.parts);
  served : g.K.Sink.faults l.sink ≡ g.K.Sink.faults l.initial.sink;
}
