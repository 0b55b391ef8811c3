use Rattle.std.proofs.Common.{◌≡◌, ◌-◌}
use Rattle.report.specs.Lines.{each_at}
use Rattle.report.proofs.Sequences.{with_front}
use Rattle.report.proofs.counted.read_each.Given as goal

abbrev pub invariant-loop-place : goal.invariant-loop-place
invariant-loop-place g l =
    with_front l.items (each_at (g.L.CountedLine.line_at l.switch) (l.count - l.place) l.rest) ≡ each_at (g.L.CountedLine.line_at l.switch) l.count l.bytes
