use Rattle.std.proofs.Common.{◌≡◌, ◌-◌}
use Rattle.report.specs.Reading.{port_counts_at}
use Rattle.report.proofs.Sequences.{with_front}
use Rattle.report.proofs.setup_lines.port_counts.Given as goal

abbrev pub invariant-loop-switch : goal.invariant-loop-switch
invariant-loop-switch l = with_front l.counts (port_counts_at (l.switches - l.switch) l.switch l.rest) ≡ port_counts_at l.switches 0 l.bytes
