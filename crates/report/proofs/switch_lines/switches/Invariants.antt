use Rattle.std.proofs.Common.{◌≡◌, ◌-◌}
use Rattle.report.specs.Reading.{switches_at}
use Rattle.report.proofs.Sequences.{with_front}
use Rattle.report.proofs.switch_lines.switches.Given as goal

abbrev pub invariant-loop-switch : goal.invariant-loop-switch
invariant-loop-switch l = with_front l.switches (switches_at (l.count - l.switch) l.switch l.rest) ≡ switches_at l.count 0 l.bytes
