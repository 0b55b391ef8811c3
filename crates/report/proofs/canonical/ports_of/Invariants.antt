use Rattle.std.proofs.Common.{◌≡◌, ◌≤◌, ◌-◌, ◌*◌, ◌++◌, length}
use Rattle.report.specs.Canonical.{output_ports_of}
use Rattle.report.proofs.canonical.ports_of.Given as goal

abbrev pub invariant-loop-done : goal.invariant-loop-done
invariant-loop-done l = record {
  long : 16 * (l.count - l.done) ≤ length l.rest;
  ports : l.ports ++ output_ports_of (l.count - l.done) l.rest ≡ output_ports_of l.count l.bytes;
}
