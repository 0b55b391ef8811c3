use Rattle.std.proofs.Common.{◌≡◌, ◌++◌, drop}
use Rattle.report.specs.Report.{port_lines}
use Rattle.report.proofs.report_text.write_ports.Given as goal

abbrev pub invariant-loop-switch : goal.invariant-loop-switch
invariant-loop-switch l = l.out ++ port_lines l.switch (drop l.switch l.counts) ≡ l.fn.out ++ port_lines 0 l.counts
