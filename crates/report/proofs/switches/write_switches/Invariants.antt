use Rattle.std.proofs.Common.{◌≡◌, ◌++◌, drop}
use Rattle.report.specs.Report.{switch_lines}
use Rattle.report.proofs.switches.write_switches.Given as goal

abbrev pub invariant-loop-switch : goal.invariant-loop-switch
invariant-loop-switch l = l.out ++ switch_lines l.switch (drop l.switch l.switches) ≡ l.fn.out ++ switch_lines 0 l.switches
