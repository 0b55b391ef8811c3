use Rattle.std.proofs.Common.{◌≡◌, ◌++◌, drop}
use Rattle.report.specs.Report.{executed_line, lines_of}
use Rattle.report.proofs.switches.write_executed_all.Given as goal

abbrev pub invariant-loop-command : goal.invariant-loop-command
invariant-loop-command l = l.out ++ lines_of (executed_line l.switch) (drop l.command-index l.commands) ≡ l.fn.out ++ lines_of (executed_line l.switch) l.commands
