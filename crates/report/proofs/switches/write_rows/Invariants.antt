use Rattle.std.proofs.Common.{◌≡◌, ◌++◌, drop}
use Rattle.report.specs.Report.{row_line, lines_of}
use Rattle.report.proofs.switches.write_rows.Given as goal

abbrev pub invariant-loop-row : goal.invariant-loop-row
invariant-loop-row l = l.out ++ lines_of (row_line l.switch) (drop l.row-index l.rows) ≡ l.fn.out ++ lines_of (row_line l.switch) l.rows
