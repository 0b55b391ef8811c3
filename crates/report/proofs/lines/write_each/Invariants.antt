use Rattle.std.proofs.Common.{◌≡◌, ◌++◌, drop}
use Rattle.report.specs.Report.{lines_of}
use Rattle.report.proofs.lines.write_each.Given as goal

abbrev pub invariant-loop-item : goal.invariant-loop-item
invariant-loop-item g l = l.out ++ lines_of g.L.Lines.lines (drop l.item-index l.items) ≡ l.fn.out ++ lines_of g.L.Lines.lines l.items
