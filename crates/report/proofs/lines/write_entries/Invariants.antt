use Rattle.std.proofs.Common.{◌≡◌, ◌++◌, drop}
use Rattle.report.specs.Report.{entry_lines, lines_of}
use Rattle.report.proofs.lines.write_entries.Given as goal

abbrev pub invariant-loop-told : goal.invariant-loop-told
invariant-loop-told l = record {
  wrote : l.out ++ lines_of entry_lines (drop l.told-index l.entries) ≡ l.fn.out ++ lines_of entry_lines l.fn.entries;
}
