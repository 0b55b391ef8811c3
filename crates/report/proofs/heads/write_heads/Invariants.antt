use Rattle.std.proofs.Common.{◌≡◌, ◌++◌, drop}
use Rattle.journal.specs.Entries.{whole_entry}
use Rattle.report.specs.Report.{entry_lines, lines_of}
use Rattle.report.proofs.HeadLines.{Written}
use Rattle.report.proofs.heads.write_heads.Given as goal

abbrev pub invariant-loop-head : goal.invariant-loop-head
invariant-loop-head l = record {
  left : Written l.letters l.fn.letters (drop l.head-index l.heads);
  wrote : l.out ++ lines_of (λ h. entry_lines (whole_entry l.fn.letters h)) (drop l.head-index l.heads) ≡ l.fn.out ++ lines_of (λ h. entry_lines (whole_entry l.fn.letters h)) l.fn.heads;
}
