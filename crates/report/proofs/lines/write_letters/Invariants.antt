use Rattle.std.proofs.Common.{◌≡◌, ◌++◌, drop}
use Rattle.report.specs.Report.{letter_line, lines_of}
use Rattle.report.proofs.lines.write_letters.Given as goal

abbrev pub invariant-loop-letter : goal.invariant-loop-letter
invariant-loop-letter l = record {
  wrote : l.out ++ lines_of letter_line (drop l.letter-index l.letters) ≡ l.fn.out ++ lines_of letter_line l.fn.letters;
}
