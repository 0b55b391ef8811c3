use Rattle.std.proofs.Common.{◌≡◌, ◌≤◌, ◌+◌, ◌-◌, ◌++◌, length, take, drop}
use Rattle.report.specs.Report.{letter_line, lines_of}
use Rattle.report.proofs.heads.write_letters_from.Given as goal

abbrev pub invariant-loop-index : goal.invariant-loop-index
invariant-loop-index l = record {
  begun : l.fn.first ≤ l.index;
  wrote : l.out ++ lines_of letter_line (take (l.fn.first + l.fn.count - l.index) (drop l.index l.fn.letters)) ≡ l.fn.out ++ lines_of letter_line (take l.fn.count (drop l.fn.first l.fn.letters));
  rest : drop l.index l.letters ≡ drop l.index l.fn.letters;
  long : length l.letters ≡ length l.fn.letters;
}
