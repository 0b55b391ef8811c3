use Rattle.std.proofs.Common.{take}
use Rattle.std.specs.List.{AllByRecursion}
use Rattle.report.specs.Records.{FitsLetter}
use Rattle.report.proofs.fitting.letters_fit.Given as goal

abbrev pub invariant-loop-index : goal.invariant-loop-index
invariant-loop-index l = AllByRecursion FitsLetter (take l.index l.letters)
