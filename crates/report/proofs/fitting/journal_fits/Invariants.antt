use Rattle.std.proofs.Common.{map, take}
use Rattle.std.specs.List.{AllByRecursion}
use Rattle.journal.specs.Entries.{whole_entry}
use Rattle.report.specs.Fits.{FitsEntry}
use Rattle.report.proofs.fitting.journal_fits.Given as goal

abbrev pub invariant-loop-head : goal.invariant-loop-head
invariant-loop-head l = AllByRecursion FitsEntry (map (whole_entry l.letters) (take l.head-index l.heads))
