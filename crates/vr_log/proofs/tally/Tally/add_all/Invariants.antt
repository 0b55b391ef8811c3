use Rattle.std.proofs.Common.{List}
use Rattle.vr_log.specs.declared.entry.Entry.{Entry}
use Rattle.vr_log.specs.Log.{IsLog}
use Rattle.vr_log.specs.Tally.{IsTally}
use Rattle.vr_log.proofs.Tallies.{SoFar}
use Rattle.vr_log.proofs.tally.Tally.add_all.Given as goal

abbrev pub invariant-loop-entry : goal.invariant-loop-entry
invariant-loop-entry l = (log : List Entry) → IsLog log → IsTally log l.fn.self → SoFar log l.entries l.entry-index l.self
