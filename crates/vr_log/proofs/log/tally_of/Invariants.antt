use Rattle.std.proofs.Common.{[]}
use Rattle.vr_log.proofs.Tallies.{SoFar}
use Rattle.vr_log.proofs.log.tally_of.Given as goal

abbrev pub invariant-loop-entry : goal.invariant-loop-entry
invariant-loop-entry l = SoFar [] l.entries l.entry-index l.tally
