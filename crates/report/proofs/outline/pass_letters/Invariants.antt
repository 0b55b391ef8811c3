use Rattle.report.proofs.Outlines.{Passed}
use Rattle.report.proofs.outline.pass_letters.Given as goal

abbrev pub invariant-loop-place : goal.invariant-loop-place
invariant-loop-place l = Passed l.count l.place l.bytes l.rest
