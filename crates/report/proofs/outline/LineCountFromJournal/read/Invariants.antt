use Rattle.report.proofs.Outlines.{Counting}
use Rattle.report.proofs.outline.LineCountFromJournal.read.Given as goal

abbrev pub invariant-loop-place : goal.invariant-loop-place
invariant-loop-place l = Counting l.bytes l.place l.rest l.lines
