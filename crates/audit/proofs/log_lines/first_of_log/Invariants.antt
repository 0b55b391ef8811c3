use Rattle.audit.proofs.Followed.{Follows}
use Rattle.audit.proofs.log_lines.first_of_log.Given as goal

abbrev pub invariant-loop-entry : goal.invariant-loop-entry
invariant-loop-entry l = Follows l.evidence l.log l.line l.number l.entry-index l.so_far
