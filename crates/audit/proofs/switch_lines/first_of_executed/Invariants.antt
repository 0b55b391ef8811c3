use Rattle.std.proofs.Common.{◌≡◌, map, drop}
use Rattle.audit.specs.Audit.{first_failing}
use Rattle.audit.specs.Judging.{executed_fails_by}
use Rattle.audit.proofs.switch_lines.first_of_executed.Given as goal

abbrev pub invariant-loop-command : goal.invariant-loop-command
invariant-loop-command l =
    first_failing l.number (map (executed_fails_by l.committed l.switch) (drop l.command-index l.executed))
    ≡ first_failing l.line (map (executed_fails_by l.committed l.switch) l.executed)
