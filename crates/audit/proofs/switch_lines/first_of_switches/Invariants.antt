use Rattle.std.proofs.Common.{◌≡◌, drop}
use Rattle.audit.specs.Audit.{first_failing}
use Rattle.audit.specs.Judging.{switches_fail_by}
use Rattle.audit.proofs.switch_lines.first_of_switches.Given as goal

abbrev pub invariant-loop-told : goal.invariant-loop-told
invariant-loop-told l =
    (l.switch ≡ l.told-index)
    × (first_failing l.number (switches_fail_by l.committed l.switch (drop l.told-index l.switches)) ≡ first_failing l.line (switches_fail_by l.committed 0 l.switches))
