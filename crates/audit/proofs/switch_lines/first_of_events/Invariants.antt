use Rattle.std.proofs.Common.{◌≡◌, drop}
use Rattle.std.specs.Prelude.{nat_eq, count_by}
use Rattle.audit.specs.Audit.{first_failing}
use Rattle.audit.specs.Judging.{events_fail_by}
use Rattle.audit.proofs.switch_lines.first_of_events.Given as goal

abbrev pub invariant-loop-event : goal.invariant-loop-event
invariant-loop-event l =
    (l.left ≡ count_by (λ e. nat_eq e.life l.told.life) (drop l.event-index l.told.events))
    × (first_failing l.number (events_fail_by l.committed l.told.life l.told.held (drop l.event-index l.told.events))
    ≡ first_failing l.line (events_fail_by l.committed l.told.life l.told.held l.told.events))
