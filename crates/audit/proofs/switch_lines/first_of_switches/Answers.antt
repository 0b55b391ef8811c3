use Rattle.std.proofs.Common.{◌+◌, ℕ, ap, sym, ◌∙◌, rules}
use Rattle.audit.specs.Audit.{first_failing}
use Rattle.audit.specs.Judging.{switches_fail_by}
use Rattle.audit.proofs.Failing.{told_stops, told_goes}
use Rattle.audit.proofs.switch_lines.first_of_switches.Goals as goal

pub returns-in-Some : goal.returns-in-Some
returns-in-Some c =
    told_stops c.args.committed.now c.args.switches.now c.loop-told.switch c.loop-told.told-index c.told-item.result (search rules) c.told-item.is c.loop-told.number c.in-Some.first
    (first_failing c.args.line (switches_fail_by c.args.committed.now 0 c.args.switches.now)) c.loop-told.invariant.1 (sym c.in-Some.is ∙ c.in_ok-first.ensures)

pub loop-told-preserved : goal.loop-told-preserved
loop-told-preserved c = (
  ap (λ (n : ℕ). n + 1) c.loop-told.invariant.0,
  told_goes c.args.committed.now c.args.switches.now c.loop-told.switch c.loop-told.told-index c.told-item.result (search rules) c.told-item.is c.loop-told.number c.in_ok-number.number
      (first_failing c.args.line (switches_fail_by c.args.committed.now 0 c.args.switches.now)) c.loop-told.invariant.1 (sym c.in-None.is ∙ c.in_ok-first.ensures) c.in_ok-number.ensures,
)
