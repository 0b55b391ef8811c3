use Rattle.std.proofs.Common.{◌≡◌, ◌+◌, ℕ, List, map, length, subst, refl, ap, ◌∙◌, arith}
use Rattle.std.specs.Prelude.{IfOk, Option}
use Rattle.of_types.specs.declared.message.Executed.{Executed}
use Rattle.audit.specs.Audit.{first_failing}
use Rattle.audit.specs.Judging.{events_fail_by, executed_fails_by, told_fails_by}
use Rattle.audit.proofs.Failing.{event_first, executed_first}
use Rattle.audit.proofs.switch_lines.first_of_switch.Goals as goal

pub returns-in-Some : goal.returns-in-Some
returns-in-Some c =
    let t = c.args.told.now in
    event_first c.args.committed.now c.args.switch t c.args.line c.in-Some.first c.in_ok-first.field-0
    (c.in_ok-first.ensures ∙ ap (λ (n : ℕ). first_failing n (events_fail_by c.args.committed.now t.life t.held t.events)) c.in_ok-events.ensures) c.in-Some.is

pub returns-in_ok-executed-in-None : goal.returns-in_ok-executed-in-None
returns-in_ok-executed-in-None c =
    let t = c.args.told.now in
    let fails = executed_fails_by c.args.committed.now c.args.switch in
    let a = c.in_ok-events.ensures in let b = c.in_ok-executed-in-None.ensures in let d = c.len.ensures in
    let from : c.in_ok-executed-in-None.executed ≡ c.args.line + 1 + length t.events = omega (arith, a, b, d) in
    let all : first_failing c.in_ok-executed-in-None.executed (map fails c.as_slice.result.now) ≡ first_failing c.args.line (told_fails_by c.args.committed.now c.args.switch t) =
    ap (λ (l : List Executed). first_failing c.in_ok-executed-in-None.executed (map fails l)) c.as_slice.ensures
    ∙ ap (λ (n : ℕ). first_failing n (map fails t.executed)) from
    ∙ executed_first c.args.committed.now c.args.switch t c.args.line c.in_ok-first.field-0 (first_failing (c.args.line + 1 + length t.events) (map fails t.executed))
    (c.in_ok-first.ensures ∙ ap (λ (n : ℕ). first_failing n (events_fail_by c.args.committed.now t.life t.held t.events)) a) c.in-None.is refl in
    subst (λ (o : Option ℕ). IfOk c.first_of_executed.result (λ first. first ≡ o)) all c.first_of_executed.ensures
