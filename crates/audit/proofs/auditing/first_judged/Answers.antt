use Rattle.std.proofs.Common.{◌≡◌, ◌+◌, ℕ, List, [], length, ap, sym, subst, ◌∙◌, arith}
use Rattle.std.specs.Prelude.{IfOk, Option}
use Rattle.vr_log.specs.declared.entry.Entry.{Entry}
use Rattle.report.specs.declared.record.SwitchRecord.{SwitchRecord}
use Rattle.audit.specs.Audit.{log_fails, first_failing}
use Rattle.audit.specs.Judging.{switches_fail_by, outline_fails}
use Rattle.audit.proofs.Committed.{log_first, switches_first}
use Rattle.audit.proofs.auditing.first_judged.Goals as goal

pub returns-in-Some : goal.returns-in-Some
returns-in-Some c = λ kinds evidence committed.
    let o = c.args.outline.now in
    let r = o.bare in
    log_first kinds o c.in_ok-entries.entries c.in-Some.first c.in_ok-first.field-0 (c.in_ok-entries.ensures ∙ ap (λ (n : ℕ). n + 1) c.in_ok-lines_before.ensures)
    (c.in_ok-first.ensures kinds r evidence (sym c.as_slice.ensures) ∙ ap (λ (l : List Entry). first_failing c.in_ok-entries.entries (log_fails kinds r [] l)) c.as_slice.ensures) c.in-Some.is

pub returns-in_ok-switches-in-None : goal.returns-in_ok-switches-in-None
returns-in_ok-switches-in-None c = λ kinds evidence committed.
    let o = c.args.outline.now in
    let r = o.bare in
    let next : c.in_ok-switches-in-None.switches ≡ c.in_ok-entries.entries + length r.log = let a = c.in_ok-switches-in-None.ensures in let b = c.len.ensures in omega (arith, a, b) in
    let all : first_failing c.in_ok-switches-in-None.switches (switches_fail_by c.args.committed.now 0 c.as_slice-in-None.result.now) ≡ first_failing 1 (outline_fails kinds o) =
    ap (λ (l : List SwitchRecord). first_failing c.in_ok-switches-in-None.switches (switches_fail_by c.args.committed.now 0 l)) c.as_slice-in-None.ensures
    ∙ switches_first kinds o c.in_ok-entries.entries c.in_ok-switches-in-None.switches c.in_ok-first.field-0 c.args.committed.now (c.in_ok-entries.ensures ∙ ap (λ (n : ℕ). n + 1) c.in_ok-lines_before.ensures)
    (c.in_ok-first.ensures kinds r evidence (sym c.as_slice.ensures) ∙ ap (λ (l : List Entry). first_failing c.in_ok-entries.entries (log_fails kinds r [] l)) c.as_slice.ensures)
    c.in-None.is next committed in
    subst (λ (o : Option ℕ). IfOk c.first_of_switches.result (λ first. first ≡ o)) all c.first_of_switches.ensures
