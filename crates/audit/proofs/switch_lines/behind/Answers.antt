use Rattle.std.proofs.Common.{◌≡◌, ◌+◌, ℕ, length, subst, arith}
use Rattle.std.specs.Prelude.{IfOk}
use Rattle.audit.specs.Judging.{told_fails_by}
use Rattle.audit.proofs.Failing.{length_told}
use Rattle.audit.proofs.switch_lines.behind.Goals as goal

pub returns : goal.returns
returns c =
    let told = length_told c.args.committed.now c.args.switch c.args.told.now in
    let a = c.in_ok-events.ensures in let b = c.in_ok-executed.ensures in let d = c.in_ok-rows.ensures in
    let e = c.len.ensures in let f = c.len-2.ensures in let g = c.len-3.ensures in
    let all : c.in_ok-rows.rows + c.len-3.result ≡ c.args.line + length (told_fails_by c.args.committed.now c.args.switch c.args.told.now) = omega (arith, told, a, b, d, e, f, g) in
    subst (λ (n : ℕ). IfOk c.add-4.result (λ next. next ≡ n)) all c.add-4.ensures
