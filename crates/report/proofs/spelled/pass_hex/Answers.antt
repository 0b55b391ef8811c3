use Rattle.std.proofs.Common.{List, ℕ, arith}
use Rattle.std.specs.Prelude.{codes}
use Rattle.std.proofs.lemmas.Result.{err_from_is_err_and}
use denote.Ref.{Bor}
use Rattle.report.specs.Spelled.{after_at, last_hex_at}
use Rattle.report.proofs.Passing.{passes_is, fails_so, last_none, no_dash, dash_passed, odd_passed, even_passed}
use Rattle.report.proofs.spelled.pass_hex.Goals as goal

abbrev left : Bor (List ℕ) → List ℕ
left rest = rest.now

pub returns-in_err-text : goal.returns-in_err-text
returns-in_err-text c =
    let p = err_from_is_err_and c.from_residual.result c.from_residual.ensures.1 in
    rw (p.1, p.2) (fails_so left c.in_err-text.field-0.0 (after_at (codes " ") c.args.bytes.now) (last_hex_at c.args.bytes.now) (last_none c.args.bytes.now) c.in_err-text.ensures)

pub returns-in_err-rest : goal.returns-in_err-rest
returns-in_err-rest c =
    let p = err_from_is_err_and c.from_residual-in_err-rest.result c.from_residual-in_err-rest.ensures.1 in
    let text = c.in_ok-text.text.now in
    rw (p.1, p.2) (fails_so left c.in_err-rest.field-0.0 (after_at (codes "-") text) (last_hex_at c.args.bytes.now)
    (no_dash c.args.bytes.now text c.long_front-len.result c.in_ok-text.ensures c.long_front-len.ensures.value c.if-len-eq0.true) c.in_err-rest.ensures)

pub returns-in_ok-rest : goal.returns-in_ok-rest
returns-in_ok-rest c =
    passes_is c.end_of_line.result _ _
    (dash_passed c.args.bytes.now c.in_ok-text.text.now c.long_front-len.result c.in_ok-text.ensures c.long_front-len.ensures.value c.if-len-eq0.true)
    (rw c.in_ok-rest.ensures c.end_of_line.ensures)

pub returns-then-len-eq1 : goal.returns-then-len-eq1
returns-then-len-eq1 c = odd_passed c.args.bytes.now c.in_ok-text.text.now c.long_front-len.result c.in_ok-text.ensures c.long_front-len.ensures.value c.if-len-eq1.true

pub returns-else-len-eq1 : goal.returns-else-len-eq1
returns-else-len-eq1 c =
    let some = c.if-len-eq0.false in
    let even = c.if-len-eq1.false in
    passes_is c.end_of_line-else-len-eq1.result _ _
    (even_passed c.args.bytes.now c.in_ok-text.text.now c.long_front-len.result c.in_ok-text.ensures c.long_front-len.ensures.value (omega (arith, some)) (omega (arith, even)))
    (rw (← c.split_at.ensures.back) c.end_of_line-else-len-eq1.ensures)
