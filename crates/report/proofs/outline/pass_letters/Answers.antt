use Rattle.std.proofs.Common.{arith}
use Rattle.std.proofs.lemmas.Result.{err_from_is_err_and}
use Rattle.report.proofs.Outlines.{letters_begin, letters_more, letters_stop, letters_done}
use Rattle.report.proofs.outline.pass_letters.Goals as goal

pub loop-place-init : goal.loop-place-init
loop-place-init c = letters_begin c.args.count c.args.bytes.now

pub loop-place-preserved : goal.loop-place-preserved
loop-place-preserved c = letters_more c.args.count c.loop-place.place c.args.bytes.now c.loop-place.rest.now c.in_ok-rest.rest c.pass_letter.result c.loop-place-test.true c.in_ok-rest.ensures c.pass_letter.ensures c.loop-place.invariant

pub returns-in_err-rest-clause-exact : goal.returns-in_err-rest-clause-exact
returns-in_err-rest-clause-exact c =
    let p = err_from_is_err_and c.from_residual.result c.from_residual.ensures.1 in
    rw (p.1, p.2) (letters_stop c.args.count c.loop-place.place c.args.bytes.now c.loop-place.rest.now c.pass_letter.result c.in_err-rest.field-0.0 c.loop-place-test.true c.pass_letter.ensures c.in_err-rest.ensures c.loop-place.invariant)

pub returns-clause-exact : goal.returns-clause-exact
returns-clause-exact c =
    let over = c.loop-place-test.false in
    letters_done c.args.count c.loop-place.place c.args.bytes.now c.loop-place.rest.now (omega (arith, over)) c.loop-place.invariant

pub returns-clause-many : goal.returns-clause-many
returns-clause-many c =
    let over = c.loop-place-test.false in
    let long = c.loop-place.invariant.2 in
    omega (arith, over, long)
