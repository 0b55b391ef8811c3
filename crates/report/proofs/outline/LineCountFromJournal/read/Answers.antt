use Rattle.std.proofs.Common.{sym, arith}
use Rattle.std.proofs.lemmas.Result.{err_from_is_err_and}
use Rattle.report.proofs.Outlines.{count_more, count_stops, count_done, count_last}
use Rattle.report.proofs.outline.LineCountFromJournal.read.Goals as goal

pub loop-place-preserved : goal.loop-place-preserved
loop-place-preserved c =
    let entry = c.in_ok-more.ensures.exact in
    count_more c.args.bytes.now c.loop-place.place c.loop-place.rest.now c.loop-place.lines c.in_ok-more.more entry.0 c.in_ok-more.after.now c.loop-place-test.true
    (sym c.if-starts_with.ensures.value) entry.1 entry.2 c.in_ok-more.ensures.many c.loop-place.invariant

pub returns-then-starts_with : goal.returns-then-starts_with
returns-then-starts_with c = count_done c.args.bytes.now c.loop-place.place c.loop-place.rest.now c.loop-place.lines (sym c.if-starts_with.ensures.value) c.loop-place.invariant

pub returns-in_err-more : goal.returns-in_err-more
returns-in_err-more c =
    let p = err_from_is_err_and c.from_residual.result c.from_residual.ensures.1 in
    rw (p.1, p.2)
    (count_stops c.args.bytes.now c.loop-place.place c.loop-place.rest.now c.loop-place.lines c.in_err-more.field-0.0 c.loop-place-test.true
    (sym c.if-starts_with.ensures.value) c.in_err-more.ensures.exact c.loop-place.invariant)

pub returns-then-not-starts_with : goal.returns-then-not-starts_with
returns-then-not-starts_with c =
    let over = c.loop-place-test.false in
    count_last c.args.bytes.now c.loop-place.place c.loop-place.rest.now c.loop-place.lines (omega (arith, over)) (sym c.if-not-starts_with.ensures.value) c.loop-place.invariant

pub returns : goal.returns
returns c = count_done c.args.bytes.now c.loop-place.place c.loop-place.rest.now c.loop-place.lines (sym c.if-not-starts_with.ensures.value) c.loop-place.invariant
