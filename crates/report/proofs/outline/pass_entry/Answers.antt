use Rattle.std.proofs.Common.{sym, arith}
use Rattle.report.proofs.Outlines.{post_long, post_passed, short_long, short_passed}
use Rattle.report.proofs.Sequences.{ok_gives}
use Rattle.report.proofs.outline.pass_entry.Goals as goal

pub returns-in_ok-rest-clause-exact : goal.returns-in_ok-rest-clause-exact
returns-in_ok-rest-clause-exact c =
    let letters = c.in_ok-rest.ensures.exact in
    post_passed c.args.bytes.now c.in_ok-count.field-0-0 c.in_ok-count.rest.now letters.0 c.in_ok-rest.rest.now
    (sym c.if-starts_with.ensures.value) (ok_gives _ _ _ _ c.post_line.ensures c.in_ok-count.ensures) letters.1

pub returns-in_ok-rest-clause-many : goal.returns-in_ok-rest-clause-many
returns-in_ok-rest-clause-many c =
    let first = post_long c.args.bytes.now c.in_ok-count.field-0-0 c.in_ok-count.rest.now (ok_gives _ _ _ _ c.post_line.ensures c.in_ok-count.ensures) in
    let letters = c.in_ok-rest.ensures.many in
    omega (arith, first, letters)

pub returns-in_ok-rest-2-clause-exact : goal.returns-in_ok-rest-2-clause-exact
returns-in_ok-rest-2-clause-exact c =
    short_passed c.args.bytes.now c.in_ok-rest-2.field-0-0 c.in_ok-rest-2.rest.now
    (sym c.if-starts_with.ensures.value) (ok_gives _ _ _ _ c.short_entry.ensures c.in_ok-rest-2.ensures)

pub returns-in_ok-rest-2-clause-many : goal.returns-in_ok-rest-2-clause-many
returns-in_ok-rest-2-clause-many c =
    short_long c.args.bytes.now c.in_ok-rest-2.field-0-0 c.in_ok-rest-2.rest.now
    (sym c.if-starts_with.ensures.value) (ok_gives _ _ _ _ c.short_entry.ensures c.in_ok-rest-2.ensures)
