use Rattle.std.proofs.Common.{◌∙◌, [], length, get_or, set, not, true, false, sym, ap}
use Rattle.std.proofs.lemmas.Result.{err_from_is_err_and}
use Rattle.of_bytes.proofs.Steps.{some_left, none_left}
use Rattle.of_match.specs.Field.{number_of}
use Rattle.of_match.proofs.Loop.{number_fits, starts, goes_on, stops, header_stops, repeat_stops, value_stops, ends, is_new, is_old}
use Rattle.of_match.proofs.reading.read_fields.Goals as goal

pub fields-init : goal.fields-init
fields-init c = ([], length c.args.body.now, rw c.any_match-matching.ensures (starts c.args.body.now c.new-seen.result c.new-seen.ensures))

pub returns-in_err-header : goal.returns-in_err-header
returns-in_err-header c =
    let p = err_from_is_err_and c.from_residual.result c.from_residual.ensures.1 in
    let inv = c.fields.invariant in
    let rest = c.fields.rest.now in
    rw (p.1, p.2) (stops c.args.body.now rest c.fields.seen c.fields.matching inv.0 inv.1 c.in_err-header.field-0.0 inv.2 (some_left c.is_empty.result rest c.is_empty.ensures c.fields-test.true) (header_stops inv.0 rest c.in_err-header.field-0.0 c.in_err-header.ensures.field))

pub returns-then-not-insert : goal.returns-then-not-insert
returns-then-not-insert c =
    let inv = c.fields.invariant in
    let rest = c.fields.rest.now in
    let header = c.in_ok-header.header in
    let old = is_old c.insert.result (get_or c.fields.seen (number_of header.kind) false) (c.insert.ensures.new ∙ ap (λ n. not (get_or c.fields.seen n false)) c.number.ensures) c.if-not-insert.true in
    let again = sym (inv.2.seen (number_of header.kind) (number_fits header.kind)) ∙ old in
    stops c.args.body.now rest c.fields.seen c.fields.matching inv.0 inv.1 _ inv.2 (some_left c.is_empty.result rest c.is_empty.ensures c.fields-test.true) (repeat_stops inv.0 rest header c.in_ok-header.payload.now c.in_ok-header.after.now c.in_ok-header.ensures.field again)

pub returns-in_err-put_field : goal.returns-in_err-put_field
returns-in_err-put_field c =
    let p = err_from_is_err_and c.from_residual-in_err-put_field.result c.from_residual-in_err-put_field.ensures.1 in
    let inv = c.fields.invariant in
    let rest = c.fields.rest.now in
    let header = c.in_ok-header.header in
    let new = is_new c.insert.result (get_or c.fields.seen (number_of header.kind) false) (c.insert.ensures.new ∙ ap (λ n. not (get_or c.fields.seen n false)) c.number.ensures) c.if-not-insert.false in
    let not_before = sym (inv.2.seen (number_of header.kind) (number_fits header.kind)) ∙ new in
    let d = c.in_err-put_field.field-0.0 in
    rw (p.1, p.2) (stops c.args.body.now rest c.fields.seen c.fields.matching inv.0 inv.1 d inv.2 (some_left c.is_empty.result rest c.is_empty.ensures c.fields-test.true) (value_stops inv.0 rest header c.in_ok-header.payload.now c.in_ok-header.after.now c.fields.matching d c.in_ok-header.ensures.field not_before c.in_err-put_field.ensures))

pub fields-preserved : goal.fields-preserved
fields-preserved c =
    let inv = c.fields.invariant in
    let rest = c.fields.rest.now in
    let header = c.in_ok-header.header in
    let new = is_new c.insert.result (get_or c.fields.seen (number_of header.kind) false) (c.insert.ensures.new ∙ ap (λ n. not (get_or c.fields.seen n false)) c.number.ensures) c.if-not-insert.false in
    rw (c.insert.ensures.after ∙ ap (λ n. set c.fields.seen n true) c.number.ensures) (goes_on c.args.body.now rest c.fields.seen c.fields.matching inv.0 inv.1 inv.2 header c.in_ok-header.payload.now c.in_ok-header.after.now c.put_field.new.matching (some_left c.is_empty.result rest c.is_empty.ensures c.fields-test.true) c.in_ok-header.ensures.field c.in_ok-header.ensures.shorter new c.in_ok-put_field.ensures)

pub returns : goal.returns
returns c =
    let inv = c.fields.invariant in
    ends c.args.body.now c.fields.rest.now c.fields.seen c.fields.matching inv.0 inv.1 inv.2 (none_left c.is_empty.result c.fields.rest.now c.is_empty.ensures c.fields-test.false)
