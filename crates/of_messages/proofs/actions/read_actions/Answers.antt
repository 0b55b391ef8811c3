use Rattle.std.proofs.Common.{length, sym}
use Rattle.std.proofs.lemmas.Result.{err_from_is_err_and}
use Rattle.of_bytes.proofs.Steps.{some_left, none_left}
use Rattle.of_messages.proofs.Ports.{starts, goes_on, stops, ends}
use Rattle.of_messages.proofs.actions.read_actions.Goals as goal

pub actions-init : goal.actions-init
actions-init c = (length c.args.bytes.now, rw c.new-ports.ensures (starts c.args.bytes.now))

pub returns-in_err-port : goal.returns-in_err-port
returns-in_err-port c =
    let p = err_from_is_err_and c.from_residual.result c.from_residual.ensures.1 in
    let inv = c.actions.invariant in
    let rest = c.actions.rest.now in
    rw (p.1, p.2) (stops c.args.bytes.now rest c.actions.ports inv.0 c.in_err-port.field-0.0 inv.1 (some_left c.is_empty.result rest c.is_empty.ensures c.actions-test.true) (sym c.in_err-port.ensures.exact))

pub actions-preserved : goal.actions-preserved
actions-preserved c =
    let inv = c.actions.invariant in
    let rest = c.actions.rest.now in
    rw (c.in_ok-push.ensures, c.split_at.ensures.back, c.from.ensures) (goes_on c.args.bytes.now rest c.actions.ports inv.0 c.in_ok-port.port inv.1 (some_left c.is_empty.result rest c.is_empty.ensures c.actions-test.true) c.in_ok-port.ensures.there (sym c.in_ok-port.ensures.exact))

pub returns : goal.returns
returns c =
    let inv = c.actions.invariant in
    ends c.args.bytes.now c.actions.rest.now c.actions.ports inv.0 inv.1 (none_left c.is_empty.result c.actions.rest.now c.is_empty.ensures c.actions-test.false)
