use Rattle.std.proofs.Common.{length, arith}
use Rattle.std.proofs.lemmas.Bool.{le-ltb}
use Rattle.std.proofs.lemmas.Result.{err_from_is_err_and}
use Rattle.vr_log.specs.Log.{log_bytes}
use Rattle.vr_codec.proofs.Steps.{stops, goes_on}
use Rattle.vr_codec.proofs.entries.read_entries.Goals as goal

pub returns-in_err-entry : goal.returns-in_err-entry
returns-in_err-entry c =
    let p = err_from_is_err_and c.from_residual.result c.from_residual.ensures.1 in
    rw (p.1, p.2) (stops (length c.args.bytes.now) c.entries.left c.entries.entries c.entries.rest.now c.in_err-entry.field-0.0 _ c.entries-test.true c.entries.invariant.whole c.in_err-entry.ensures.exact)

pub entries-preserved : goal.entries-preserved
entries-preserved c =
    let shorter = c.in_ok-entry.ensures.shorter in let before = c.entries.invariant.shorter in
    record {
      whole = rw c.in_ok-push.ensures (goes_on (length c.args.bytes.now) c.entries.left c.entries.entries c.entries.rest.now c.in_ok-entry.after.now c.in_ok-entry.entry _ c.entries-test.true c.entries.invariant.whole c.in_ok-entry.ensures.exact
          (le-ltb log_bytes _ c.if-bytes-after-gt-LOG_BYTES.false));
      shorter = omega arith;
    }
