use Rattle.vr_log.specs.declared.state.Response.{Response}
use Rattle.vr_log.proofs.Valid.{did_valid, on_ok}
use Rattle.vr_recovery.proofs.Valid.{recovers_valid}
use Rattle.vr_recovery.proofs.recovering.on_response.Goals as goal

pub returns-clause-valid : goal.returns-clause-valid
returns-clause-valid c =
    let r : Response = record { from = c.args.from; view = c.args.view; filled = c.args.filled } in
    on_ok c.take_response.result (did_valid _ c.take_response.new.state c.args.out.now c.take_response.new.out (recovers_valid c.args.state.now r c.requires (rw c.is_other.ensures at c.if-not-is_other.false))) c.take_response.ensures
