use Rattle.vr_log.proofs.Valid.{did_valid, on_ok}
use Rattle.view_change.proofs.Valid.{enters_valid}
use Rattle.vr_recovery.proofs.recovering.on_recovery.Goals as goal

pub returns-then-state-promise-clause-valid : goal.returns-then-state-promise-clause-valid
returns-then-state-promise-clause-valid c =
    on_ok c.enter_and_check.result (did_valid _ c.enter_and_check.new.state c.args.out.now c.enter_and_check.new.out (enters_valid c.args.state.now c.args.promise c.requires)) c.enter_and_check.ensures
