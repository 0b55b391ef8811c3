use Rattle.vr_log.proofs.Valid.{did_valid, on_ok}
use Rattle.view_change.proofs.Valid.{adopt_valid}
use Rattle.vr_recovery.proofs.Valid.{completes_valid}
use Rattle.vr_recovery.proofs.transfer.on_new_state.Goals as goal

pub returns-then-is_longer-clause-valid : goal.returns-then-is_longer-clause-valid
returns-then-is_longer-clause-valid c =
    on_ok c.complete.result (did_valid _ c.complete.new.state c.args.out.now c.complete.new.out (completes_valid c.args.state.now c.args.first c.args.commit c.as_slice-then-is_longer.result.now c.requires)) c.complete.ensures

pub returns-clause-valid : goal.returns-clause-valid
returns-clause-valid c =
    did_valid _ c.adopt.new.state c.args.out.now c.adopt.new.out (adopt_valid c.args.state.now c.args.view c.args.first c.args.commit c.args.log c.requires) c.in_ok-adopt.ensures.step
