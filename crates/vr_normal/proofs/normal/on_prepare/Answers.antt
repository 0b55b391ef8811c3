use Rattle.vr_log.proofs.Valid.{did_valid, on_ok}
use Rattle.vr_normal.proofs.Valid.{prepares_valid}
use Rattle.vr_normal.proofs.normal.on_prepare.Goals as goal

pub returns-then-is_here-clause-valid : goal.returns-then-is_here-clause-valid
returns-then-is_here-clause-valid c =
    on_ok c.take_prepare.result (did_valid _ c.take_prepare.new.state c.args.out.now c.take_prepare.new.out (prepares_valid c.args.state.now c.args.op c.args.commit c.args.entry c.requires)) c.take_prepare.ensures
