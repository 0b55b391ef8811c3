use Rattle.vr_log.proofs.Valid.{did_valid}
use Rattle.view_change.proofs.Valid.{adopt_valid}
use Rattle.view_change.proofs.cases.on_start_view.Goals as goal

pub returns-clause-valid : goal.returns-clause-valid
returns-clause-valid c =
    did_valid _ c.adopt.new.state c.args.out.now c.adopt.new.out (adopt_valid c.args.state.now c.args.view c.args.first c.args.commit c.args.log c.requires) c.in_ok-adopt.ensures.step
