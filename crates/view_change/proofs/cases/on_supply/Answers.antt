use Rattle.vr_log.proofs.Valid.{did_valid, on_ok}
use Rattle.view_change.proofs.Valid.{wanted_valid}
use Rattle.view_change.proofs.cases.on_supply.Goals as goal

pub returns-clause-valid : goal.returns-clause-valid
returns-clause-valid c =
    on_ok c.keep_supply.result (did_valid _ c.keep_supply.new.state c.args.out.now c.keep_supply.new.out (wanted_valid c.args.state.now c.args.view c.args.first c.args.log c.requires (rw (c.is_wanted.ensures, c.as_slice.ensures) at c.if-not-is_wanted.false))) c.keep_supply.ensures
