use Rattle.std.proofs.Common.{refl, sym, ◌∙◌}
use Rattle.vr_log.proofs.Valid.{did_valid}
use Rattle.vr_normal.proofs.Valid.{proposed_valid}
use Rattle.vr_normal.proofs.normal.propose.Goals as goal

pub returns-in-Ok-clause-valid : goal.returns-in-Ok-clause-valid
returns-in-Ok-clause-valid c =
    let r = c.requires in
    let within = sym c.is_past_limits.ensures ∙ c.if-is_past_limits.false in
    did_valid _ c.append_proposed.new.state c.args.out.now c.append_proposed.new.out (proposed_valid c.args.state.now c.args.entry r.valid (rw (within, r.follows) refl)) c.in-Ok.ensures
