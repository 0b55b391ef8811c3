use Rattle.std.proofs.Common.{List, ℕ, subst, sym}
use Rattle.vr_log.specs.Valid.{IsValidState}
use Rattle.vr_normal.specs.Cases.{acked_by, counted}
use Rattle.vr_normal.proofs.Valid.{acked_valid, counted_valid}
use Rattle.vr_normal.proofs.normal.on_prepare_ok.Goals as goal

pub returns-then-counts-clause-valid : goal.returns-then-counts-clause-valid
returns-then-counts-clause-valid c =
    let s = c.args.state.now in
    let from = c.args.from in
    rw c.agreed_op-state.ensures (subst (λ (acked : List ℕ). IsValidState (counted (record s { acked = acked }))) (sym c.raise.ensures) (counted_valid (acked_by s from c.args.op) (acked_valid s from c.args.op c.requires)))
