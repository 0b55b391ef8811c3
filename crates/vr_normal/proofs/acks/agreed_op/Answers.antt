use Rattle.std.proofs.Common.{◌≡◌, ℕ, length, slice_index, true, false, refl, sym, ◌∙◌, ap, arith}
use Rattle.vr_normal.proofs.Agreed.{best_rises, best_stays, best_is, last_is}
use Rattle.vr_normal.proofs.acks.agreed_op.Goals.{then-best-op+then-op-len+then-is_agreed-2, else-best-op, else-best-op-via-then-best-op+then-op-len+else-is_agreed-2, else-best-op-via-then-best-op+else-op-len, else-best-op-via-else-best-op}
use Rattle.vr_normal.proofs.acks.agreed_op.Goals as goal

pub returns-then-is_agreed : goal.returns-then-is_agreed
returns-then-is_agreed c =
    c.max.ensures ∙ rw c.len-len.ensures.count (last_is c.args.state.now (rw c.len-len.ensures.count at (sym c.is_agreed.ensures ∙ c.if-is_agreed.true)))

pub loop-op-preserved : goal.loop-op-preserved
loop-op-preserved c =
    let s = c.args.state.now in
    let i = c.loop-op.op-index in
    let op : ℕ = slice_index c.as_slice-op-items.result.now i in
    let is : op ≡ slice_index s.acked i = rw c.as_slice-op-items.ensures refl in
    let len : c.len-len.result ≡ length s.log = c.len-len.ensures.count in
    elim c.if-best-op.branch [
      | then-best-op+then-op-len+then-is_agreed-2 w ↦
          rw w.best-is (best_rises s i c.loop-op.best op c.loop-op.invariant is w.if-best-op.true (let lt = w.if-op-len.true in omega (arith, len, lt)) (sym w.is_agreed-then-op-len.ensures ∙ w.if-is_agreed-2.true))
      | else-best-op w ↦ rw w.best-is (elim w.else-best-op.branch [
        | else-best-op-via-then-best-op+then-op-len+else-is_agreed-2 v ↦
            best_stays s i c.loop-op.best op c.loop-op.invariant is (λ lt on. absurd (let z : true ≡ false = sym on ∙ (sym v.is_agreed-then-op-len.ensures ∙ v.if-is_agreed-2.false) in cc))
        | else-best-op-via-then-best-op+else-op-len v ↦
            best_stays s i c.loop-op.best op c.loop-op.invariant is (λ lt on. absurd (let ge = v.if-op-len.false in omega (arith, len, ge, lt)))
        | else-best-op-via-else-best-op v ↦ best_stays s i c.loop-op.best op c.loop-op.invariant is (λ lt on. v.if-best-op.false)
      ])
    ]

pub returns : goal.returns
returns c =
    best_is c.args.state.now c.loop-op.op-index c.loop-op.best (let e = ap length c.as_slice-op-items.ensures in let done = c.loop-op-test.false in omega (arith, e, done))
    (rw c.len-len.ensures.count at (sym c.is_agreed.ensures ∙ c.if-is_agreed.false)) c.loop-op.invariant
