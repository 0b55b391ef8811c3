-- Pairs of numbers.
use Rattle.std.proofs.Common.{ℕ, inl, inr, ◌∙◌, arith}
use Rattle.agreement.specs.Lists.{IsAtMost}

pub below_trans : {a b c d e f : ℕ} → IsAtMost a b c d → IsAtMost c d e f → IsAtMost a b e f
below_trans (inl h) (inl k) = inl (omega arith)
below_trans (inl h) (inr k) = inl (omega (arith, k.0))
below_trans (inr h) (inl k) = inl (omega (arith, h.0))
below_trans (inr h) (inr k) = inr (h.0 ∙ k.0, omega (arith, h.1, k.1))
