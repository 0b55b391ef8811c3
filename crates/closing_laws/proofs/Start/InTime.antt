-- The view of a closing starts in time, in each group.
use Rattle.std.proofs.Common.{◌<◌, inl, inr, ℕ, ◌/◌, arith}
use Rattle.std.proofs.lemmas.Bool.{cases_lt}
use Rattle.run_laws.proofs.RunAgreement.Groups.{odd_law}
use Rattle.closing_laws.specs.Starts.{ViewsStartInTime}
use Rattle.closing_laws.proofs.Start.Alone as alone
use Rattle.closing_laws.proofs.Start.Begun as begun

half : (k : ℕ) → 1 < k → 0 < k / 2
half k some = omega (arith, some)

pub in_time_law : {B : Type 0} → ViewsStartInTime B
in_time_law scene results before entries last best setup faithful a b = elim (cases_lt 1 scene.setup.controllers) [
  | inl several ↦ begun.in_time scene results before a.most setup faithful (half scene.setup.controllers several) entries last a best b
  | inr few ↦
      let odd = odd_law scene.setup setup in
      let size = odd.1 in
      alone.in_time scene results before a.most setup faithful (omega (arith, few, size)) entries last a best b
]
