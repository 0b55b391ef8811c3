use Rattle.std.proofs.Common.{◌≡◌, ℕ, take}
use Rattle.std.specs.BTreeMap.{get}
use Rattle.std.specs.Ordering.{nat_cmp}
use Rattle.journal.specs.Pool.{past}
use Rattle.capture_laws.specs.Fates.{fate}
use Rattle.capture.proofs.fates.fates.Given as goal

abbrev pub invariant-entries : goal.invariant-entries
invariant-entries l = (q : ℕ) → get nat_cmp l.fates q ≡ fate q (past (take l.place l.journal))
