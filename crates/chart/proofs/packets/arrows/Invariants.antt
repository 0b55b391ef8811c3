use Rattle.std.proofs.Common.{◌≡◌, ℕ, take}
use Rattle.std.specs.BTreeMap.{get}
use Rattle.std.specs.Ordering.{nat_cmp}
use Rattle.journal.specs.Pool.{past}
use Rattle.chart.specs.Arrows.{arrows, sent}
use Rattle.chart.proofs.packets.arrows.Given as goal

abbrev pub invariant-entries : goal.invariant-entries
invariant-entries l =
    ((id : ℕ) → get nat_cmp l.sent id ≡ sent id (past (take l.place l.shown))) × (l.arrows ≡ arrows (past (take l.place l.shown)))
