use Rattle.std.proofs.Common.{◌≡◌, ℕ, false, ◌||◌, take, get_or}
use Rattle.std.specs.List.{list_any}
use Rattle.audit.specs.Judging.{tells_event}
use Rattle.audit.proofs.evidence.mark_each.Given as goal

abbrev pub invariant-loop-line : goal.invariant-loop-line
invariant-loop-line l = (i : ℕ) → get_or l.told i false ≡ (get_or l.fn.told i false || list_any (tells_event l.received i) (take l.line-index l.lines))
