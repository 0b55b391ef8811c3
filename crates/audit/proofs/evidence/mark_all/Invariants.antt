use Rattle.std.proofs.Common.{◌≡◌, ℕ, false, ◌||◌, take, get_or}
use Rattle.audit.specs.Judging.{is_told_as_executed}
use Rattle.audit.proofs.evidence.mark_all.Given as goal

abbrev pub invariant-loop-lines : goal.invariant-loop-lines
invariant-loop-lines l = (i : ℕ) → get_or l.told i false ≡ (get_or l.fn.told i false || is_told_as_executed l.received (take l.lines-index l.switches) i)
