use Rattle.std.proofs.Common.{◌≡◌, ◌||◌, drop}
use Rattle.std.specs.Prelude.{is_some}
use Rattle.audit.specs.Names.{Name, value_of}
use Rattle.audit.specs.Judging.{is_executed}
use Rattle.audit.proofs.evidence.executed_names.Given as goal

abbrev pub invariant-loop-lines : goal.invariant-loop-lines
invariant-loop-lines l =
    (l.switch ≡ l.lines-index)
    × ((q : Name) → (is_some (value_of l.names q) || is_executed l.switch (drop l.lines-index l.switches) q) ≡ is_executed 0 l.switches q)
