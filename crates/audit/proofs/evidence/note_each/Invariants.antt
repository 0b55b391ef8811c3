use Rattle.std.proofs.Common.{◌≡◌, ◌||◌, take}
use Rattle.std.specs.Prelude.{is_some}
use Rattle.std.specs.List.{list_any}
use Rattle.audit.specs.Names.{Name, value_of}
use Rattle.audit.specs.Judging.{executed_as_told}
use Rattle.audit.proofs.evidence.note_each.Given as goal

abbrev pub invariant-loop-command : goal.invariant-loop-command
invariant-loop-command l = (q : Name) → is_some (value_of l.names q) ≡ (is_some (value_of l.fn.names q) || list_any (executed_as_told l.switch q) (take l.command-index l.executed))
