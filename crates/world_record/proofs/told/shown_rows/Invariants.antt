use Rattle.std.proofs.Common.{◌≡◌, ◌++◌, map}
use Rattle.world_record.specs.Shows.{shown_row}
use Rattle.world_record.proofs.told.shown_rows.Given as goal

abbrev pub invariant-loop-row : goal.invariant-loop-row
invariant-loop-row l = (l.shown ≡ map shown_row l.yielded) × (l.yielded ++ l.row-iterator.rest.items ≡ l.fn.rows.items)
