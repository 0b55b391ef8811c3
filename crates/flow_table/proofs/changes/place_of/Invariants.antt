use Rattle.std.proofs.Common.{◌≡◌, ◌++◌, drop, take}
use Rattle.flow_table.specs.Table.{with_row, row_of}
use Rattle.flow_table.proofs.changes.place_of.Given as goal

abbrev pub invariant-loop-place : goal.invariant-loop-place
invariant-loop-place l = take l.place l.rows ++ with_row (drop l.place l.rows) (row_of l.change) ≡ with_row l.rows (row_of l.change)
