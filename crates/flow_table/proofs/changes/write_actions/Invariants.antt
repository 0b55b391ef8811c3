use Rattle.std.proofs.Common.{◌≡◌, ◌++◌, map, take, drop, replicate}
use Rattle.std.specs.List.{count_by}
use Rattle.flow_table.specs.Table.{is_named, modified}
use Rattle.flow_table.proofs.changes.write_actions.Given as goal

abbrev pub invariant-loop-row : goal.invariant-loop-row
invariant-loop-row l =
    (l.rows ≡ map (modified l.change) (take l.row-index l.fn.rows) ++ drop l.row-index l.fn.rows)
    × (l.copies.items ≡ replicate (count_by (is_named l.change) (drop l.row-index l.fn.rows)) l.change.actions)
