use Rattle.std.proofs.Common.{◌≡◌, ◌++◌}
use Rattle.std.specs.Prelude.{fold}
use Rattle.std.specs.List.Sorted.{IsStrictlySortedBy}
use Rattle.std.specs.Map.{keys_of}
use Rattle.std.specs.Ordering.{nat_cmp}
use Rattle.flow_index.proofs.Ordered.{put, by_number, lent, lent_rows}
use Rattle.flow_index.proofs.index.FlowIndexRows.rows.Given as goal

abbrev pub invariant-loop-place : goal.invariant-loop-place
invariant-loop-place l =
    (fold put (lent l.ordered.entries) l.place-iterator ≡ by_number l.self-inside.rows.entries) × IsStrictlySortedBy nat_cmp (keys_of l.ordered.entries)

abbrev pub invariant-loop-row : goal.invariant-loop-row
invariant-loop-row l = l.rows.items ++ lent_rows l.row-iterator ≡ l.self
