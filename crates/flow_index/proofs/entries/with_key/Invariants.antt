use Rattle.std.proofs.Common.{◌≡◌, ◌-◌}
use Rattle.std.specs.Prelude.{find}
use Rattle.flow_table.specs.Table.{row_of, same_key}
use Rattle.flow_index.specs.Places.{exact_destination}
use Rattle.flow_index.specs.Entries.{entries_ranked}
use Rattle.flow_index.proofs.entries.with_key.Given as goal

abbrev pub invariant-loop-place : goal.invariant-loop-place
invariant-loop-place l =
    find (λ e. same_key e.1 (row_of l.change)) l.place-iterator
    ≡ find (λ e. same_key e.1 (row_of l.change)) (entries_ranked (exact_destination l.change.matching) (65535 - l.change.priority) l.rows.entries)
