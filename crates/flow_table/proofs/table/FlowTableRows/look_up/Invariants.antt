use Rattle.std.proofs.Common.{◌≡◌, drop}
use Rattle.std.specs.Prelude.{option_copied}
use Rattle.flow_table.specs.Table.{chosen_row}
use Rattle.flow_table.proofs.Tables.{merged}
use Rattle.flow_table.proofs.table.FlowTableRows.look_up.Given as goal

abbrev pub invariant-loop-row : goal.invariant-loop-row
invariant-loop-row l = merged (option_copied l.chosen) (chosen_row (drop l.row-index l.row-items) l.fields) ≡ chosen_row l.row-items l.fields
