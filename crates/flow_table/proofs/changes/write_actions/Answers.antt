use Rattle.flow_table.proofs.Modified.{row_written}
use Rattle.flow_table.proofs.changes.write_actions.Goals as goal

pub loop-row-preserved : goal.loop-row-preserved
loop-row-preserved c =
    let inv = c.loop-row.invariant in
    row_written c.args.change.now c.args.rows.now c.loop-row.rows c.loop-row.copies.items c.write_row.new.copies.items c.loop-row.row-index c.row-item.result c.write_row.new.row c.loop-row-test.true c.loop-row.auto.rows inv.0 inv.1 c.write_row.ensures
