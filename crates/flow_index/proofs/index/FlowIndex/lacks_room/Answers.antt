use Rattle.std.proofs.Common.{◌≡◌, ◌∙◌, false, sym, subst, List, arith}
use Rattle.std.proofs.lemmas.Bool.{lt-leb}
use Rattle.of_types.specs.declared.message.Row.{Row}
use Rattle.flow_table.specs.Table.{lacks_room}
use Rattle.flow_index.specs.Index.{numbered_rows, rows_below}
use Rattle.flow_index.proofs.Views.{view_length, is_new, lacks_at, has_room}
use Rattle.flow_index.proofs.index.FlowIndex.lacks_room.Goals as goal

pub returns-then-len-ge-MOST_ROWS : goal.returns-then-len-ge-MOST_ROWS
returns-then-len-ge-MOST_ROWS c =
    let change = c.args.change.now in
    let next = c.self.inside.next in
    let es = c.self.inside.rows.entries in
    let long = view_length next es c.self.invariant.0 in
    let new = is_new (λ e. (e.0.now, e.1.now)) c.with_key.result c.is_none.result change next es c.self.invariant.1 c.self.invariant.0 c.with_key.ensures c.is_none.ensures in
    subst (λ (rows : List Row). c.is_none.result ≡ lacks_room rows change) c.self.view_is
    (lacks_at change (rows_below (numbered_rows es) next) c.is_none.result c.in-Add.is (omega (arith, long, c.len.ensures.len, c.if-len-ge-MOST_ROWS.true)) new)

pub returns-else-len-ge-MOST_ROWS : goal.returns-else-len-ge-MOST_ROWS
returns-else-len-ge-MOST_ROWS c =
    let change = c.args.change.now in
    let next = c.self.inside.next in
    let es = c.self.inside.rows.entries in
    let long = view_length next es c.self.invariant.0 in
    lt-leb 2048 c.len.result c.if-len-ge-MOST_ROWS.false
    ∙ sym (subst (λ (rows : List Row). lacks_room rows change ≡ false) c.self.view_is (has_room change (rows_below (numbered_rows es) next) (omega (arith, long, c.len.ensures.len, c.if-len-ge-MOST_ROWS.false))))
