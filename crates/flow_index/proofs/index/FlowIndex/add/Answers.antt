use Rattle.std.proofs.Common.{◌∙◌, add-one, ap, sym, List}
use Rattle.of_types.specs.declared.message.Row.{Row}
use Rattle.flow_table.specs.Table.{row_of, with_row}
use Rattle.flow_index.proofs.Indexed.{indexed_each}
use Rattle.flow_index.proofs.Listed.{replaced}
use Rattle.flow_index.proofs.Views.{keeps_keys, known_entries, known_view, is_there, new_view, new_indexed}
use Rattle.flow_index.proofs.index.FlowIndex.add.Goals as goal

pub invariant_of-self : goal.invariant_of-self
invariant_of-self c =
    let change = c.args.change.now in
    let next = c.self.inside.next in
    let es = c.self.inside.rows.entries in
    let found = sym c.in-Some.ensures in
    let put = rw c.in_ok-row.ensures at (c.replace.ensures (is_there change next es c.in-Some.place.now c.in-Some.field-0-1.now c.self.invariant.0 found)) in
    rw (put ∙ known_entries change next es c.in-Some.place.now c.in-Some.field-0-1.now c.self.invariant.0 found)
    (indexed_each next (replaced (row_of change)) (keeps_keys (row_of change)) es c.self.invariant.0, c.self.invariant.1)

pub returns-in-Some-clause-ok : goal.returns-in-Some-clause-ok
returns-in-Some-clause-ok c =
    let change = c.args.change.now in
    let next = c.self.inside.next in
    let es = c.self.inside.rows.entries in
    let found = sym c.in-Some.ensures in
    let put = rw c.in_ok-row.ensures at (c.replace.ensures (is_there change next es c.in-Some.place.now c.in-Some.field-0-1.now c.self.invariant.0 found)) in
    rw (put ∙ known_entries change next es c.in-Some.place.now c.in-Some.field-0-1.now c.self.invariant.0 found)
    (known_view change next es c.in-Some.place.now c.in-Some.field-0-1.now c.self.invariant.0 found)
    ∙ ap (λ (rows : List Row). with_row rows (row_of change)) c.self.view_is

pub invariant_of-self-2 : goal.invariant_of-self-2
invariant_of-self-2 c =
    let change = c.args.change.now in
    let fits = rw c.in_ok-row.ensures at c.place_of.ensures.fits in
    let more = c.in-Some-checked_add.ensures in
    rw (more.1, c.in_ok-insert.ensures.entries, c.place_of.ensures.exact, c.in_ok-row.ensures)
    (new_indexed change c.self.inside.next c.self.inside.rows.entries c.self.invariant.1 fits c.self.invariant.0 (sym c.in_default.ensures), more.0)

pub returns-clause-ok : goal.returns-clause-ok
returns-clause-ok c =
    let change = c.args.change.now in
    rw (c.in-Some-checked_add.ensures.1, c.in_ok-insert.ensures.entries, c.place_of.ensures.exact, c.in_ok-row.ensures, add-one)
    (new_view change c.self.inside.next c.self.inside.rows.entries c.self.invariant.1 c.self.invariant.0 (sym c.in_default.ensures))
    ∙ ap (λ (rows : List Row). with_row rows (row_of change)) c.self.view_is
