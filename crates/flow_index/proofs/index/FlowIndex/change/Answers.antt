use Rattle.std.proofs.Common.{◌∙◌, ap, sym, filter, map, not}
use Rattle.flow_table.specs.Table.{is_deleted, modified}
use Rattle.flow_index.proofs.Indexed.{indexed_each, indexed_that}
use Rattle.flow_index.proofs.Strict.{modified_keeps, step_modify, step_modify_strict, step_delete, step_delete_strict}
use Rattle.flow_index.proofs.Views.{view_each, view_that}
use Rattle.flow_index.proofs.index.FlowIndex.change.Goals as goal

pub invariant_of-self-in-Modify : goal.invariant_of-self-in-Modify
invariant_of-self-in-Modify c =
    rw c.in_ok-modify-in-Modify.ensures.ok (indexed_each _ (modified c.args.change.now) (modified_keeps c.args.change.now) _ c.self.invariant.0, c.self.invariant.1)

pub returns-in_ok-modify-in-Modify-clause-ok : goal.returns-in_ok-modify-in-Modify-clause-ok
returns-in_ok-modify-in-Modify-clause-ok c =
    let change = c.args.change.now in
    rw c.in_ok-modify-in-Modify.ensures.ok (view_each (modified change) c.self.inside.rows.entries c.self.inside.next)
    ∙ ap (map (modified change)) c.self.view_is
    ∙ sym (step_modify change c.args.self.now c.in-Modify.is)

pub invariant_of-self-in-ModifyStrict : goal.invariant_of-self-in-ModifyStrict
invariant_of-self-in-ModifyStrict c =
    let inv = c.self-in-ModifyStrict.invariant in
    let written = c.in_ok-modify_strict-in-ModifyStrict.ensures.ok c.self-in-ModifyStrict.inside.next inv.1 inv.0 in
    rw written (indexed_each _ (modified c.args.change.now) (modified_keeps c.args.change.now) _ inv.0, inv.1)

pub returns-in_ok-modify_strict-in-ModifyStrict-clause-ok : goal.returns-in_ok-modify_strict-in-ModifyStrict-clause-ok
returns-in_ok-modify_strict-in-ModifyStrict-clause-ok c =
    let change = c.args.change.now in
    let inv = c.self-in-ModifyStrict.invariant in
    let written = c.in_ok-modify_strict-in-ModifyStrict.ensures.ok c.self-in-ModifyStrict.inside.next inv.1 inv.0 in
    rw written (view_each (modified change) c.self-in-ModifyStrict.inside.rows.entries c.self-in-ModifyStrict.inside.next)
    ∙ ap (map (modified change)) c.self-in-ModifyStrict.view_is
    ∙ sym (step_modify_strict change c.args.self.now c.in-ModifyStrict.is)

pub invariant_of-self-in-Delete : goal.invariant_of-self-in-Delete
invariant_of-self-in-Delete c =
    rw c.delete.ensures (indexed_that _ (λ r. not (is_deleted c.args.change.now r)) _ c.self-in-Delete.invariant.0, c.self-in-Delete.invariant.1)

pub returns-in-Delete-clause-ok : goal.returns-in-Delete-clause-ok
returns-in-Delete-clause-ok c =
    let change = c.args.change.now in
    let next = c.self-in-Delete.inside.next in
    rw c.delete.ensures (view_that (λ r. not (is_deleted change r)) next c.self-in-Delete.inside.rows.entries next c.self-in-Delete.invariant.0)
    ∙ ap (filter (λ r. not (is_deleted change r))) c.self-in-Delete.view_is
    ∙ sym (step_delete change c.args.self.now c.in-Delete.is)

pub invariant_of-self-in-DeleteStrict : goal.invariant_of-self-in-DeleteStrict
invariant_of-self-in-DeleteStrict c =
    let inv = c.self-in-DeleteStrict.invariant in
    let left = c.delete_strict.ensures c.self-in-DeleteStrict.inside.next inv.1 inv.0 in
    rw left (indexed_that _ (λ r. not (is_deleted c.args.change.now r)) _ inv.0, inv.1)

pub returns-in-DeleteStrict-clause-ok : goal.returns-in-DeleteStrict-clause-ok
returns-in-DeleteStrict-clause-ok c =
    let change = c.args.change.now in
    let next = c.self-in-DeleteStrict.inside.next in
    let inv = c.self-in-DeleteStrict.invariant in
    let left = c.delete_strict.ensures next inv.1 inv.0 in
    rw left (view_that (λ r. not (is_deleted change r)) next c.self-in-DeleteStrict.inside.rows.entries next inv.0)
    ∙ ap (filter (λ r. not (is_deleted change r))) c.self-in-DeleteStrict.view_is
    ∙ sym (step_delete_strict change c.args.self.now c.in-DeleteStrict.is)
