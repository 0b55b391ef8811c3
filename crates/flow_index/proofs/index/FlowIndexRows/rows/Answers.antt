use Rattle.std.proofs.Common.{List, [], ◌∷◌, ◌++◌, ℕ, Bor, sym, ap, subst, ◌∙◌, append-nil, append_assoc}
use Rattle.std.specs.Prelude.{fold}
use Rattle.std.specs.List.Sorted.{IsStrictlySortedBy}
use Rattle.std.specs.Ordering.{nat_cmp}
use Rattle.of_types.specs.declared.message.Row.{Row}
use Rattle.flow_index.proofs.Indexed.{Entry}
use Rattle.flow_index.proofs.Ordered.{Numbered, put, ordered_rows, lent, lent_rows, lent_put, lent_keys, lent_values}
use Rattle.flow_index.proofs.index.FlowIndexRows.rows.Goals as goal

pub loop-place-preserved : goal.loop-place-preserved
loop-place-preserved c =
    let before = c.loop-place.ordered.entries in
    let rest = c.next.new.self in
    let put_in = ap lent c.in_ok-insert.ensures.entries ∙ lent_put before c.in-Some.place.now.number c.in-Some.row in (
      ap (λ (rows : List Numbered). fold put rows rest) put_in
          ∙ sym (ap (λ (es : List Entry). fold put (lent before) es) c.in-Some.ensures.steps)
          ∙ c.loop-place.invariant.0,
      c.in_ok-insert.ensures.ordered,
    )

pub loop-row-init : goal.loop-row-init
loop-row-init c =
    let inv = c.loop-place.invariant in
    let entries = c.loop-place.ordered.entries in
    let whole = sym (ap (λ (es : List Entry). fold put (lent entries) es) c.in-None.ensures.steps.0) ∙ inv.0 in
    let sorted = subst (λ (ks : List ℕ). IsStrictlySortedBy nat_cmp ks) (sym (lent_keys entries)) inv.1 in
    let all = sym (lent_values entries) ∙ ordered_rows c.self.inside.next c.self.inside.rows.entries (lent entries) c.self.invariant.0 whole sorted ∙ c.self.view_is in
    rw c.in_ok-rows.ensures.items (ap lent_rows (c.into_iter-row-iterator.ensures.into_iter_gives ∙ c.into_values-row-items.ensures.rest) ∙ all)

pub loop-row-preserved : goal.loop-row-preserved
loop-row-preserved c =
    let before = c.loop-row.rows.items in
    let rest = c.next-in-loop-row.new.self in
    ap (λ (rows : List Row). rows ++ lent_rows rest) (c.in_ok-push.ensures.items ∙ ap (λ (row : Row). before ++ row ∷ []) c.in_ok-copy.ensures)
    ∙ append_assoc before (c.in-Some-row.row.now ∷ []) (lent_rows rest)
    ∙ sym (ap (λ (rows : List (Bor Row)). before ++ lent_rows rows) c.in-Some-row.ensures.steps)
    ∙ c.loop-row.invariant

pub returns : goal.returns
returns c =
    let listed = c.loop-row.rows.items in
    sym (append-nil listed) ∙ sym (ap (λ (rows : List (Bor Row)). listed ++ lent_rows rows) c.in-None-row.ensures.steps.0) ∙ c.loop-row.invariant
