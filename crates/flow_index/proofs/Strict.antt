-- What a change does with the one row of its match and priority.
use Rattle.std.proofs.Common.{◌≡◌, ◌≢◌, ℕ, ◌-◌, ◌^◌, ◌<◌, Bool, true, false, not, List, map, filter, refl, sym, ◌∙◌, ap, arith, subst}
use Rattle.std.specs.Prelude.{Option, Some, None, find, if◌then◌else◌}
use Rattle.std.specs.BTreeMap.{is_at}
use Rattle.std.specs.BTreeMap.Range.{range_contains}
use Rattle.std.specs.Map.{lookup, set_value, remove_entry}
use Rattle.std.specs.declared.ops.Bound.TheVariants.{Included}
use Rattle.of_types.specs.declared.message.FlowMod.{FlowMod}
use Rattle.of_types.specs.declared.message.Match.{Match}
use Rattle.of_types.specs.declared.message.Row.{Row}
use Rattle.of_types.specs.declared.message.FlowCommand.TheVariants.{Modify, ModifyStrict, Delete, DeleteStrict}
use Rattle.flow_table.specs.Table.{table_step, row_of, same_key, is_strict, is_named, is_deleted, modified}
use Rattle.flow_index.specs.declared.place.Place.{Place}
use Rattle.flow_index.specs.Places.{exact_destination}
use Rattle.flow_index.specs.Entries.{by_place, place_at, entries_ranked}
use Rattle.flow_index.specs.Index.{AreIndexed, each_row, rows_that}
use Rattle.flow_table.proofs.Keys.{HaveOneKey, key_is, key_both}
use Rattle.flow_index.proofs.Order.{in_range}
use Rattle.flow_index.proofs.Indexed.{Entry, IsIn, KeepsKeys, placed, one_of_key, find_in, find_none, all_fixed, all_kept, at_place, set_is_each, remove_is_filter}

abbrev has_its_key : FlowMod → Entry → Bool
has_its_key change e = same_key e.1 (row_of change)

abbrev is_in_its_range : FlowMod → Entry → Bool
is_in_its_range change e =
    range_contains by_place (Included (place_at (exact_destination change.matching) (65535 - change.priority) 0)) (Included (place_at (exact_destination change.matching) (65535 - change.priority) (2 ^ 64 - 1))) e.0

-- the row of a change's match and priority, where one is looked for
abbrev pub row_with_key : FlowMod → List Entry → Option Entry
row_with_key change es =
    find (λ e. same_key e.1 (row_of change)) (entries_ranked (exact_destination change.matching) (65535 - change.priority) es)

pub key_found : (change : FlowMod) (es : List Entry) (e : Entry) → row_with_key change es ≡ Some e → IsIn e es × (same_key e.1 (row_of change) ≡ true)
key_found change es e found =
    let p = find_in (has_its_key change) (is_in_its_range change) es e found in (p.0, p.1)

pub key_absent : (change : FlowMod) (next : ℕ) (es : List Entry) (e : Entry) → next < 2 ^ 64 → AreIndexed next es → row_with_key change es ≡ None → IsIn e es → same_key e.1 (row_of change) ≡ false
key_absent change next es e small a found i = by_test (same_key e.1 (row_of change)) refl
  where
    by_test : (b : Bool) → same_key e.1 (row_of change) ≡ b → same_key e.1 (row_of change) ≡ false
    by_test false is = is
    by_test true is =
        let k = key_is e.1 (row_of change) is in
        let at = placed next es e a i in
        let destination : e.0.destination ≡ exact_destination change.matching = ap (λ (p : Place). p.destination) at.place ∙ ap (λ (m : Match). exact_destination m) k.matching in
        let rank : e.0.rank ≡ 65535 - change.priority = ap (λ (p : Place). p.rank) at.place ∙ ap (λ (n : ℕ). 65535 - n) k.priority in
        find_none (has_its_key change) (is_in_its_range change) es e found i
        (in_range (exact_destination change.matching) (65535 - change.priority) 0 (65535 - change.priority) (2 ^ 64 - 1) e.0 destination (omega (arith, rank)) (omega arith) (omega (arith, rank)) (omega (arith, at.below, small)))

-- every other row has another key
pub others_differ : (change : FlowMod) (next : ℕ) (es : List Entry) (w e : Entry) → AreIndexed next es → IsIn w es → same_key w.1 (row_of change) ≡ true → IsIn e es → e ≢ w → same_key e.1 (row_of change) ≡ false
others_differ change next es w e a i same j apart = by_test (same_key e.1 (row_of change)) refl
  where
    by_test : (b : Bool) → same_key e.1 (row_of change) ≡ b → same_key e.1 (row_of change) ≡ false
    by_test false is = is
    by_test true is = absurd (apart (one_of_key next es e w a j i (key_both e.1 w.1 (row_of change) is same)))

unnamed : (change : FlowMod) (r : Row) → is_strict change.command ≡ true → same_key r (row_of change) ≡ false → is_named change r ≡ false
unnamed change r strict other = rw (strict, other) refl

unchanged : (change : FlowMod) (r : Row) → is_named change r ≡ false → modified change r ≡ r
unchanged change r out = rw out refl

changed : (change : FlowMod) (r : Row) → is_named change r ≡ true → modified change r ≡ record r { actions = change.actions }
changed change r named = rw named refl

stays : (change : FlowMod) (r : Row) → is_named change r ≡ false → not (is_deleted change r) ≡ true
stays change r out = rw out refl

-- ---- MODIFY_STRICT

pub modify_absent : (change : FlowMod) (next : ℕ) (es : List Entry) → is_strict change.command ≡ true → next < 2 ^ 64 → AreIndexed next es → row_with_key change es ≡ None → es ≡ each_row (modified change) es
modify_absent change next es strict small a found =
    sym (all_fixed (modified change) es (λ e i. unchanged change e.1 (unnamed change e.1 strict (key_absent change next es e small a found i))))

pub modify_unnamed : (change : FlowMod) (next : ℕ) (es : List Entry) (w : Entry) → is_strict change.command ≡ true → AreIndexed next es → row_with_key change es ≡ Some w → is_named change w.1 ≡ false → es ≡ each_row (modified change) es
modify_unnamed change next es w strict a found out =
    let p = key_found change es w found in
    sym (all_fixed (modified change) es (λ e i. unchanged change e.1 (by_test e i (same_key e.1 (row_of change)) refl p.0 p.1)))
  where
    by_test : (e : Entry) → IsIn e es → (b : Bool) → same_key e.1 (row_of change) ≡ b → IsIn w es → same_key w.1 (row_of change) ≡ true → is_named change e.1 ≡ false
    by_test e i false is j same = unnamed change e.1 strict is
    by_test e i true is j same = subst (λ (x : Entry). is_named change x.1 ≡ false) (sym (one_of_key next es e w a i j (key_both e.1 w.1 (row_of change) is same))) out

pub modify_named : (change : FlowMod) (next : ℕ) (es : List Entry) (p : Place) (r : Row) → is_strict change.command ≡ true → AreIndexed next es → row_with_key change es ≡ Some (p, r) → is_named change r ≡ true → set_value (is_at (by_place p)) es (record r { actions = change.actions }) ≡ each_row (modified change) es
modify_named change next es p r strict a found named =
    let k = key_found change es (p, r) found in
    set_is_each next es p r (record r { actions = change.actions }) (modified change) a k.0 (changed change r named) (λ e i apart. unchanged change e.1 (unnamed change e.1 strict (others_differ change next es (p, r) e a k.0 k.1 i apart)))

-- ---- DELETE_STRICT

abbrev is_kept : FlowMod → Row → Bool
is_kept change r = not (is_deleted change r)

pub delete_absent : (change : FlowMod) (next : ℕ) (es : List Entry) → is_strict change.command ≡ true → next < 2 ^ 64 → AreIndexed next es → row_with_key change es ≡ None → es ≡ rows_that (λ r. not (is_deleted change r)) es
delete_absent change next es strict small a found =
    sym (all_kept (is_kept change) es (λ e i. stays change e.1 (unnamed change e.1 strict (key_absent change next es e small a found i))))

pub delete_kept : (change : FlowMod) (next : ℕ) (es : List Entry) (w : Entry) → is_strict change.command ≡ true → AreIndexed next es → row_with_key change es ≡ Some w → is_deleted change w.1 ≡ false → es ≡ rows_that (λ r. not (is_deleted change r)) es
delete_kept change next es w strict a found out =
    let p = key_found change es w found in
    sym (all_kept (is_kept change) es (λ e i. by_test e i (same_key e.1 (row_of change)) refl p.0 p.1))
  where
    by_test : (e : Entry) → IsIn e es → (b : Bool) → same_key e.1 (row_of change) ≡ b → IsIn w es → same_key w.1 (row_of change) ≡ true → is_kept change e.1 ≡ true
    by_test e i false is j same = stays change e.1 (unnamed change e.1 strict is)
    by_test e i true is j same = subst (λ (x : Entry). is_kept change x.1 ≡ true) (sym (one_of_key next es e w a i j (key_both e.1 w.1 (row_of change) is same))) (ap not out)

pub delete_taken : (change : FlowMod) (next : ℕ) (es : List Entry) (p : Place) (r : Row) → is_strict change.command ≡ true → AreIndexed next es → row_with_key change es ≡ Some (p, r) → is_deleted change r ≡ true → remove_entry (is_at (by_place p)) es ≡ rows_that (λ x. not (is_deleted change x)) es
delete_taken change next es p r strict a found gone =
    let k = key_found change es (p, r) found in
    remove_is_filter next es p r (is_kept change) a k.0 (ap not gone) (λ e i apart. stays change e.1 (unnamed change e.1 strict (others_differ change next es (p, r) e a k.0 k.1 i apart)))

-- the row that was found is at its place
pub lookup_found : (change : FlowMod) (next : ℕ) (es : List Entry) (p : Place) (r : Row) → AreIndexed next es → row_with_key change es ≡ Some (p, r) → lookup (is_at (by_place p)) es ≡ Some r
lookup_found change next es p r a found = at_place next es p r a (key_found change es (p, r) found).0

-- ---- what commands do

pub modified_keeps : (change : FlowMod) → KeepsKeys (modified change)
modified_keeps change r = by_test (is_named change r)
  where
    by_test : (b : Bool) → HaveOneKey (if b then record r { actions = change.actions } else r) r
    by_test true = record { priority = refl; matching = refl }
    by_test false = record { priority = refl; matching = refl }

pub step_modify : (change : FlowMod) (rows : List Row) → change.command ≡ Modify → table_step rows change ≡ map (modified change) rows
step_modify change rows e = rw e refl

pub step_modify_strict : (change : FlowMod) (rows : List Row) → change.command ≡ ModifyStrict → table_step rows change ≡ map (modified change) rows
step_modify_strict change rows e = rw e refl

pub step_delete : (change : FlowMod) (rows : List Row) → change.command ≡ Delete → table_step rows change ≡ filter (λ r. not (is_deleted change r)) rows
step_delete change rows e = rw e refl

pub step_delete_strict : (change : FlowMod) (rows : List Row) → change.command ≡ DeleteStrict → table_step rows change ≡ filter (λ r. not (is_deleted change r)) rows
step_delete_strict change rows e = rw e refl
