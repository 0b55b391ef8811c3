-- What changes of rows at their places make of the rows in the order of adding.
use Rattle.std.proofs.Common.{◌≡◌, ℕ, zero, suc, ◌+◌, ◌^◌, ◌<◌, ◌≤◌, Bool, true, false, not, List, [], ◌∷◌, ◌++◌, length, map, filter, refl, sym, ◌∙◌, ap, arith, subst}
use Rattle.std.specs.Prelude.{Option, Some, None, nat_eq, ◌&&◌, is_some, IsSome, if◌then◌else◌}
use Rattle.std.specs.List.{AllByRecursion, list_any}
use Rattle.std.specs.Option.{option_map}
use Rattle.std.specs.BTreeMap.{is_at, insert_entry}
use Rattle.std.specs.Map.{lookup, set_value}
use Rattle.std.proofs.lemmas.Bool.{ne_eqb, eq-eqb, eqb-false, le-leb, lt-leb}
use Rattle.std.proofs.lemmas.Map.Entries.{option_filter}
use Rattle.of_types.specs.declared.message.FlowMod.{FlowMod}
use Rattle.of_types.specs.declared.message.Row.{Row}
use Rattle.of_types.specs.declared.message.FlowCommand.TheVariants.{Add}
use Rattle.flow_table.specs.Table.{is_add, lacks_room, row_of, same_key, with_row}
use Rattle.flow_index.specs.declared.place.Place.{Place}
use Rattle.flow_index.specs.Places.{place_of}
use Rattle.flow_index.specs.Entries.{by_place}
use Rattle.flow_index.specs.Index.{each_row, rows_that, numbered_rows, rows_below, AreSeparate, AreIndexed}
use Rattle.flow_table.proofs.Keys.{HaveOneKey, key_is, key_both, key_back, unlike}
use Rattle.flow_index.proofs.Listed.{listed_same, listed_map, listed_filter, listed_all, listed_any, listed_more, listed_replaced, none_any, replaced, with_new}
use Rattle.flow_index.proofs.Indexed.{Entry, KeepsKeys, all_in, all_from, placed, one_of_key, numbered_absent, numbered_in, in_numbered, numbered_each, numbered_that, numbered_insert, indexed_insert, set_is_each}
use Rattle.flow_index.proofs.Strict.{row_with_key, key_found, key_absent, others_differ, lookup_found}

pub view_each : (f : Row → Row) (es : List Entry) (n : ℕ) → rows_below (numbered_rows (each_row f es)) n ≡ map f (rows_below (numbered_rows es) n)
view_each f es n =
    listed_same (numbered_rows (each_row f es)) (λ m. option_map f (numbered_rows es m)) n (λ m lt. numbered_each f es m)
    ∙ listed_map f (numbered_rows es) n

pub view_that : (q : Row → Bool) (next : ℕ) (es : List Entry) (n : ℕ) → AreIndexed next es → rows_below (numbered_rows (rows_that q es)) n ≡ filter q (rows_below (numbered_rows es) n)
view_that q next es n a =
    listed_same (numbered_rows (rows_that q es)) (λ m. option_filter q (numbered_rows es m)) n (λ m lt. numbered_that q next es m a)
    ∙ listed_filter q (numbered_rows es) n

new_numbers : (next : ℕ) (es : List Entry) (p : Place) → AreIndexed next es → p.number ≡ next → AllByRecursion (λ e. nat_eq e.0.number p.number ≡ false) es
new_numbers next es p a is =
    all_from _ es (λ e i. let at = placed next es e a i in ne_eqb e.0.number p.number (λ same. absurd (omega (arith, at.below, same, is))))

view_insert : (next : ℕ) (es : List Entry) (p : Place) (r : Row) → AreIndexed next es → p.number ≡ next → rows_below (numbered_rows (insert_entry by_place es p r)) (suc next) ≡ rows_below (numbered_rows es) next ++ r ∷ []
view_insert next es p r a is =
    let new = new_numbers next es p a is in
    let earlier : rows_below (numbered_rows (insert_entry by_place es p r)) next ≡ rows_below (numbered_rows es) next =
    listed_same (numbered_rows (insert_entry by_place es p r)) (numbered_rows es) next (λ m lt. numbered_insert es p r m new ∙ rw (ne_eqb p.number m (λ same. absurd (omega (arith, lt, same, is)))) refl) in
    let last : numbered_rows (insert_entry by_place es p r) next ≡ Some r = numbered_insert es p r next new ∙ rw (eq-eqb p.number next is) refl in
    rw (earlier, last) refl

-- ---- ADD of a new row

other_keys : (change : FlowMod) (next : ℕ) (es : List Entry) → next < 2 ^ 64 → AreIndexed next es → row_with_key change es ≡ None → AllByRecursion (λ r. same_key r (row_of change) ≡ false) (rows_below (numbered_rows es) next)
other_keys change next es small a found =
    listed_all (λ r. same_key r (row_of change) ≡ false) (numbered_rows es) next (λ m r lt e. key_absent change next es (place_of r m, r) small a found (numbered_in next es m r a e))

pub new_view : (change : FlowMod) (next : ℕ) (es : List Entry) → next < 2 ^ 64 → AreIndexed next es → row_with_key change es ≡ None
    → rows_below (numbered_rows (insert_entry by_place es (place_of (row_of change) next) (row_of change))) (suc next) ≡ with_row (rows_below (numbered_rows es) next) (row_of change)
new_view change next es small a found =
    view_insert next es (place_of (row_of change) next) (row_of change) a refl
    ∙ sym (with_new (rows_below (numbered_rows es) next) (row_of change) (other_keys change next es small a found))

pub new_indexed : (change : FlowMod) (next : ℕ) (es : List Entry) → next < 2 ^ 64 → change.priority < 2 ^ 16 → AreIndexed next es → row_with_key change es ≡ None
    → AreIndexed (next + 1) (insert_entry by_place es (place_of (row_of change) next) (row_of change))
new_indexed change next es small fits a found =
    indexed_insert next es (place_of (row_of change) next) (row_of change) a
    (record { place = refl; below = omega arith; fits = fits })
    (all_from _ es (λ e i. let at = placed next es e a i in
    record { numbers = ne_eqb e.0.number next (λ same. absurd (omega (arith, at.below, same))); keys = key_absent change next es e small a found i }))
    (all_from _ es (λ e i. let at = placed next es e a i in
    record { numbers = ne_eqb next e.0.number (λ same. absurd (omega (arith, at.below, same))); keys = back e.1 (key_absent change next es e small a found i) }))
  where
    back : (r : Row) → same_key r (row_of change) ≡ false → same_key (row_of change) r ≡ false
    back r differ = by_test (same_key (row_of change) r) refl
      where
        by_test : (b : Bool) → same_key (row_of change) r ≡ b → same_key (row_of change) r ≡ false
        by_test true is = absurd (unlike (sym differ ∙ key_back (row_of change) r is))
        by_test false is = is

-- ---- ADD of a row that is known

pub keeps_keys : (row : Row) → KeepsKeys (replaced row)
keeps_keys row r = by_test (same_key r row) refl
  where
    by_test : (b : Bool) → same_key r row ≡ b → HaveOneKey (if b then row else r) r
    by_test false is = record { priority = refl; matching = refl }
    by_test true is = let k = key_is r row is in record { priority = sym k.priority; matching = sym k.matching }

pub known_entries : (change : FlowMod) (next : ℕ) (es : List Entry) (p : Place) (r : Row) → AreIndexed next es → row_with_key change es ≡ Some (p, r) → set_value (is_at (by_place p)) es (row_of change) ≡ each_row (replaced (row_of change)) es
known_entries change next es p r a found =
    let k = key_found change es (p, r) found in
    let here : replaced (row_of change) r ≡ row_of change = rw k.1 refl in
    set_is_each next es p r (row_of change) (replaced (row_of change)) a k.0 here (λ e i apart. rw (others_differ change next es (p, r) e a k.0 k.1 i apart) refl)

pub known_view : (change : FlowMod) (next : ℕ) (es : List Entry) (p : Place) (r : Row) → AreIndexed next es → row_with_key change es ≡ Some (p, r)
    → rows_below (numbered_rows (each_row (replaced (row_of change)) es)) next ≡ with_row (rows_below (numbered_rows es) next) (row_of change)
known_view change next es p r a found =
    let k = key_found change es (p, r) found in
    let at = placed next es (p, r) a k.0 in
    view_each (replaced (row_of change)) es next
    ∙ sym (listed_replaced (numbered_rows es) (row_of change) next p.number r at.below (in_numbered next es p r a k.0) k.1 (λ m s e same.
    ap (λ (x : Entry). x.0.number) (one_of_key next es (place_of s m, s) (p, r) a (numbered_in next es m s a e) k.0 (key_both s r (row_of change) same k.1))))

pub is_there : (change : FlowMod) (next : ℕ) (es : List Entry) (p : Place) (r : Row) → AreIndexed next es → row_with_key change es ≡ Some (p, r) → IsSome (lookup (is_at (by_place p)) es)
is_there change next es p r a found = subst (λ (o : Option Row). IsSome o) (sym (lookup_found change next es p r a found)) refl

-- ---- room

none_listed : (n : ℕ) → rows_below (numbered_rows []) n ≡ []
none_listed zero = refl
none_listed (suc n) = rw (none_listed n) refl

pub view_length : (next : ℕ) (es : List Entry) → AreIndexed next es → length (rows_below (numbered_rows es) next) ≡ length es
view_length next [] a = ap length (none_listed next)
view_length next (x ∷ xs) a =
    let gone = numbered_absent xs x.0.number (all_from _ xs (λ e i. ne_eqb e.0.number x.0.number (λ same. eqb-false x.0.number e.0.number (all_in (AreSeparate x) xs e a.1 i).numbers (sym same)))) in
    let here : numbered_rows (x ∷ xs) x.0.number ≡ Some x.1 = rw (eq-eqb x.0.number x.0.number refl) refl in
    listed_more (numbered_rows xs) (numbered_rows (x ∷ xs)) next x.0.number x.1 a.0.below gone here (λ m apart. rw (ne_eqb x.0.number m (λ same. apart (sym same))) refl)
    ∙ omega (arith, view_length next xs a.2)

-- a row of the change's key is there where one is found
is_known : (change : FlowMod) (next : ℕ) (es : List Entry) → next < 2 ^ 64 → AreIndexed next es → is_some (row_with_key change es) ≡ list_any (λ r. same_key r (row_of change)) (rows_below (numbered_rows es) next)
is_known change next es small a = by_found (row_with_key change es) refl
  where
    by_found : (o : Option Entry) → row_with_key change es ≡ o → is_some o ≡ list_any (λ r. same_key r (row_of change)) (rows_below (numbered_rows es) next)
    by_found None found = sym (none_any (λ r. same_key r (row_of change)) (rows_below (numbered_rows es) next) (other_keys change next es small a found))
    by_found (Some w) found =
        let k = key_found change es w found in
        let at = placed next es w a k.0 in
        sym (listed_any (λ r. same_key r (row_of change)) (numbered_rows es) next w.0.number w.1 at.below (in_numbered next es w.0 w.1 a k.0) k.1)

some_seen : {A B : Type 0} (see : A → B) (o : Option A) → is_some (option_map see o) ≡ is_some o
some_seen see None = refl
some_seen see (Some x) = refl

turned : (b c : Bool) → b ≡ not c → c ≡ not b
turned true true e = absurd cc
turned true false e = refl
turned false true e = refl
turned false false e = absurd cc

-- what is seen of an answer says whether the row is new
pub is_new : {A : Type 0} (see : A → Entry) (o : Option A) (new : Bool) (change : FlowMod) (next : ℕ) (es : List Entry) → next < 2 ^ 64 → AreIndexed next es → option_map see o ≡ row_with_key change es → is_some o ≡ not new
    → new ≡ not (list_any (λ r. same_key r (row_of change)) (rows_below (numbered_rows es) next))
is_new see o new change next es small a seen told =
    turned _ new (sym (is_known change next es small a) ∙ ap is_some (sym seen) ∙ some_seen see o ∙ told)

pub lacks_at : (change : FlowMod) (rows : List Row) (new : Bool) → change.command ≡ Add → 2048 ≤ length rows → new ≡ not (list_any (λ r. same_key r (row_of change)) rows) → new ≡ lacks_room rows change
lacks_at change rows new add long is = rw (add, le-leb 2048 (length rows) long) is

pub has_room : (change : FlowMod) (rows : List Row) → length rows < 2048 → lacks_room rows change ≡ false
has_room change rows short = rw (lt-leb 2048 (length rows) short) (by_command (is_add change.command))
  where
    by_command : (b : Bool) → (b && false && not (list_any (λ r. same_key r (row_of change)) rows)) ≡ false
    by_command true = refl
    by_command false = refl
