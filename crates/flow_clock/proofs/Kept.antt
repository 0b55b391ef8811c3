-- What changes of rows, and of the times of their keys, make of what is kept.
use Rattle.std.proofs.Common.{◌≡◌, ℕ, ◌+◌, Bool, true, false, not, List, [], ◌∷◌, ◌++◌, map, filter, append_assoc, append-nil, option_to_list, refl, sym, ◌∙◌, ap, ap₂, subst}
use Rattle.std.specs.Prelude.{Option, Some, None, nat_eq, bit_and, option_map, filter_map, if◌then◌else◌, ◌&&◌, ◌||◌}
use Rattle.std.specs.List.{AllByRecursion, list_any, cons_option}
use Rattle.std.specs.Int.Bits.{and_zero_r}
use Rattle.std.proofs.lemmas.Bool.{eq-eqb}
use Rattle.of_types.specs.declared.message.FlowCommand.{FlowCommand}
use Rattle.of_types.specs.declared.message.FlowCommand.TheVariants.{Add, Modify, ModifyStrict, Delete, DeleteStrict}
use Rattle.of_types.specs.declared.message.FlowMod.{FlowMod}
use Rattle.of_types.specs.declared.message.Fields.{Fields}
use Rattle.of_types.specs.declared.message.Row.{Row}
use Rattle.flow_table.specs.Table.{chosen_row, row_of, same_key, with_row, is_named, modified, is_deleted, is_delete, table_step, IsCause}
use Rattle.flow_table.specs.declared.rows.TableFault.{TableFault}
use Rattle.flow_table.specs.declared.rows.TableFault.TheVariants as faults
use Rattle.flow_clock.specs.declared.times.Expired.{Expired}
use Rattle.flow_clock.specs.declared.times.Key.{Key}
use Rattle.flow_clock.specs.declared.times.Times.{Times}
use Rattle.flow_clock.specs.History.{is_same}
use Rattle.flow_clock.specs.Clocked.{Kept, Clocked, key_of, kept_row, rows_in, with_kept, kept_modified, kept_by, kept_hit, new_times, counted_hit, clock_hit, clock_risen, leaves, expired_row, is_over_at, expired_at, expired_by, AreKeysApart, leaves_times, removal, staying}
use Rattle.flow_table.proofs.Keys.{key_is, key_from, key_both, key_back, unlike}

-- ---- rows and their times

abbrev pub TimesOf : Type 0
TimesOf = Key → Option Times

pub rows_are : (times : TimesOf) (rows : List Row) → map (λ (k : Kept). k.row) (map (kept_row times) rows) ≡ rows
rows_are times [] = refl
rows_are times (row ∷ rows) = ap (λ rs. row ∷ rs) (rows_are times rows)

pub rows_seen : (times : TimesOf) (rows : List Row) (clock : ℕ) (a : Clocked) → record { clock = clock; rows = map (kept_row times) rows } ≡ a → rows_in a ≡ rows
rows_seen times rows clock a is = ap (λ (b : Clocked). rows_in b) (sym is) ∙ rows_are times rows

pub clock_seen : (kept : List Kept) (clock : ℕ) (a : Clocked) → record { clock = clock; rows = kept } ≡ a → clock ≡ a.clock
clock_seen kept clock a is = ap (λ (b : Clocked). b.clock) is

pub kept_seen : (kept : List Kept) (clock : ℕ) (a : Clocked) → record { clock = clock; rows = kept } ≡ a → kept ≡ a.rows
kept_seen kept clock a is = ap (λ (b : Clocked). b.rows) is

-- ---- a test of keys that tells rows apart

abbrev pub TellsKeys : (Key → Key → Bool) → Type 0
TellsKeys at = (a b : Row) → at (key_of a) (key_of b) ≡ same_key a b

-- these are the times of a key, and those of any other are what they were
abbrev pub IsSetAt : (Key → Key → Bool) → Key → Option Times → TimesOf → TimesOf → Type 0
IsSetAt at key times old new = (q : Key) → new q ≡ (if at key q then times else old q)

pub one_key : (a b : Row) → same_key a b ≡ true → key_of a ≡ key_of b
one_key a b same =
    let k = key_is a b same in
    ap (λ (p : ℕ). record { priority = p; matching = a.matching }) k.priority ∙ ap (λ m. record { priority = b.priority; matching = m }) k.matching

pub itself : (a : Row) → same_key a a ≡ true
itself a = key_from a a (record { priority = refl; matching = refl })

back_false : (a b : Row) → same_key a b ≡ false → same_key b a ≡ false
back_false a b differ = by_test (same_key b a) refl
  where
    by_test : (t : Bool) → same_key b a ≡ t → same_key b a ≡ false
    by_test false is = is
    by_test true is = absurd (unlike (sym differ ∙ key_back b a is))

-- ---- MODIFY and DELETE

modified_row : (times : TimesOf) (change : FlowMod) (row : Row) (b : Bool) → kept_row times (if b then record row { actions = change.actions } else row) ≡ record (kept_row times row) { row = if b then record row { actions = change.actions } else row }
modified_row times change row true = refl
modified_row times change row false = refl

modified_all : (times : TimesOf) (change : FlowMod) (rows : List Row) → map (kept_row times) (map (modified change) rows) ≡ map (kept_modified change) (map (kept_row times) rows)
modified_all times change [] = refl
modified_all times change (row ∷ rows) = rw (modified_row times change row (is_named change row)) (ap (λ ks. kept_modified change (kept_row times row) ∷ ks) (modified_all times change rows))

kept_that : (times : TimesOf) (p : Row → Bool) (rows : List Row) → map (kept_row times) (filter p rows) ≡ filter (λ (k : Kept). p k.row) (map (kept_row times) rows)
kept_that times p [] = refl
kept_that times p (row ∷ rows) = by_test (p row) (kept_that times p rows)
  where
    by_test : (b : Bool) → map (kept_row times) (filter p rows) ≡ filter (λ (k : Kept). p k.row) (map (kept_row times) rows) → map (kept_row times) (if b then row ∷ filter p rows else filter p rows) ≡ (if b then kept_row times row ∷ filter (λ (k : Kept). p k.row) (map (kept_row times) rows) else filter (λ (k : Kept). p k.row) (map (kept_row times) rows))
    by_test true rest = ap (λ ks. kept_row times row ∷ ks) rest
    by_test false rest = rest

pub step_add : (change : FlowMod) (rows : List Row) → change.command ≡ Add → table_step rows change ≡ with_row rows (row_of change)
step_add change rows e = rw e refl

pub step_modify : (change : FlowMod) (rows : List Row) → change.command ≡ Modify → table_step rows change ≡ map (modified change) rows
step_modify change rows e = rw e refl

pub step_modify_strict : (change : FlowMod) (rows : List Row) → change.command ≡ ModifyStrict → table_step rows change ≡ map (modified change) rows
step_modify_strict change rows e = rw e refl

pub step_delete : (change : FlowMod) (rows : List Row) → change.command ≡ Delete → table_step rows change ≡ filter (λ row. not (is_deleted change row)) rows
step_delete change rows e = rw e refl

pub step_delete_strict : (change : FlowMod) (rows : List Row) → change.command ≡ DeleteStrict → table_step rows change ≡ filter (λ row. not (is_deleted change row)) rows
step_delete_strict change rows e = rw e refl

kept_by_is : (clock : ℕ) (change : FlowMod) (kept : List Kept) (command : FlowCommand) → change.command ≡ command → kept_by change.command clock change kept ≡ kept_by command clock change kept
kept_by_is clock change kept command e = ap (λ (c : FlowCommand). kept_by c clock change kept) e

pub kept_changed : (times : TimesOf) (clock : ℕ) (change : FlowMod) (rows : List Row) → leaves_times change.command ≡ true → map (kept_row times) (table_step rows change) ≡ kept_by change.command clock change (map (kept_row times) rows)
kept_changed times clock change rows stays = by_command change.command refl (sym stays)
  where
    kept : List Kept
    kept = map (kept_row times) rows

    by_command : (command : FlowCommand) → change.command ≡ command → true ≡ leaves_times command → map (kept_row times) (table_step rows change) ≡ kept_by change.command clock change (map (kept_row times) rows)
    by_command Add is leaves = absurd cc
    by_command Modify is leaves = ap (λ (rs : List Row). map (kept_row times) rs) (step_modify change rows is) ∙ modified_all times change rows ∙ sym (kept_by_is clock change kept Modify is)
    by_command ModifyStrict is leaves = ap (λ (rs : List Row). map (kept_row times) rs) (step_modify_strict change rows is) ∙ modified_all times change rows ∙ sym (kept_by_is clock change kept ModifyStrict is)
    by_command Delete is leaves = ap (λ (rs : List Row). map (kept_row times) rs) (step_delete change rows is) ∙ kept_that times (λ row. not (is_deleted change row)) rows ∙ sym (kept_by_is clock change kept Delete is)
    by_command DeleteStrict is leaves = ap (λ (rs : List Row). map (kept_row times) rs) (step_delete_strict change rows is) ∙ kept_that times (λ row. not (is_deleted change row)) rows ∙ sym (kept_by_is clock change kept DeleteStrict is)

-- ---- ADD

same_rest : (at : Key → Key → Bool) → TellsKeys at → (old new : TimesOf) (times : Option Times) (row : Row) → IsSetAt at (key_of row) times old new → (rows : List Row) → AllByRecursion (λ r. same_key row r ≡ false) rows → map (kept_row new) rows ≡ map (kept_row old) rows
same_rest at tells old new times row set [] a = refl
same_rest at tells old new times row set (r ∷ rows) a =
    let same : new (key_of r) ≡ old (key_of r) = set (key_of r) ∙ rw (tells row r, a.0) refl in
    rw same (ap (λ ks. kept_row old r ∷ ks) (same_rest at tells old new times row set rows a.1))

apart_from : (x row : Row) → same_key x row ≡ true → (rows : List Row) → AllByRecursion (λ r. same_key x r ≡ false) rows → AllByRecursion (λ r. same_key row r ≡ false) rows
apart_from x row same [] a = tt
apart_from x row same (r ∷ rows) a = (by_test (same_key row r) refl, apart_from x row same rows a.1)
  where
    by_test : (t : Bool) → same_key row r ≡ t → same_key row r ≡ false
    by_test false is = is
    by_test true is = absurd (unlike (sym a.0 ∙ key_both x r row same (key_back row r is)))

pub kept_added : (at : Key → Key → Bool) → TellsKeys at → (old new : TimesOf) (times : Option Times) (row : Row) → IsSetAt at (key_of row) times old new → (rows : List Row) → AreKeysApart rows
    → map (kept_row new) (with_row rows row) ≡ with_kept (map (kept_row old) rows) (record { row = row; times = times })
kept_added at tells old new times row set [] a =
    let here : new (key_of row) ≡ times = set (key_of row) ∙ rw (tells row row, itself row) refl in
    rw here refl
kept_added at tells old new times row set (x ∷ rows) a = by_test (same_key x row) refl (kept_added at tells old new times row set rows a.1)
  where
    here : new (key_of row) ≡ times
    here = set (key_of row) ∙ rw (tells row row, itself row) refl

    by_test : (b : Bool) → same_key x row ≡ b → map (kept_row new) (with_row rows row) ≡ with_kept (map (kept_row old) rows) (record { row = row; times = times })
        → map (kept_row new) (if b then row ∷ rows else x ∷ with_row rows row) ≡ (if b then record { row = row; times = times } ∷ map (kept_row old) rows else kept_row old x ∷ with_kept (map (kept_row old) rows) (record { row = row; times = times }))
    by_test true is rest = rw here (ap (λ ks. record { row = row; times = times } ∷ ks) (same_rest at tells old new times row set rows (apart_from x row is rows a.0)))
    by_test false is rest =
        let same : new (key_of x) ≡ old (key_of x) = set (key_of x) ∙ rw (tells row x, back_false x row is) refl in
        rw same (ap (λ ks. kept_row old x ∷ ks) rest)

-- ---- keys stay apart

apart_with : (x row : Row) (rows : List Row) → same_key x row ≡ false → AllByRecursion (λ r. same_key x r ≡ false) rows → AllByRecursion (λ r. same_key x r ≡ false) (with_row rows row)
apart_with x row [] differ a = (differ, tt)
apart_with x row (r ∷ rows) differ a = by_test (same_key r row) (apart_with x row rows differ a.1)
  where
    by_test : (b : Bool) → AllByRecursion (λ r. same_key x r ≡ false) (with_row rows row) → AllByRecursion (λ r. same_key x r ≡ false) (if b then row ∷ rows else r ∷ with_row rows row)
    by_test true rest = (differ, a.1)
    by_test false rest = (a.0, rest)

pub apart_added : (row : Row) (rows : List Row) → AreKeysApart rows → AreKeysApart (with_row rows row)
apart_added row [] a = (tt, tt)
apart_added row (x ∷ rows) a = by_test (same_key x row) refl (apart_added row rows a.1)
  where
    by_test : (b : Bool) → same_key x row ≡ b → AreKeysApart (with_row rows row) → AreKeysApart (if b then row ∷ rows else x ∷ with_row rows row)
    by_test true is rest = (apart_from x row is rows a.0, a.1)
    by_test false is rest = (apart_with x row rows is a.0, rest)

apart_some : (x : Row) (p : Row → Bool) (rows : List Row) → AllByRecursion (λ r. same_key x r ≡ false) rows → AllByRecursion (λ r. same_key x r ≡ false) (filter p rows)
apart_some x p [] a = tt
apart_some x p (r ∷ rows) a = by_test (p r) (apart_some x p rows a.1)
  where
    by_test : (b : Bool) → AllByRecursion (λ r. same_key x r ≡ false) (filter p rows) → AllByRecursion (λ r. same_key x r ≡ false) (if b then r ∷ filter p rows else filter p rows)
    by_test true rest = (a.0, rest)
    by_test false rest = rest

pub apart_that : (p : Row → Bool) (rows : List Row) → AreKeysApart rows → AreKeysApart (filter p rows)
apart_that p [] a = tt
apart_that p (r ∷ rows) a = by_test (p r) (apart_that p rows a.1)
  where
    by_test : (b : Bool) → AreKeysApart (filter p rows) → AreKeysApart (if b then r ∷ filter p rows else filter p rows)
    by_test true rest = (apart_some r p rows a.0, rest)
    by_test false rest = rest

keys_stay : (change : FlowMod) (a b : Row) → same_key (modified change a) (modified change b) ≡ same_key a b
keys_stay change a b = by_test (is_named change a) (is_named change b)
  where
    by_test : (s t : Bool) → same_key (if s then record a { actions = change.actions } else a) (if t then record b { actions = change.actions } else b) ≡ same_key a b
    by_test true true = refl
    by_test true false = refl
    by_test false true = refl
    by_test false false = refl

apart_each : (change : FlowMod) (x : Row) (rows : List Row) → AllByRecursion (λ r. same_key x r ≡ false) rows → AllByRecursion (λ r. same_key (modified change x) r ≡ false) (map (modified change) rows)
apart_each change x [] a = tt
apart_each change x (r ∷ rows) a = (keys_stay change x r ∙ a.0, apart_each change x rows a.1)

apart_modified : (change : FlowMod) (rows : List Row) → AreKeysApart rows → AreKeysApart (map (modified change) rows)
apart_modified change [] a = tt
apart_modified change (x ∷ rows) a = (apart_each change x rows a.0, apart_modified change rows a.1)

pub apart_step : (change : FlowMod) (rows : List Row) → AreKeysApart rows → AreKeysApart (table_step rows change)
apart_step change rows a = by_command change.command refl
  where
    by_command : (command : FlowCommand) → change.command ≡ command → AreKeysApart (table_step rows change)
    by_command Add is = subst AreKeysApart (sym (step_add change rows is)) (apart_added (row_of change) rows a)
    by_command Modify is = subst AreKeysApart (sym (step_modify change rows is)) (apart_modified change rows a)
    by_command ModifyStrict is = subst AreKeysApart (sym (step_modify_strict change rows is)) (apart_modified change rows a)
    by_command Delete is = subst AreKeysApart (sym (step_delete change rows is)) (apart_that (λ row. not (is_deleted change row)) rows a)
    by_command DeleteStrict is = subst AreKeysApart (sym (step_delete_strict change rows is)) (apart_that (λ row. not (is_deleted change row)) rows a)

-- ---- a frame

pub kept_counted : (at : Key → Key → Bool) → TellsKeys at → (old new : TimesOf) (clock octets : ℕ) (chosen : Row) → IsSetAt at (key_of chosen) (option_map (counted_hit clock octets) (old (key_of chosen))) old new → (rows : List Row)
    → map (kept_row new) rows ≡ map (kept_hit clock (Some chosen) octets) (map (kept_row old) rows)
kept_counted at tells old new clock octets chosen set [] = refl
kept_counted at tells old new clock octets chosen set (row ∷ rows) =
    rw here (ap (λ ks. kept_hit clock (Some chosen) octets (kept_row old row) ∷ ks) (kept_counted at tells old new clock octets chosen set rows))
  where
    by_test : (b : Bool) → same_key row chosen ≡ b → (if b then option_map (counted_hit clock octets) (old (key_of chosen)) else old (key_of row)) ≡ (if b then option_map (counted_hit clock octets) (old (key_of row)) else old (key_of row))
    by_test true is = ap (λ (k : Key). option_map (counted_hit clock octets) (old k)) (sym (one_key row chosen is))
    by_test false is = refl

    turned : same_key chosen row ≡ same_key row chosen
    turned = by_both (same_key row chosen) refl
      where
        by_both : (b : Bool) → same_key row chosen ≡ b → same_key chosen row ≡ b
        by_both true is = key_back row chosen is
        by_both false is = back_false row chosen is

    here : new (key_of row) ≡ (if same_key row chosen then option_map (counted_hit clock octets) (old (key_of row)) else old (key_of row))
    here = set (key_of row) ∙ rw (tells chosen row, turned) (by_test (same_key row chosen) refl)

-- where no row has times there is nothing to count
pub kept_untimed : (times : TimesOf) (clock octets : ℕ) (chosen : Option Row) → ((q : Key) → times q ≡ None) → (rows : List Row) →
    map (kept_hit clock chosen octets) (map (kept_row times) rows) ≡ map (kept_row times) rows
kept_untimed times clock octets chosen none [] = refl
kept_untimed times clock octets chosen none (row ∷ rows) =
    ap₂ (λ (k : Kept) (kept : List Kept). k ∷ kept)
    (ap (λ (t : Option Times). record { row = row; times = t }) (by_test (is_same row chosen) (times (key_of row)) (none (key_of row))))
    (kept_untimed times clock octets chosen none rows)
  where
    by_test : (b : Bool) (t : Option Times) → t ≡ None → (if b then option_map (counted_hit clock octets) t else t) ≡ t
    by_test true None e = refl
    by_test true (Some t) e = absurd cc
    by_test false t e = refl

pub kept_missed : (clock octets : ℕ) (kept : List Kept) → map (kept_hit clock None octets) kept ≡ kept
kept_missed clock octets [] = refl
kept_missed clock octets (k ∷ kept) = ap (λ ks. k ∷ ks) (kept_missed clock octets kept)

pub kept_same : (old new : TimesOf) → ((q : Key) → new q ≡ old q) → (rows : List Row) → map (kept_row new) rows ≡ map (kept_row old) rows
kept_same old new same [] = refl
kept_same old new same (row ∷ rows) = rw (same (key_of row)) (ap (λ ks. kept_row old row ∷ ks) (kept_same old new same rows))

-- ---- a tick

has_leaver : (times : TimesOf) (now : ℕ) (r : Row) (rows : List Row) → list_any (λ (e : Expired). same_key r e.row) (filter_map (expired_at now) (map (kept_row times) rows)) ≡ (list_any (λ (q : Row). same_key r q) rows && leaves now (times (key_of r)))
has_leaver times now r [] = refl
has_leaver times now r (q ∷ rows) = by_times (times (key_of q)) refl (has_leaver times now r rows)
  where
    both : (a b c : Bool) → (a ≡ true → b ≡ c) → (a && b) ≡ (a && c)
    both true b c same = same refl
    both false b c same = refl

    out : (a b l : Bool) → ((a && l) || (b && l)) ≡ ((a || b) && l)
    out true true true = refl
    out true true false = refl
    out true false true = refl
    out true false false = refl
    out false b l = refl

    here : (o : Option Times) → times (key_of q) ≡ o → (same_key r q && leaves now o) ≡ (same_key r q && leaves now (times (key_of r)))
    here o is = both (same_key r q) (leaves now o) (leaves now (times (key_of r))) (λ same. ap (leaves now) (sym is ∙ ap times (sym (one_key r q same))))

    step : (o : Option Times) → list_any (λ (e : Expired). same_key r e.row) (cons_option (expired_by now q o) (filter_map (expired_at now) (map (kept_row times) rows)))
        ≡ ((same_key r q && leaves now o) || list_any (λ (e : Expired). same_key r e.row) (filter_map (expired_at now) (map (kept_row times) rows)))
    step None = none (same_key r q)
      where
        none : (b : Bool) → list_any (λ (e : Expired). same_key r e.row) (filter_map (expired_at now) (map (kept_row times) rows)) ≡ ((b && false) || list_any (λ (e : Expired). same_key r e.row) (filter_map (expired_at now) (map (kept_row times) rows)))
        none true = refl
        none false = refl
    step (Some t) = some (is_over_at now t) (same_key r q) refl
      where
        some : (over b : Bool) → same_key r q ≡ b → list_any (λ (e : Expired). same_key r e.row) (cons_option (if over then Some (expired_row now q t) else None) (filter_map (expired_at now) (map (kept_row times) rows)))
            ≡ ((b && over) || list_any (λ (e : Expired). same_key r e.row) (filter_map (expired_at now) (map (kept_row times) rows)))
        some true true is = rw is refl
        some true false is = rw is refl
        some false true is = refl
        some false false is = refl

    by_times : (o : Option Times) → times (key_of q) ≡ o → list_any (λ (e : Expired). same_key r e.row) (filter_map (expired_at now) (map (kept_row times) rows)) ≡ (list_any (λ (q : Row). same_key r q) rows && leaves now (times (key_of r)))
        → list_any (λ (e : Expired). same_key r e.row) (cons_option (expired_by now q o) (filter_map (expired_at now) (map (kept_row times) rows))) ≡ ((same_key r q || list_any (λ (q : Row). same_key r q) rows) && leaves now (times (key_of r)))
    by_times o is rest = step o ∙ ap₂ (λ (a b : Bool). a || b) (here o is) rest ∙ out (same_key r q) (list_any (λ (q : Row). same_key r q) rows) (leaves now (times (key_of r)))

abbrev is_left : List Expired → Row → Bool
is_left left r = list_any (λ (e : Expired). same_key r e.row) left

filter_twice : (p q : Row → Bool) (rows : List Row) → filter (λ r. not (q r)) (filter (λ r. not (p r)) rows) ≡ filter (λ r. not (p r || q r)) rows
filter_twice p q [] = refl
filter_twice p q (r ∷ rows) = by_test (p r) (q r) refl (filter_twice p q rows)
  where
    by_test : (s t : Bool) → q r ≡ t → filter (λ r. not (q r)) (filter (λ r. not (p r)) rows) ≡ filter (λ r. not (p r || q r)) rows
        → filter (λ r. not (q r)) (if not s then r ∷ filter (λ r. not (p r)) rows else filter (λ r. not (p r)) rows) ≡ (if not (s || t) then r ∷ filter (λ r. not (p r || q r)) rows else filter (λ r. not (p r || q r)) rows)
    by_test true t is rest = rest
    by_test false true is rest = rw is rest
    by_test false false is rest = rw is (ap (λ rs. r ∷ rs) rest)

pub staying_are : (left : List Expired) (rows : List Row) → staying left rows ≡ filter (λ r. not (is_left left r)) rows
staying_are [] rows = all rows
  where
    all : (rs : List Row) → rs ≡ filter (λ r. true) rs
    all [] = refl
    all (r ∷ rs) = ap (λ ys. r ∷ ys) (all rs)
staying_are (e ∷ left) rows = staying_are left (filter (λ r. not (same_key r e.row)) rows) ∙ filter_twice (λ r. same_key r e.row) (is_left left) rows

filter_those : (p q : Row → Bool) (rows : List Row) → AllByRecursion (λ r. p r ≡ q r) rows → filter p rows ≡ filter q rows
filter_those p q [] a = refl
filter_those p q (r ∷ rows) a = rw a.0 (by_test (q r) (filter_those p q rows a.1))
  where
    by_test : (b : Bool) → filter p rows ≡ filter q rows → (if b then r ∷ filter p rows else filter p rows) ≡ (if b then r ∷ filter q rows else filter q rows)
    by_test true rest = ap (λ rs. r ∷ rs) rest
    by_test false rest = rest

-- each of some rows stands among others
all_among : (rows others : List Row) → ((r : Row) → list_any (λ (q : Row). same_key r q) rows ≡ true → list_any (λ (q : Row). same_key r q) others ≡ true) → AllByRecursion (λ r. list_any (λ (q : Row). same_key r q) others ≡ true) rows
all_among [] others h = tt
all_among (x ∷ rows) others h = (h x (rw (itself x) refl), all_among rows others (λ r there. h r (later r (same_key r x) there)))
  where
    later : (r : Row) (b : Bool) → list_any (λ (q : Row). same_key r q) rows ≡ true → (b || list_any (λ (q : Row). same_key r q) rows) ≡ true
    later r true there = refl
    later r false there = there

all_stay : (P Q : Row → Type 0) → ((r : Row) → P r → Q r) → (rows : List Row) → AllByRecursion P rows → AllByRecursion Q rows
all_stay P Q f [] a = tt
all_stay P Q f (r ∷ rows) a = (f r a.0, all_stay P Q f rows a.1)

-- those stay whose time is not over
pub staying_live : (times : TimesOf) (now : ℕ) (rows : List Row) → staying (filter_map (expired_at now) (map (kept_row times) rows)) rows ≡ filter (λ r. not (leaves now (times (key_of r)))) rows
staying_live times now rows =
    staying_are (filter_map (expired_at now) (map (kept_row times) rows)) rows
    ∙ filter_those (λ r. not (is_left (filter_map (expired_at now) (map (kept_row times) rows)) r)) (λ r. not (leaves now (times (key_of r)))) rows
    (all_stay (λ r. list_any (λ (q : Row). same_key r q) rows ≡ true) (λ r. not (is_left (filter_map (expired_at now) (map (kept_row times) rows)) r) ≡ not (leaves now (times (key_of r))))
    (λ r there. ap not (has_leaver times now r rows ∙ rw there refl)) rows (all_among rows rows (λ r there. there)))

-- and the times of these may be all that is left
pub live_kept : (old new : TimesOf) (now : ℕ) → ((q : Key) → leaves now (old q) ≡ false → new q ≡ old q) → (rows : List Row)
    → map (kept_row new) (filter (λ r. not (leaves now (old (key_of r)))) rows) ≡ filter (λ (k : Kept). not (leaves now k.times)) (map (kept_row old) rows)
live_kept old new now same [] = refl
live_kept old new now same (r ∷ rows) = by_test (leaves now (old (key_of r))) refl (live_kept old new now same rows)
  where
    by_test : (b : Bool) → leaves now (old (key_of r)) ≡ b → map (kept_row new) (filter (λ r. not (leaves now (old (key_of r)))) rows) ≡ filter (λ (k : Kept). not (leaves now k.times)) (map (kept_row old) rows)
        → map (kept_row new) (if not b then r ∷ filter (λ r. not (leaves now (old (key_of r)))) rows else filter (λ r. not (leaves now (old (key_of r)))) rows)
        ≡ (if not b then kept_row old r ∷ filter (λ (k : Kept). not (leaves now k.times)) (map (kept_row old) rows) else filter (λ (k : Kept). not (leaves now k.times)) (map (kept_row old) rows))
    by_test true is rest = rest
    by_test false is rest = rw (same (key_of r) is) (ap (λ ks. kept_row old r ∷ ks) rest)

pub apart_staying : (left : List Expired) (rows : List Row) → AreKeysApart rows → AreKeysApart (staying left rows)
apart_staying [] rows a = a
apart_staying (e ∷ left) rows a = apart_staying left (filter (λ row. not (same_key row e.row)) rows) (apart_that (λ row. not (same_key row e.row)) rows a)

pub nothing_leaves : (times : TimesOf) (now : ℕ) → ((q : Key) → leaves now (times q) ≡ false) → (rows : List Row) → filter_map (expired_at now) (map (kept_row times) rows) ≡ []
nothing_leaves times now none [] = refl
nothing_leaves times now none (r ∷ rows) = rw (by_times (times (key_of r)) (none (key_of r))) (nothing_leaves times now none rows)
  where
    by_times : (o : Option Times) → leaves now o ≡ false → expired_by now r o ≡ None
    by_times None live = refl
    by_times (Some t) live = rw live refl

abbrev clocked_as : ℕ → List Kept → Clocked
clocked_as clock rows = record { clock = clock; rows = rows }

pub tick_kept : (old new : TimesOf) (clock now : ℕ) (rows stayed : List Row) (left : List Expired) → left ≡ filter_map (expired_at now) (map (kept_row old) rows) → stayed ≡ staying left rows
    → ((q : Key) → leaves now (old q) ≡ false → new q ≡ old q) → now ≡ clock + 1 → record { clock = now; rows = map (kept_row new) stayed } ≡ clock_risen (record { clock = clock; rows = map (kept_row old) rows })
tick_kept old new clock now rows stayed left told stay same is =
    subst (λ (n : ℕ). clocked_as now (map (kept_row new) stayed) ≡ clocked_as n (filter (λ (k : Kept). not (leaves n k.times)) (map (kept_row old) rows))) is
    (ap (λ (ks : List Kept). clocked_as now ks)
    (ap (λ (rs : List Row). map (kept_row new) rs) (stay ∙ ap (λ (l : List Expired). staying l rows) told ∙ staying_live old now rows) ∙ live_kept old new now same rows))

-- ---- whole calls

is_add : (command : FlowCommand) → false ≡ leaves_times command → command ≡ Add
is_add Add e = refl
is_add Modify e = absurd cc
is_add ModifyStrict e = absurd cc
is_add Delete e = absurd cc
is_add DeleteStrict e = absurd cc

pub add_kept : (at : Key → Key → Bool) → TellsKeys at → (old new : TimesOf) (clock : ℕ) (change : FlowMod) → IsSetAt at (key_of (row_of change)) (new_times clock change) old new → (rows : List Row) → AreKeysApart rows → leaves_times change.command ≡ false
    → map (kept_row new) (table_step rows change) ≡ kept_by change.command clock change (map (kept_row old) rows)
add_kept at tells old new clock change set rows apart add =
    let is = is_add change.command (sym add) in
    ap (λ (rs : List Row). map (kept_row new) rs) (step_add change rows is)
    ∙ kept_added at tells old new (new_times clock change) (row_of change) set rows apart
    ∙ sym (kept_by_is clock change (map (kept_row old) rows) Add is)

pub hit_kept : (at : Key → Key → Bool) → TellsKeys at → (old new : TimesOf) (clock octets : ℕ) (chosen : Row) → IsSetAt at (key_of chosen) (option_map (counted_hit clock octets) (old (key_of chosen))) old new → (rows : List Row) (fields : Fields)
    → Some chosen ≡ chosen_row rows fields → record { clock = clock; rows = map (kept_row new) rows } ≡ clock_hit (record { clock = clock; rows = map (kept_row old) rows }) fields octets
hit_kept at tells old new clock octets chosen set rows fields found =
    ap (λ (ks : List Kept). record { clock = clock; rows = ks })
    (kept_counted at tells old new clock octets chosen set rows
    ∙ ap (λ (o : Option Row). map (kept_hit clock o octets) (map (kept_row old) rows)) (found ∙ ap (λ (rs : List Row). chosen_row rs fields) (sym (rows_are old rows))))

pub hit_untimed : (times : TimesOf) → ((q : Key) → times q ≡ None) → (clock octets : ℕ) (rows : List Row) (fields : Fields) (a : Clocked) →
    record { clock = clock; rows = map (kept_row times) rows } ≡ a → a ≡ clock_hit a fields octets
hit_untimed times none clock octets rows fields a is =
    subst (λ (x : Clocked). x ≡ clock_hit x fields octets) is
    (ap (λ (kept : List Kept). record { clock = clock; rows = kept })
    (sym (kept_untimed times clock octets (chosen_row (rows_in (record { clock = clock; rows = map (kept_row times) rows })) fields) none rows)))

pub hit_missed : (a : Clocked) (fields : Fields) (octets : ℕ) → None ≡ chosen_row (rows_in a) fields → a ≡ clock_hit a fields octets
hit_missed a fields octets none =
    ap (λ (ks : List Kept). record { clock = a.clock; rows = ks })
    (sym (kept_missed a.clock octets a.rows) ∙ ap (λ (o : Option Row). map (kept_hit a.clock o octets) a.rows) none)

pub told_on : (f : Kept → Option Expired) (k : Row → Kept) (left new : List Expired) (row : Row) (all rest : List Row) (whole : List Expired) → all ≡ row ∷ rest → new ≡ left ++ option_to_list (f (k row)) → left ++ filter_map f (map k all) ≡ whole → new ++ filter_map f (map k rest) ≡ whole
told_on f k left new row all rest whole are is inv =
    ap (λ (l : List Expired). l ++ filter_map f (map k rest)) is
    ∙ append_assoc left (option_to_list (f (k row))) (filter_map f (map k rest))
    ∙ ap (λ (l : List Expired). left ++ l) (joined (f (k row)) (filter_map f (map k rest)))
    ∙ sym (ap (λ (rs : List Row). left ++ filter_map f (map k rs)) are)
    ∙ inv
  where
    joined : (o : Option Expired) (xs : List Expired) → option_to_list o ++ xs ≡ cons_option o xs
    joined None xs = refl
    joined (Some x) xs = refl

pub told_all : (f : Kept → Option Expired) (k : Row → Kept) (left : List Expired) (all : List Row) (whole : List Expired) → all ≡ [] → left ++ filter_map f (map k all) ≡ whole → left ≡ whole
told_all f k left all whole none inv = sym (append-nil left) ∙ sym (ap (λ (rs : List Row). left ++ filter_map f (map k rs)) none) ∙ inv

-- ---- the change that takes a row out

pub removal_is : (row r : Row) → is_deleted (removal row) r ≡ same_key r row
removal_is row r =
    let cookie : nat_eq (bit_and r.cookie 0) (bit_and 0 0) ≡ true = eq-eqb (bit_and r.cookie 0) (bit_and 0 0) (and_zero_r r.cookie) in
    rw cookie (by_key (same_key r row))
  where
    by_key : (b : Bool) → (b && true && true && true) ≡ b
    by_key true = refl
    by_key false = refl

pub removed : (row : Row) (rows : List Row) → table_step rows (removal row) ≡ filter (λ r. not (same_key r row)) rows
removed row rows = filter_those (λ r. not (is_deleted (removal row) r)) (λ r. not (same_key r row)) rows (all rows)
  where
    all : (rs : List Row) → AllByRecursion (λ r. not (is_deleted (removal row) r) ≡ not (same_key r row)) rs
    all [] = tt
    all (r ∷ rs) = (ap not (removal_is row r), all rs)

some_none : {f : TableFault} → Some f ≡ None → ⊥
some_none e = cc

pub never_refused : (o : Option TableFault) (command : FlowCommand) (fault : TableFault) → o ≡ None → is_delete command ≡ true → IsCause o command fault → ⊥
never_refused o command faults.OutOfMemory none delete why = unlike (sym why.1 ∙ delete)
never_refused o command faults.TableFull none delete why = some_none (sym why ∙ none)
never_refused o command faults.BadTable none delete why = some_none (sym why ∙ none)
never_refused o command faults.BadFlags none delete why = some_none (sym why ∙ none)
never_refused o command faults.BadBuffer none delete why = some_none (sym why ∙ none)
never_refused o command faults.BadPort none delete why = some_none (sym why ∙ none)
