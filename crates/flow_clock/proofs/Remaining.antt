-- What a change, a hit and a tick make of the rows of a table beside its clock: a change is one of the rows alone, a hit leaves
-- them, and a tick only takes some out, which are told of.
use Rattle.std.proofs.Common.{◌≡◌, ◌≤◌, ℕ, ◌+◌, Bool, true, false, not, List, [], ◌∷◌, map, filter, refl, sym, ◌∙◌, ap, arith}
use Rattle.std.specs.Prelude.{Option, Some, None, filter_map, if◌then◌else◌}
use Rattle.std.specs.List.{AllByRecursion, cons_option}
use Rattle.std.proofs.lemmas.Bool.{cond_both}
use Rattle.of_types.specs.declared.message.FlowCommand.{FlowCommand}
use Rattle.of_types.specs.declared.message.FlowCommand.TheVariants.{Add, Modify, ModifyStrict, Delete, DeleteStrict}
use Rattle.of_types.specs.declared.message.FlowMod.{FlowMod}
use Rattle.of_types.specs.declared.message.Fields.{Fields}
use Rattle.of_types.specs.declared.message.Row.{Row}
use Rattle.of_types.specs.declared.numbers.TheConstants.{REASON_HARD, REASON_IDLE}
use Rattle.flow_table.specs.Table.{chosen_row, same_key, with_row, modified, is_deleted, table_step}
use Rattle.flow_clock.specs.declared.times.Expired.{Expired}
use Rattle.flow_clock.specs.declared.times.Times.{Times}
use Rattle.flow_clock.specs.Clocked.{Kept, Clocked, rows_in, with_kept, kept_new, kept_modified, kept_by, kept_hit, clock_change, clock_hit, clock_risen, clock_left, clock_tick, clock_told, is_last, is_over_at, has_aged_at, leaves, expired_row, expired_at, expired_by}
use Rattle.flow_clock.proofs.Kept.{step_add, step_modify, step_modify_strict, step_delete, step_delete_strict}

abbrev rows_of : List Kept → List Row
rows_of kept = map (λ (k : Kept). k.row) kept

-- ---- a change

joined : (kept : List Kept) (new : Kept) → rows_of (with_kept kept new) ≡ with_row (rows_of kept) new.row
joined [] new = refl
joined (k ∷ kept) new = by_test (same_key k.row new.row) (joined kept new)
  where
    by_test : (b : Bool) → rows_of (with_kept kept new) ≡ with_row (rows_of kept) new.row →
        rows_of (if b then new ∷ kept else k ∷ with_kept kept new) ≡ (if b then new.row ∷ rows_of kept else k.row ∷ with_row (rows_of kept) new.row)
    by_test true rest = refl
    by_test false rest = ap (λ (rs : List Row). k.row ∷ rs) rest

all_modified : (change : FlowMod) (kept : List Kept) → rows_of (map (kept_modified change) kept) ≡ map (modified change) (rows_of kept)
all_modified change [] = refl
all_modified change (k ∷ kept) = ap (λ (rs : List Row). modified change k.row ∷ rs) (all_modified change kept)

rows_that : (p : Row → Bool) (kept : List Kept) → rows_of (filter (λ (k : Kept). p k.row) kept) ≡ filter p (rows_of kept)
rows_that p [] = refl
rows_that p (k ∷ kept) = by_test (p k.row) (rows_that p kept)
  where
    by_test : (b : Bool) → rows_of (filter (λ (k : Kept). p k.row) kept) ≡ filter p (rows_of kept) →
        rows_of (if b then k ∷ filter (λ (k : Kept). p k.row) kept else filter (λ (k : Kept). p k.row) kept) ≡ (if b then k.row ∷ filter p (rows_of kept) else filter p (rows_of kept))
    by_test true rest = ap (λ (rs : List Row). k.row ∷ rs) rest
    by_test false rest = rest

pub changed_rows : (a : Clocked) (change : FlowMod) → rows_in (clock_change a change) ≡ table_step (rows_in a) change
changed_rows a change = by_command change.command refl
  where
    by_command : (command : FlowCommand) → change.command ≡ command → rows_of (kept_by command a.clock change a.rows) ≡ table_step (rows_in a) change
    by_command Add is = joined a.rows (kept_new a.clock change) ∙ sym (step_add change (rows_in a) is)
    by_command Modify is = all_modified change a.rows ∙ sym (step_modify change (rows_in a) is)
    by_command ModifyStrict is = all_modified change a.rows ∙ sym (step_modify_strict change (rows_in a) is)
    by_command Delete is = rows_that (λ r. not (is_deleted change r)) a.rows ∙ sym (step_delete change (rows_in a) is)
    by_command DeleteStrict is = rows_that (λ r. not (is_deleted change r)) a.rows ∙ sym (step_delete_strict change (rows_in a) is)

-- ---- a hit

all_hit : (clock : ℕ) (chosen : Option Row) (octets : ℕ) (kept : List Kept) → rows_of (map (kept_hit clock chosen octets) kept) ≡ rows_of kept
all_hit clock chosen octets [] = refl
all_hit clock chosen octets (k ∷ kept) = ap (λ (rs : List Row). k.row ∷ rs) (all_hit clock chosen octets kept)

pub hit_rows : (a : Clocked) (fields : Fields) (octets : ℕ) → rows_in (clock_hit a fields octets) ≡ rows_in a
hit_rows a fields octets = all_hit a.clock (chosen_row (rows_in a) fields) octets a.rows

-- ---- a tick

module _ (P : Row → Type 0) where
  all_left : (p : Kept → Bool) (kept : List Kept) → AllByRecursion P (rows_of kept) → AllByRecursion P (rows_of (filter p kept))
  all_left p [] h = tt
  all_left p (k ∷ kept) h = cond_both (p k) (k ∷ filter p kept) (filter p kept) (λ (ks : List Kept). AllByRecursion P (rows_of ks)) (λ _. (h.0, all_left p kept h.1)) (λ _. all_left p kept h.1)

  -- what holds of each row holds of those that stay
  pub tick_rows : (a : Clocked) → AllByRecursion P (rows_in a) → AllByRecursion P (rows_in (clock_tick a))
  tick_rows a h = cond_both (is_last a) a (clock_risen a) (λ (b : Clocked). AllByRecursion P (rows_in b)) (λ _. h) (λ _. all_left (λ k. not (leaves (a.clock + 1) k.times)) a.rows h)

  abbrev IsTold : Expired → Type 0
  IsTold e = (e.reason ≤ 3) × P e.row

  all_told : (now : ℕ) (kept : List Kept) → AllByRecursion P (rows_of kept) → AllByRecursion IsTold (filter_map (expired_at now) kept)
  all_told now [] h = tt
  all_told now (k ∷ kept) h = by_times k.times (all_told now kept h.1)
    where
      here : (t : Times) → IsTold (expired_row now k.row t)
      here t = (cond_both (has_aged_at now t) REASON_HARD REASON_IDLE (λ (n : ℕ). n ≤ 3) (λ _. omega arith) (λ _. omega arith), h.0)

      by_times : (o : Option Times) → AllByRecursion IsTold (filter_map (expired_at now) kept) → AllByRecursion IsTold (cons_option (expired_by now k.row o) (filter_map (expired_at now) kept))
      by_times None rest = rest
      by_times (Some t) rest =
          cond_both (is_over_at now t) (Some (expired_row now k.row t)) None (λ (o : Option Expired). AllByRecursion IsTold (cons_option o (filter_map (expired_at now) kept))) (λ _. (here t, rest)) (λ _. rest)

  -- and of those that leave, each of which is told with one of the reasons that there are
  pub told_rows : (a : Clocked) → AllByRecursion P (rows_in a) → AllByRecursion (λ (e : Expired). (e.reason ≤ 3) × P e.row) (clock_told a)
  told_rows a h = cond_both (is_last a) [] (clock_left a) (λ (left : List Expired). AllByRecursion IsTold left) (λ _. tt) (λ _. all_told (a.clock + 1) a.rows h)
