-- What holds of each row of a table, and is kept by each change of it.
use Rattle.std.proofs.Common.{◌≡◌, not, List, [], ◌∷◌, map, filter, refl, sym, subst}
use Rattle.std.specs.List.{AllByRecursion}
use Rattle.std.proofs.lemmas.Bool.{cond_both}
use Rattle.of_types.specs.declared.message.FlowCommand.{FlowCommand}
use Rattle.of_types.specs.declared.message.FlowCommand.TheVariants.{Add, Modify, ModifyStrict, Delete, DeleteStrict}
use Rattle.of_types.specs.declared.message.FlowMod.{FlowMod}
use Rattle.of_types.specs.declared.message.Row.{Row}
use Rattle.of_types.specs.Valid.{IsValidMatch}
use Rattle.journal.proofs.All.{all_filter, all_map}
use Rattle.flow_table.specs.Table.{opening_rows, row_of, same_key, with_row, is_named, is_deleted, modified, table_step}
use Rattle.app_core.proofs.Spelled.{any_valid}

-- the one row of a table that opens takes every frame
pub opening_valid : AllByRecursion (λ (r : Row). IsValidMatch r.matching) opening_rows
opening_valid = (any_valid, tt)

-- what holds of each row before a change, of the row that it tells of, and of rows with its actions, holds of each row after it
module _ (P : Row → Type 0) where
  joined : (rows : List Row) (row : Row) → AllByRecursion P rows → P row → AllByRecursion P (with_row rows row)
  joined [] row h new = (new, tt)
  joined (r ∷ rows) row (here, h) new =
      cond_both (same_key r row) (row ∷ rows) (r ∷ with_row rows row) (λ (l : List Row). AllByRecursion P l) (λ _. (new, h)) (λ _. (here, joined rows row h new))

  pub all_changed : (rows : List Row) (change : FlowMod) → AllByRecursion P rows → P (row_of change) → ((r : Row) → P r → P (record r { actions = change.actions })) →
      AllByRecursion P (table_step rows change)
  all_changed rows change h new acts = by_command change.command refl
    where
      all_modified : AllByRecursion P (map (modified change) rows)
      all_modified = all_map (modified change) P P (λ r here. cond_both (is_named change r) (record r { actions = change.actions }) r P (λ _. acts r here) (λ _. here)) rows h

      left : AllByRecursion P (filter (λ r. not (is_deleted change r)) rows)
      left = all_filter P (λ r. not (is_deleted change r)) rows h

      becomes : (l : List Row) → table_step rows change ≡ l → AllByRecursion P l → AllByRecursion P (table_step rows change)
      becomes l is all = subst (λ (k : List Row). AllByRecursion P k) (sym is) all

      by_command : (c : FlowCommand) → change.command ≡ c → AllByRecursion P (table_step rows change)
      by_command Add e = becomes (with_row rows (row_of change)) (rw e refl) (joined rows (row_of change) h new)
      by_command Modify e = becomes (map (modified change) rows) (rw e refl) all_modified
      by_command ModifyStrict e = becomes (map (modified change) rows) (rw e refl) all_modified
      by_command Delete e = becomes (filter (λ r. not (is_deleted change r)) rows) (rw e refl) left
      by_command DeleteStrict e = becomes (filter (λ r. not (is_deleted change r)) rows) (rw e refl) left
