-- Rows that are found by their places.
use Rattle.std.specs.Prelude.{◌≡◌, ◌<◌, ◌^◌, ℕ, zero, suc, Bool, false, nat_eq, List, [], ◌∷◌, ◌++◌, map, filter, Option}
use Rattle.std.specs.List.{AllByRecursion}
use Rattle.std.specs.Map.{lookup}
use Rattle.std.specs.Option.{option_to_list}
use Rattle.of_types.specs.declared.message.Row.{Row}
use Rattle.flow_table.specs.Table.{same_key}
use Rattle.flow_index.specs.declared.place.Place.{Place}
use Rattle.flow_index.specs.Places.{place_of}

-- the row of a number
abbrev pub numbered_rows : List (Place × Row) → ℕ → Option Row
numbered_rows entries number = lookup (λ place. nat_eq place.number number) entries

-- the rows of the numbers below one, in the order of the numbers
abbrev pub rows_below : (ℕ → Option Row) → ℕ → List Row
rows_below row_at zero = []
rows_below row_at (suc number) = rows_below row_at number ++ option_to_list (row_at number)

-- a row stands at its place, under a number below the next one; a priority has 16 bits
pub record IsPlaced (next : ℕ) (entry : Place × Row) : Type 0 where
  pub place : entry.0 ≡ place_of entry.1 entry.0.number
  pub below : entry.0.number < next
  pub fits : entry.1.priority < 2 ^ 16

-- two rows have different numbers, and differ in priority or match
pub record AreSeparate (a b : Place × Row) : Type 0 where
  pub numbers : nat_eq a.0.number b.0.number ≡ false
  pub keys : same_key a.1 b.1 ≡ false

-- each row stands at its place, and any two are apart
abbrev pub AreIndexed : ℕ → List (Place × Row) → Type 0
AreIndexed next [] = Unit {0}
AreIndexed next (entry ∷ entries) =
    IsPlaced next entry × AllByRecursion (AreSeparate entry) entries × AreIndexed next entries

-- f of each row, at its place
abbrev pub each_row : (Row → Row) → List (Place × Row) → List (Place × Row)
each_row f entries = map (λ e. (e.0, f e.1)) entries

-- the rows that pass a test, at their places
abbrev pub rows_that : (Row → Bool) → List (Place × Row) → List (Place × Row)
rows_that test entries = filter (λ e. test e.1) entries
