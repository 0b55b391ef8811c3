-- Which row a frame meets (OpenFlow 1.3, 5.3).
use Rattle.std.specs.Prelude.{◌≡◌, ◌<◌, ◌≤◌, true, false, List, ◌∷◌, ◌++◌, Some, None}
use Rattle.std.specs.List.{AllByRecursion}
use Rattle.of_types.specs.declared.message.Fields.{Fields}
use Rattle.of_types.specs.declared.message.Row.{Row}
use Rattle.of_types.specs.Matching.{matches}
use Rattle.flow_table.specs.Table.{chosen_row}

-- a row matches, those before it that match have a lower priority, and those behind it that match have no higher one
pub record IsFirstOfHighest (rows : List Row) (fields : Fields) (row : Row) : Type 0 where
  pub front : List Row
  pub back : List Row
  pub stands : rows ≡ front ++ row ∷ back
  pub meets : matches row.matching fields ≡ true
  pub before : AllByRecursion (λ other. matches other.matching fields ≡ true → other.priority < row.priority) front
  pub behind : AllByRecursion (λ other. matches other.matching fields ≡ true → other.priority ≤ row.priority) back

-- the chosen row is the matching one of highest priority, and of these the first
abbrev pub ChosenIsFirstOfHighest : Type 0
ChosenIsFirstOfHighest = (rows : List Row) (fields : Fields) (row : Row) → chosen_row rows fields ≡ Some row → IsFirstOfHighest rows fields row

-- where none is chosen, none matches
abbrev pub NoneIsChosenOfNone : Type 0
NoneIsChosenOfNone = (rows : List Row) (fields : Fields) → chosen_row rows fields ≡ None → AllByRecursion (λ row. matches row.matching fields ≡ false) rows
