-- Rows by their places.
use Rattle.std.specs.Prelude.{filter, find, bit_and, is_none, ℕ, ◌-◌, ◌^◌, Bool, nat_eq, nat_lt, ◌&&◌, ◌||◌, List, Option, Some, None, if◌then◌else◌}
use Rattle.std.specs.Ordering.{nat_cmp, ordering_then}
use Rattle.std.specs.Option.{option_cmp}
use Rattle.std.specs.BTreeMap.Range.{entries_between}
use Rattle.std.specs.declared.cmp.Ordering.{Ordering}
use Rattle.std.specs.declared.ops.Bound.TheVariants.{Included}
use Rattle.of_types.specs.declared.message.Fields.{Fields}
use Rattle.of_types.specs.declared.message.Row.{Row}
use Rattle.of_types.specs.declared.numbers.TheConstants.{ONES48}
use Rattle.of_types.specs.Matching.{matches}
use Rattle.flow_index.specs.declared.place.Place.{Place}

-- the order of places
abbrev pub by_place : Place → Place → Ordering
by_place a b = ordering_then (option_cmp nat_cmp a.destination b.destination) (ordering_then (nat_cmp a.rank b.rank) (nat_cmp a.number b.number))

abbrev pub place_at : Option ℕ → ℕ → ℕ → Place
place_at destination rank number = record { destination = destination; rank = rank; number = number }

-- the rows of a destination
abbrev pub entries_of : Option ℕ → List (Place × Row) → List (Place × Row)
entries_of destination entries = entries_between by_place (Included (place_at destination 0 0)) (Included (place_at destination 65535 (2 ^ 64 - 1))) entries

-- the first row of a frame's destination that the frame matches
abbrev pub exact_match : Option ℕ → Fields → List (Place × Row) → Option (Place × Row)
exact_match None fields entries = None
exact_match (Some destination) fields entries = find (λ e. matches e.1.matching fields) (entries_of (Some (bit_and destination ONES48)) entries)

-- the rows of no destination
abbrev pub open_entries : List (Place × Row) → List (Place × Row)
open_entries entries = filter (λ e. is_none e.0.destination) entries

-- the rows of a destination and a rank
abbrev pub entries_ranked : Option ℕ → ℕ → List (Place × Row) → List (Place × Row)
entries_ranked destination rank entries = entries_between by_place (Included (place_at destination rank 0)) (Included (place_at destination rank (2 ^ 64 - 1))) entries

-- one place stands before another in priority, or in the order of adding where that is the same
abbrev pub is_before : Place → Place → Bool
is_before a b = nat_lt a.rank b.rank || nat_eq a.rank b.rank && nat_lt a.number b.number

-- the better of the first rows of two destinations
abbrev pub preferred : Option (Place × Row) → Option (Place × Row) → Option Row
preferred None None = None
preferred (Some e) None = Some e.1
preferred None (Some e) = Some e.1
preferred (Some a) (Some b) = if is_before b.0 a.0 then Some b.1 else Some a.1
