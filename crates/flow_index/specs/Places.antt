-- Where a row stands among others: by the destination that it asks for whole, by its priority, and by its
-- number in the order of adding.
use Rattle.std.specs.Prelude.{ℕ, ◌-◌, nat_eq, bit_and, Option, Some, None, if◌then◌else◌}
use Rattle.of_types.specs.declared.message.Match.{Match}
use Rattle.of_types.specs.declared.message.Masked48.{Masked48}
use Rattle.of_types.specs.declared.message.Row.{Row}
use Rattle.of_types.specs.declared.numbers.TheConstants.{ONES48}
use Rattle.flow_index.specs.declared.place.Place.{Place}

-- an address that counts whole
abbrev pub whole_address : Option Masked48 → Option ℕ
whole_address None = None
whole_address (Some a) = if nat_eq a.mask ONES48 then Some (bit_and a.value ONES48) else None

-- the destination that a match asks for whole, if it does
abbrev pub exact_destination : Match → Option ℕ
exact_destination m = whole_address m.eth_dst

-- the place of a row with a number
abbrev pub place_of : Row → ℕ → Place
place_of row number = record { destination = exact_destination row.matching; rank = 65535 - row.priority; number = number }
