-- The order in which packets wait: the number and the receiver of each, the lowest number first.
use Rattle.std.specs.Prelude.{◌<◌, ℕ, zero, suc, ◌+◌, not, nat_eq, List, [], ◌∷◌, filter, Option, Some, None}
use Rattle.std.specs.List.{AllByRecursion}
use Rattle.journal.specs.declared.journal.Actor.{Actor}
use Rattle.journal.specs.declared.journal.Letter.{Letter}
use Rattle.journal.specs.declared.journal.Packet.{Packet}

-- the number and the receiver of a packet
abbrev pub waiter_of : {B : Type 0} → Packet B → ℕ × Actor
waiter_of p = (p.id, p.to)

-- those of letters, numbered from there on
abbrev pub addressed : {B : Type 0} → ℕ → List (Letter B) → List (ℕ × Actor)
addressed first [] = []
addressed first (letter ∷ letters) = (first, letter.to) ∷ addressed (first + 1) letters

-- all have numbers below this one
abbrev pub HaveNumbersBelow : ℕ → List (ℕ × Actor) → Type 0
HaveNumbersBelow number order = AllByRecursion (λ w. w.0 < number) order

-- those of other numbers
abbrev pub without_packet : ℕ → List (ℕ × Actor) → List (ℕ × Actor)
without_packet number order = filter (λ w. not (nat_eq w.0 number)) order

-- a slot for each number from there on: those that have a receiver
abbrev pub awaited : ℕ → List (Option Actor) → List (ℕ × Actor)
awaited first [] = []
awaited first (None ∷ slots) = awaited (first + 1) slots
awaited first (Some to ∷ slots) = (first, to) ∷ awaited (first + 1) slots

-- the slots in front of this number have no receiver
abbrev pub IsClearBelow : ℕ → List (Option Actor) → Type 0
IsClearBelow zero slots = Unit {0}
IsClearBelow (suc n) [] = ⊥
IsClearBelow (suc n) (None ∷ slots) = IsClearBelow n slots
IsClearBelow (suc n) (Some to ∷ slots) = ⊥

-- the first slot that has a receiver is that of this number: where none has, there is none of this number
abbrev pub IsLowest : ℕ → List (Option Actor) → Type 0
IsLowest zero [] = Unit {0}
IsLowest zero (None ∷ slots) = ⊥
IsLowest zero (Some to ∷ slots) = Unit {0}
IsLowest (suc n) [] = ⊥
IsLowest (suc n) (None ∷ slots) = IsLowest n slots
IsLowest (suc n) (Some to ∷ slots) = ⊥
