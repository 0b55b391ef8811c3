-- What holds of every journal, whatever its actors are.
use Rattle.std.specs.Prelude.{◌≡◌, ℕ, ◌+◌, ◌-◌, nat_eq, nat_le, ◌&&◌, IsTrue, List, [], ◌∷◌, length, sum_by, if◌then◌else◌}
use Rattle.std.specs.List.{list_any}
use Rattle.journal.specs.declared.journal.Actor.{Actor}
use Rattle.journal.specs.declared.journal.JournalEntry.{JournalEntry}
use Rattle.journal.specs.declared.journal.JournalEntry.TheVariants.{Post, Draw, Lose, Local, Idle, Refused}
use Rattle.journal.specs.declared.journal.Letter.{Letter}
use Rattle.journal.specs.declared.journal.Packet.{Packet}
use Rattle.journal.specs.Actors.{same_actor}
use Rattle.journal.specs.Limits.{pool_packets, pool_bodies}
use Rattle.journal.specs.Pool.{pool, waiting, letters_posted}

-- the bytes of the bodies in a pool
abbrev pub pool_bytes : {B : Type 0} → (B → ℕ) → List (Packet B) → ℕ
pool_bytes size packets = sum_by (λ p. size p.body) packets

-- the letters that come before the first one with no room, over so many packets of so many bytes
abbrev pub fitting_count : {B : Type 0} → (B → ℕ) → ℕ → ℕ → List (Letter B) → ℕ
fitting_count size packets bytes [] = 0
fitting_count size packets bytes (letter ∷ letters) =
    if nat_le (packets + 1) pool_packets && nat_le (bytes + size letter.body) pool_bodies
    then 1 + fitting_count size (packets + 1) (bytes + size letter.body) letters else 0

-- how many letters of a post find no room in the pool
abbrev pub lost_of : {B : Type 0} → (B → ℕ) → List (Packet B) → List (Letter B) → ℕ
lost_of size packets letters = length letters - fitting_count size (length packets) (pool_bytes size packets) letters

-- a packet of this number waits for the actor
abbrev pub IsWaiting : {B : Type 0} → Actor → ℕ → List (Packet B) → Type 0
IsWaiting a id packets = IsTrue (list_any (λ p. nat_eq p.id id && same_actor p.to a) packets)

-- draws and losses name packets that wait, nothing waits at an idle turn, and posts are counted
abbrev pub IsOrderly : {B : Type 0} → (B → ℕ) → List (JournalEntry B) → Type 0
IsOrderly size [] = Unit {0}
IsOrderly size (Post actor first letters lost ∷ before) =
    (first ≡ letters_posted before) × (lost ≡ lost_of size (pool before) letters) × IsOrderly size before
IsOrderly size (Draw actor id keep ∷ before) = IsWaiting actor id (pool before) × IsOrderly size before
IsOrderly size (Lose actor id ∷ before) = IsWaiting actor id (pool before) × IsOrderly size before
IsOrderly size (Local actor input ∷ before) = IsOrderly size before
IsOrderly size (Idle actor ∷ before) = (waiting actor (pool before) ≡ []) × IsOrderly size before
IsOrderly size (Refused actor ∷ before) = IsOrderly size before
