-- What one actor has done.
use Rattle.std.specs.Prelude.{ℕ, nat_eq, List, [], ◌∷◌, find, Option, None, if◌then◌else◌}
use Rattle.journal.specs.declared.journal.Actor.{Actor}
use Rattle.journal.specs.declared.journal.JournalEntry.{JournalEntry}
use Rattle.journal.specs.declared.journal.JournalEntry.TheVariants.{Post, Draw, Lose, Local, Idle, Refused}
use Rattle.journal.specs.declared.journal.Packet.{Packet}
use Rattle.journal.specs.Actors.{same_actor, actor_of}
use Rattle.journal.specs.Pool.{pool}

-- the packet of this number in the pool
abbrev pub packet_of : {B : Type 0} → ℕ → List (Packet B) → Option (Packet B)
packet_of id packets = find (λ p. nat_eq p.id id) packets

-- the packet that a draw names, in the pool before it
abbrev pub drawn : {B : Type 0} → JournalEntry B → List (JournalEntry B) → Option (Packet B)
drawn (Draw actor id keep) before = packet_of id (pool before)
drawn (Post actor first letters lost) before = None
drawn (Lose actor id) before = None
drawn (Local actor input) before = None
drawn (Idle actor) before = None
drawn (Refused actor) before = None

-- the entries that name an actor, the newest first, each draw beside its packet
abbrev pub part : {B : Type 0} → Actor → List (JournalEntry B) → List (JournalEntry B × Option (Packet B))
part a [] = []
part a (e ∷ before) = if same_actor (actor_of e) a then (e, drawn e before) ∷ part a before else part a before
