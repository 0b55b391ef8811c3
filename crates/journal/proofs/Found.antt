-- Where a packet that was picked is found.
use Rattle.std.proofs.Common.{◌≡◌, ℕ, List, refl, subst}
use Rattle.std.specs.Prelude.{Option, Some, None, IfSome}
use Rattle.journal.specs.declared.journal.Actor.{Actor}
use Rattle.journal.specs.declared.journal.JournalEntry.{JournalEntry}
use Rattle.journal.specs.declared.journal.Packet.{Packet}
use Rattle.journal.specs.declared.place.PacketPlace.{PacketPlace}
use Rattle.journal.specs.Orderly.{IsOrderly}
use Rattle.journal.specs.Part.{packet_of}
use Rattle.journal.specs.Places.{IsFound, packet_at}
use Rattle.journal.specs.Pool.{pick, pool}
use Rattle.journal.proofs.Pools.{Rising-pool, packet_of-at, waiting-at}

-- a packet that was picked is found in the pool by its number
pub picked_packet : {B : Type 0} (size : B → ℕ) (a : Actor) (choice : ℕ) (entries : List (JournalEntry B)) (p : Packet B) → IsOrderly size entries → pick a choice entries ≡ Some p → packet_of p.id (pool entries) ≡ Some p
picked_packet size a choice entries p orderly is =
    let at = waiting-at a (pool entries) _ p is in
    packet_of-at (pool entries) at.0 p (Rising-pool size entries orderly) at.1

-- the place of what was picked
pub record IsPicked {B : Type 0} (journal : List (JournalEntry B)) (place : PacketPlace) (found : Option (Packet B)) : Type 0 where
  pub packet : Packet B
  pub is : found ≡ Some packet
  pub stands : packet_at place journal ≡ Some packet
  pub from_is : place.from ≡ packet.from
  pub to_is : place.to ≡ packet.to

pub picked : {B : Type 0} (journal : List (JournalEntry B)) (place : PacketPlace) (found : Option (Packet B)) → IsFound journal (Some place) found → IsPicked journal place found
picked journal place None h = absurd h
picked journal place (Some p) h = record { packet = p; is = refl; stands = h.stands; from_is = h.from_is; to_is = h.to_is }

pub none_picked : {B : Type 0} (journal : List (JournalEntry B)) (found : Option (Packet B)) → IsFound journal None found → found ≡ None
none_picked journal None h = refl
none_picked journal (Some p) h = absurd h

-- its body is the one that stands there
pub body_of : {B : Type 0} (o : Option (Packet B)) (p : Packet B) (body : B) → o ≡ Some p → IfSome o (λ q. body ≡ q.body) → body ≡ p.body
body_of o p body is h = subst (λ q. IfSome q (λ r. body ≡ r.body)) is h
