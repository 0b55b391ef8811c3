-- The packet of the lowest number stands first in the queue of its receiver.
use Rattle.std.proofs.Common.{◌≡◌, Bool, true, List, [], ◌∷◌, map, subst, ap}
use Rattle.std.specs.Prelude.{slice_get, if◌then◌else◌}
use Rattle.journal.specs.declared.journal.Actor.{Actor}
use Rattle.journal.specs.declared.journal.JournalEntry.{JournalEntry}
use Rattle.journal.specs.declared.journal.Packet.{Packet}
use Rattle.journal.specs.declared.queues.Queues.{Queues}
use Rattle.journal.specs.Actors.{same_actor}
use Rattle.journal.specs.Order.{waiter_of}
use Rattle.journal.specs.Places.{queue_of, first_of, ArePlacesOf, IsFound}
use Rattle.journal.specs.Pool.{waiting}
use Rattle.journal.proofs.Leaving.{same_actor-refl}
use Rattle.journal.proofs.Placing.{places_at}

module _ {B : Type 0} where
  waiting_head : (a : Actor) (p : Packet B) (packets : List (Packet B)) (b : Bool) → same_actor p.to a ≡ b →
      waiting a (p ∷ packets) ≡ (if b then p ∷ waiting a packets else waiting a packets)
  waiting_head a p packets b e = ap (λ b. if b then p ∷ waiting a packets else waiting a packets) e

  pub first_found : (journal : List (JournalEntry B)) (queues : Queues) (packets : List (Packet B)) → queues.order ≡ map waiter_of packets →
      ((a : Actor) → ArePlacesOf journal (queue_of queues a) (waiting a packets)) → IsFound journal (first_of queues) (slice_get packets 0)
  first_found journal queues [] order are = rw order tt
  first_found journal queues (p ∷ packets) order are =
      let own : waiting p.to (p ∷ packets) ≡ p ∷ waiting p.to packets = waiting_head p.to p packets true (same_actor-refl p.to) in
      let here = places_at journal (queue_of queues p.to) (waiting p.to (p ∷ packets)) 0 (are p.to) in
      let found = subst (λ ps. IsFound journal (slice_get (queue_of queues p.to) 0) (slice_get ps 0)) own here in
      rw order found
