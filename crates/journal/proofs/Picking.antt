-- What an actor picks of what waits in a ledger.
use Rattle.std.proofs.Common.{◌≡◌, ◌≤◌, ℕ, ◌-◌, Bool, true, false, Option, Some, None, ◌∷◌, length, get_or, sym, ap, ◌∙◌, arith, subst}
use Rattle.std.specs.Prelude.{IfSome, if◌then◌else◌, ◌%◌}
use Rattle.std.proofs.lemmas.Option.{slice_get_within, get_or_from_slice_get}
use Rattle.std.proofs.lemmas.List.Sums.{sum_by-remove}
use Rattle.journal.specs.declared.journal.Actor.{Actor}
use Rattle.journal.specs.declared.journal.Packet.{Packet}
use Rattle.journal.specs.declared.ledger.Ledger.{Ledger}
use Rattle.journal.specs.declared.place.PacketPlace.{PacketPlace}
use Rattle.journal.specs.declared.pool.Sums.{Sums}
use Rattle.journal.specs.declared.queues.Queues.{Queues}
use Rattle.journal.specs.Actors.{same_actor}
use Rattle.journal.specs.Ledger.{Waits, IsLedger}
use Rattle.journal.specs.Order.{without_packet}
use Rattle.journal.specs.Places.{left_in, queue_of, IsPlaceOf, IsFound}
use Rattle.journal.specs.Pool.{past, pool, waiting, pick}
use Rattle.journal.specs.Turns.{drawn_entry}
use Rattle.journal.proofs.Leaving.{Waits-left}
use Rattle.journal.proofs.Placing.{found_none, found_some}
use Rattle.journal.proofs.Pools.{Rising-pool, waiting-at}

module _ {B G : Type 0} (size : B → ℕ) (start : Ledger B G) (kept : IsLedger size start) (actor : Actor) (choice : ℕ) where
  -- what waits once a draw found this
  abbrev Left : Bool → Option (Packet B) → Queues → Sums → Type 0
  Left keep found queues waits = Waits size start.entries.items (pool (drawn_entry actor keep found ∷ past start.entries.items)) queues waits

  -- nothing is found, and nothing leaves
  pub none_leaves : (keep : Bool) → IsFound start.entries.items None (pick actor choice (past start.entries.items)) → Left keep (pick actor choice (past start.entries.items)) start.queues start.waiting
  none_leaves keep found =
      subst (λ o. Left keep o start.queues start.waiting) (sym (found_none start.entries.items (pick actor choice (past start.entries.items)) found)) kept.waits

  -- the place of a packet that waits for the actor
  module _ (place : PacketPlace) (found : IsFound start.entries.items (Some place) (pick actor choice (past start.entries.items))) where
    pub record IsPicked : Type 0 where
      pub packet : Packet B
      pub picks : pick actor choice (past start.entries.items) ≡ Some packet
      pub is : IsPlaceOf start.entries.items place packet
      pub some : 1 ≤ start.waiting.letters
      pub small : size packet.body ≤ start.waiting.bytes

    pub picked_is : IsPicked
    picked_is =
        let packets = pool (past start.entries.items) in
        let one = found_some start.entries.items place (pick actor choice (past start.entries.items)) found in
        let at = waiting-at actor packets (choice % length (waiting actor packets)) one.0 one.1 in
        let within = slice_get_within packets at.0 one.0 at.1 in
        let smaller = sum_by-remove (λ q. size q.body) packets at.0 one.0 within in
        let body : size (get_or packets at.0 one.0).body ≡ size one.0.body = ap (λ q. size q.body) (get_or_from_slice_get packets at.0 one.0 one.0 at.1) in
        record {
          packet = one.0;
          picks = one.1;
          is = one.2;
          some = omega (arith, within, kept.waits.letters_are);
          small = omega (arith, smaller, body, kept.waits.bytes_are);
        }

    -- it is kept
    pub stays : (keep : Bool) → keep ≡ true → Left keep (pick actor choice (past start.entries.items)) start.queues start.waiting
    stays true keeps = subst (λ o. Left true o start.queues start.waiting) (sym picked_is.picks) kept.waits
    stays false keeps = cc

    -- it leaves
    pub leaves : (keep : Bool) (after : Queues) (weight : ℕ) → keep ≡ false →
        ((a : Actor) → queue_of after a ≡ (if same_actor actor a then left_in choice (queue_of start.queues a) else queue_of start.queues a)) →
        after.order ≡ without_packet place.id start.queues.order → weight ≡ size picked_is.packet.body →
        Left keep (pick actor choice (past start.entries.items)) after (record { letters = start.waiting.letters - 1; bytes = start.waiting.bytes - weight })
    leaves true after weight keeps left order weight_is = cc
    leaves false after weight keeps left order weight_is =
        let is = picked_is in
        let now : Sums = record { letters = start.waiting.letters - 1; bytes = start.waiting.bytes - weight } in
        subst (λ o. Left false o after now) (sym is.picks)
        (Waits-left size start.entries.items (pool (past start.entries.items)) start.queues after start.waiting now actor choice is.packet
        (Rising-pool size (past start.entries.items) kept.kept.orderly) kept.waits is.picks left
        (order ∙ ap (λ id. without_packet id start.queues.order) is.is.id_is) (omega (arith, is.some)) (omega (arith, is.small, weight_is)))

pub weight_is : {B : Type 0} (size : B → ℕ) (o : Option (Packet B)) (p : Packet B) (weight : ℕ) → IfSome o (λ packet. weight ≡ size packet.body) → o ≡ Some p → weight ≡ size p.body
weight_is size o p weight is found = subst (λ o. IfSome o (λ packet. weight ≡ size packet.body)) found is
