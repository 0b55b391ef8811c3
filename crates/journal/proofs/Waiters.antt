-- The numbers and receivers of packets.
use Rattle.std.proofs.Common.{◌≡◌, ℕ, ◌+◌, Bool, true, false, List, [], ◌∷◌, map, refl, ap, arith}
use Rattle.std.specs.Prelude.{not, nat_eq, if◌then◌else◌}
use Rattle.journal.specs.declared.journal.Actor.{Actor}
use Rattle.journal.specs.declared.journal.Letter.{Letter}
use Rattle.journal.specs.declared.journal.Packet.{Packet}
use Rattle.journal.specs.Order.{waiter_of, addressed, without_packet, HaveNumbersBelow}
use Rattle.journal.specs.Pool.{numbered_letters, without}
use Rattle.journal.proofs.Pools.{Rising, next, Rising-bound}

module _ {B : Type 0} where
  pub waiters-numbered : (first : ℕ) (a : Actor) (letters : List (Letter B)) → map waiter_of (numbered_letters first a letters) ≡ addressed first letters
  waiters-numbered first a [] = refl
  waiters-numbered first a (l ∷ letters) = ap (λ ws. (first, l.to) ∷ ws) (waiters-numbered (first + 1) a letters)

  kept_or_not : (p : Packet B) (ps : List (Packet B)) (ws : List (ℕ × Actor)) (b : Bool) → map waiter_of ps ≡ ws →
      map waiter_of (if not b then p ∷ ps else ps) ≡ (if not b then waiter_of p ∷ ws else ws)
  kept_or_not p ps ws true same = same
  kept_or_not p ps ws false same = ap (λ vs. waiter_of p ∷ vs) same

  pub waiters-without : (id : ℕ) (packets : List (Packet B)) → map waiter_of (without id packets) ≡ without_packet id (map waiter_of packets)
  waiters-without id [] = refl
  waiters-without id (p ∷ packets) =
      kept_or_not p (without id packets) (without_packet id (map waiter_of packets)) (nat_eq p.id id) (waiters-without id packets)

  -- packets of numbers that rise
  pub waiters-below : {high : ℕ} (packets : List (Packet B)) {low : ℕ} → Rising high low packets → HaveNumbersBelow high (map waiter_of packets)
  waiters-below [] rising = tt
  waiters-below (p ∷ packets) (next above rising) = let under = Rising-bound rising in (omega arith, waiters-below packets rising)
