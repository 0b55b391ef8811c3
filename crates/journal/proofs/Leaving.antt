-- Packets that leave a pool, and those for each actor that stay.
use Rattle.std.proofs.Common.{◌≡◌, ℕ, ◌+◌, Bool, true, false, Some, List, [], ◌∷◌, length, filter, get_or, refl, sym, ap, ◌∙◌, arith, zero, suc, subst, cond}
use Rattle.std.specs.Prelude.{slice_get, not, nat_eq, if◌then◌else◌, ◌%◌}
use Rattle.std.specs.List.{remove}
use Rattle.std.proofs.lemmas.Bool.{eqb-true, eq-eqb}
use Rattle.std.proofs.lemmas.Option.{none-some, slice_get_within, get_or_from_slice_get}
use Rattle.std.proofs.lemmas.List.Edits.{length-remove}
use Rattle.std.proofs.lemmas.List.Sums.{sum_by-remove}
use Rattle.journal.specs.declared.journal.Actor.{Actor}
use Rattle.journal.specs.declared.journal.Actor.TheVariants.{Controller, Switch}
use Rattle.journal.specs.declared.journal.JournalEntry.{JournalEntry}
use Rattle.journal.specs.declared.journal.Packet.{Packet}
use Rattle.journal.specs.declared.pool.Sums.{Sums}
use Rattle.journal.specs.declared.queues.Queues.{Queues}
use Rattle.journal.specs.Actors.{same_actor}
use Rattle.journal.specs.Ledger.{Waits}
use Rattle.journal.specs.Orderly.{pool_bytes}
use Rattle.journal.specs.Order.{without_packet}
use Rattle.journal.specs.Places.{queue_of, left_in, ArePlacesOf}
use Rattle.journal.specs.Pool.{waiting, without, chosen}
use Rattle.journal.proofs.Placing.{places_length, places_remove}
use Rattle.journal.proofs.Pools.{Rising, Rising-waiting, without-at, waiting-at}
use Rattle.journal.proofs.Waiters.{waiters-without}

pub same_actor-true : (a b : Actor) → same_actor a b ≡ true → a ≡ b
same_actor-true (Controller i) (Controller j) h = ap Controller (eqb-true i j h)
same_actor-true (Switch i) (Switch j) h = ap Switch (eqb-true i j h)
same_actor-true (Controller i) (Switch j) h = cc
same_actor-true (Switch i) (Controller j) h = cc

pub same_actor-refl : (a : Actor) → same_actor a a ≡ true
same_actor-refl (Controller i) = eq-eqb i i refl
same_actor-refl (Switch i) = eq-eqb i i refl

-- two filters, one after the other
filters_swap : {A : Type 0} (p q : A → Bool) (xs : List A) → filter p (filter q xs) ≡ filter q (filter p xs)
filters_swap p q [] = refl
filters_swap p q (x ∷ xs) = by_tests (p x) (q x) refl refl (filters_swap p q xs)
  where
    by_tests : (b c : Bool) → p x ≡ b → q x ≡ c → filter p (filter q xs) ≡ filter q (filter p xs) → filter p (cond c (x ∷ filter q xs) (filter q xs)) ≡ filter q (cond b (x ∷ filter p xs) (filter p xs))
    by_tests true true e f same = ap (λ b. cond b (x ∷ filter p (filter q xs)) (filter p (filter q xs))) e ∙ ap (λ ys. x ∷ ys) same ∙ ap (λ b. cond b (x ∷ filter q (filter p xs)) (filter q (filter p xs))) (sym f)
    by_tests true false e f same = same ∙ ap (λ b. cond b (x ∷ filter q (filter p xs)) (filter q (filter p xs))) (sym f)
    by_tests false true e f same = ap (λ b. cond b (x ∷ filter p (filter q xs)) (filter p (filter q xs))) e ∙ same
    by_tests false false e f same = same

-- one that does not pass goes away
filter_remove_other : {A : Type 0} (test : A → Bool) (xs : List A) (i : ℕ) (x : A) → slice_get xs i ≡ Some x → test x ≡ false → filter test (remove xs i) ≡ filter test xs
filter_remove_other test [] i x h e = absurd (none-some x h)
filter_remove_other test (y ∷ xs) zero x h e =
    let same : y ≡ x = cc in
    sym (ap (λ b. cond b (y ∷ filter test xs) (filter test xs)) (ap test same ∙ e))
filter_remove_other test (y ∷ xs) (suc i) x h e = ap (λ ys. cond (test y) (y ∷ ys) ys) (filter_remove_other test xs i x h e)

module _ {B : Type 0} where
  waiting_here : {high low : ℕ} (a : Actor) (packets : List (Packet B)) (i : ℕ) (p : Packet B) → Rising high low packets → slice_get (waiting a packets) i ≡ Some p →
      waiting a (without p.id packets) ≡ remove (waiting a packets) i
  waiting_here a packets i p rising h =
      filters_swap (λ q. same_actor q.to a) (λ q. not (nat_eq q.id p.id)) packets ∙ without-at (waiting a packets) i p (Rising-waiting a packets rising) h

  waiting_elsewhere : {high low : ℕ} (a : Actor) (packets : List (Packet B)) (i : ℕ) (p : Packet B) → Rising high low packets → slice_get packets i ≡ Some p → same_actor p.to a ≡ false →
      waiting a (without p.id packets) ≡ waiting a packets
  waiting_elsewhere a packets i p rising h other = ap (waiting a) (without-at packets i p rising h) ∙ filter_remove_other (λ q. same_actor q.to a) packets i p h other

  -- the packet of a choice leaves the pool
  pub Waits-left : {high low : ℕ} (size : B → ℕ) (journal : List (JournalEntry B)) (packets : List (Packet B)) (queues after : Queues) (waits now : Sums) (actor : Actor) (choice : ℕ) (p : Packet B) →
      Rising high low packets → Waits size journal packets queues waits → chosen choice (waiting actor packets) ≡ Some p →
      ((a : Actor) → queue_of after a ≡ (if same_actor actor a then left_in choice (queue_of queues a) else queue_of queues a)) →
      after.order ≡ without_packet p.id queues.order →
      now.letters + 1 ≡ waits.letters → now.bytes + size p.body ≡ waits.bytes → Waits size journal (without p.id packets) after now
  Waits-left size journal packets queues after waits now actor choice p rising is found left order letters bytes =
      let at = waiting-at actor packets (choice % length (waiting actor packets)) p found in
      let within = slice_get_within packets at.0 p at.1 in
      let removed = without-at packets at.0 p rising at.1 in
      let shorter = length-remove packets at.0 within in
      let smaller = sum_by-remove (λ q. size q.body) packets at.0 p within in
      let body : size (get_or packets at.0 p).body ≡ size p.body = ap (λ q. size q.body) (get_or_from_slice_get packets at.0 p p at.1) in
      record {
        letters_are = omega (arith, letters, is.letters_are, shorter) ∙ ap length (sym removed);
        bytes_are = omega (arith, bytes, is.bytes_are, smaller, body) ∙ ap (pool_bytes size) (sym removed);
        order_is = order ∙ ap (without_packet p.id) is.order_is ∙ sym (waiters-without p.id packets);
        queues_are = λ a. by_actor a at.0 at.1 at.2 (same_actor actor a) refl;
      }
    where
      by_actor : (a : Actor) (i : ℕ) → slice_get packets i ≡ Some p → same_actor p.to actor ≡ true → (b : Bool) → same_actor actor a ≡ b → ArePlacesOf journal (queue_of after a) (waiting a (without p.id packets))
      by_actor a i at to true e =
          let same = same_actor-true actor a e in
          let now : queue_of after a ≡ remove (queue_of queues a) (choice % length (queue_of queues a)) = left a ∙ ap (λ b. if b then left_in choice (queue_of queues a) else queue_of queues a) e in
          let count = places_length journal (queue_of queues a) (waiting a packets) (is.queues_are a) in
          let gone : waiting a (without p.id packets) ≡ remove (waiting a packets) (choice % length (waiting a packets)) =
          waiting_here a packets (choice % length (waiting a packets)) p rising (subst (λ b. chosen choice (waiting b packets) ≡ Some p) same found) in
          rw (now, gone, count) (places_remove journal (choice % length (waiting a packets)) (queue_of queues a) (waiting a packets) (is.queues_are a))
      by_actor a i at to false e =
          let now : queue_of after a ≡ queue_of queues a = left a ∙ ap (λ b. if b then left_in choice (queue_of queues a) else queue_of queues a) e in
          let other : same_actor p.to a ≡ false = ap (λ b. same_actor b a) (same_actor-true p.to actor to) ∙ e in
          rw (now, waiting_elsewhere a packets i p rising at other) (is.queues_are a)
