-- The packets of a pool have numbers of their own.
use Rattle.std.proofs.Common.{◌≡◌, ◌<◌, ◌≤◌, ℕ, ◌+◌, Bool, true, false, List, [], ◌∷◌, ◌++◌, length, zero, suc, refl, sym, ◌∙◌, ap, subst, arith, take}
use Rattle.std.specs.Prelude.{nat_eq, not, find, remove, slice_get, IsTrue, ◌&&◌, ◌||◌, Some, if◌then◌else◌}
use Rattle.std.proofs.lemmas.Bool.{eqb-true, eq-eqb}
use Rattle.journal.specs.declared.journal.Actor.{Actor}
use Rattle.journal.specs.declared.journal.JournalEntry.{JournalEntry}
use Rattle.journal.specs.declared.journal.JournalEntry.TheVariants.{Post, Draw, Lose, Local, Idle, Refused}
use Rattle.journal.specs.declared.journal.Letter.{Letter}
use Rattle.journal.specs.declared.journal.Packet.{Packet}
use Rattle.journal.specs.Pool.{pool, numbered_letters, without, waiting, letters_posted}
use Rattle.journal.specs.Part.{packet_of}
use Rattle.journal.specs.Orderly.{IsOrderly, IsWaiting}
use Rattle.journal.specs.Actors.{same_actor}

-- numbers that rise, from low on and below high
pub data Rising {B : Type 0} (high : ℕ) : ℕ → List (Packet B) → Type 0 where
  none : {low : ℕ} → low ≤ high → Rising high low []
  next : {low : ℕ} {p : Packet B} {ps : List (Packet B)} → low ≤ p.id → Rising high (p.id + 1) ps → Rising high low (p ∷ ps)

pub Rising-bound : {B : Type 0} {high low : ℕ} {ps : List (Packet B)} → Rising high low ps → low ≤ high
Rising-bound (none h) = h
Rising-bound (next h r) = let k = Rising-bound r in omega arith

pub Rising-lower : {B : Type 0} {high low : ℕ} {ps : List (Packet B)} (from : ℕ) → from ≤ low → Rising high low ps → Rising high from ps
Rising-lower from h (none k) = none (omega arith)
Rising-lower from h (next k r) = next (omega arith) r

pub Rising-higher : {B : Type 0} {high low : ℕ} {ps : List (Packet B)} (to : ℕ) → high ≤ to → Rising high low ps → Rising to low ps
Rising-higher to h (none k) = none (omega arith)
Rising-higher to h (next k r) = next k (Rising-higher to h r)

-- one list after another
pub Rising-append : {B : Type 0} {high top low : ℕ} {ps qs : List (Packet B)} → Rising high low ps → Rising top high qs → Rising top low (ps ++ qs)
Rising-append (none h) r = Rising-lower _ h r
Rising-append (next h r) s = next h (Rising-append r s)

one_less : {B : Type 0} {high low : ℕ} (b : Bool) (p : Packet B) (qs : List (Packet B)) → low ≤ p.id → Rising high (p.id + 1) qs → Rising high low (if not b then p ∷ qs else qs)
one_less {low = low} true p qs h r = Rising-lower low (omega arith) r
one_less false p qs h r = next h r

-- without some of them
pub Rising-without : {B : Type 0} {high : ℕ} (id : ℕ) (ps : List (Packet B)) {low : ℕ} → Rising high low ps → Rising high low (without id ps)
Rising-without id [] r = r
Rising-without id (p ∷ ps) (next h r) = one_less (nat_eq p.id id) p (without id ps) h (Rising-without id ps r)

kept_or_not : {B : Type 0} {high low : ℕ} (b : Bool) (p : Packet B) (qs : List (Packet B)) → low ≤ p.id → Rising high (p.id + 1) qs → Rising high low (if b then p ∷ qs else qs)
kept_or_not true p qs h r = next h r
kept_or_not {low = low} false p qs h r = Rising-lower low (omega arith) r

-- those for an actor
pub Rising-waiting : {B : Type 0} {high : ℕ} (a : Actor) (ps : List (Packet B)) {low : ℕ} → Rising high low ps → Rising high low (waiting a ps)
Rising-waiting a [] r = r
Rising-waiting a (p ∷ ps) (next h r) = kept_or_not (same_actor p.to a) p (waiting a ps) h (Rising-waiting a ps r)

Rising-take : {B : Type 0} {high : ℕ} (n : ℕ) (ps : List (Packet B)) {low : ℕ} → Rising high low ps → Rising high low (take n ps)
Rising-take zero ps r = none (Rising-bound r)
Rising-take (suc n) [] r = r
Rising-take (suc n) (p ∷ ps) (next h r) = next h (Rising-take n ps r)

Rising-numbered : {B : Type 0} (first : ℕ) (a : Actor) (letters : List (Letter B)) → Rising (first + length letters) first (numbered_letters first a letters)
Rising-numbered first a [] = none (omega arith)
Rising-numbered first a (l ∷ letters) = next (omega arith) (subst (λ n. Rising n (first + 1) (numbered_letters (first + 1) a letters)) (omega arith) (Rising-numbered (first + 1) a letters))

-- the pool of a journal
pub Rising-pool : {B : Type 0} (size : B → ℕ) (entries : List (JournalEntry B)) → IsOrderly size entries → Rising (letters_posted entries) 0 (pool entries)
Rising-pool size [] h = none (omega arith)
Rising-pool size (Post a first letters lost ∷ before) h =
    Rising-append (Rising-pool size before h.2) (rw h.0 (Rising-take _ _ (Rising-numbered (letters_posted before) a letters)))
Rising-pool size (Draw a id true ∷ before) h = Rising-pool size before h.1
Rising-pool size (Draw a id false ∷ before) h = Rising-without id (pool before) (Rising-pool size before h.1)
Rising-pool size (Lose a id ∷ before) h = Rising-without id (pool before) (Rising-pool size before h.1)
Rising-pool size (Local a input ∷ before) h = Rising-pool size before h
Rising-pool size (Idle a ∷ before) h = Rising-pool size before h.1
Rising-pool size (Refused a ∷ before) h = Rising-pool size before h

-- a packet at a place has no number below the first
pub Rising-at : {B : Type 0} {high : ℕ} (ps : List (Packet B)) (i : ℕ) (p : Packet B) {low : ℕ} → Rising high low ps → slice_get ps i ≡ Some p → low ≤ p.id
Rising-at [] i p r h = cc
Rising-at (q ∷ ps) zero p (next k r) h = let same : q ≡ p = cc in rw (← same) k
Rising-at (q ∷ ps) (suc i) p (next k r) h = let above = Rising-at ps i p r h in omega arith

found_choice : {B : Type 0} (q p : Packet B) (ps : List (Packet B)) (b : Bool) → nat_eq q.id p.id ≡ b → (b ≡ true → q ≡ p) → (b ≡ false → find (λ x. nat_eq x.id p.id) ps ≡ Some p) → (if b then Some q else find (λ x. nat_eq x.id p.id) ps) ≡ Some p
found_choice q p ps true e here there = ap Some (here refl)
found_choice q p ps false e here there = there refl

-- a packet is found by its number
pub packet_of-at : {B : Type 0} {high : ℕ} (ps : List (Packet B)) (i : ℕ) (p : Packet B) {low : ℕ} → Rising high low ps → slice_get ps i ≡ Some p → packet_of p.id ps ≡ Some p
packet_of-at [] i p r h = cc
packet_of-at (q ∷ ps) zero p (next k r) h =
    let same : q ≡ p = cc in
    found_choice q p ps (nat_eq q.id p.id) refl (λ _. same) (λ f. absurd (differ (sym f ∙ eq-eqb q.id p.id (ap (λ x. x.id) same))))
  where
    differ : false ≡ true → ⊥
    differ h = cc
packet_of-at (q ∷ ps) (suc i) p (next k r) h =
    found_choice q p ps (nat_eq q.id p.id) refl
    (λ t. let same = eqb-true q.id p.id t in let above = Rising-at ps i p r h in absurd (omega arith))
    (λ _. packet_of-at ps i p r h)

-- no packet of a lower number is there
keep_choice : {B : Type 0} (q : Packet B) (ps qs : List (Packet B)) (b : Bool) → (b ≡ true → ⊥) → qs ≡ ps → (if not b then q ∷ qs else qs) ≡ q ∷ ps
keep_choice q ps qs true h e = absurd (h refl)
keep_choice q ps qs false h e = ap (λ l. q ∷ l) e

without-absent : {B : Type 0} {high : ℕ} (id : ℕ) (ps : List (Packet B)) {low : ℕ} → Rising high low ps → id < low → without id ps ≡ ps
without-absent id [] r h = refl
without-absent id (q ∷ ps) (next k r) h =
    keep_choice q ps (without id ps) (nat_eq q.id id) (λ t. let same = eqb-true q.id id t in absurd (omega arith)) (without-absent id ps r (omega arith))

drop_choice : {B : Type 0} (q : Packet B) (ps qs : List (Packet B)) (b : Bool) → b ≡ true → qs ≡ ps → (if not b then q ∷ qs else qs) ≡ ps
drop_choice q ps qs true h e = e
drop_choice q ps qs false h e = cc

-- a packet leaves a pool by its number as by its place
pub without-at : {B : Type 0} {high : ℕ} (ps : List (Packet B)) (i : ℕ) (p : Packet B) {low : ℕ} → Rising high low ps → slice_get ps i ≡ Some p → without p.id ps ≡ remove ps i
without-at [] i p r h = cc
without-at (q ∷ ps) zero p (next k r) h =
    let same : q ≡ p = cc in
    drop_choice q ps (without p.id ps) (nat_eq q.id p.id) (eq-eqb q.id p.id (ap (λ x. x.id) same)) (rw (← same) (without-absent q.id ps r (omega arith)))
without-at (q ∷ ps) (suc i) p (next k r) h =
    keep_choice q (remove ps i) (without p.id ps) (nat_eq q.id p.id)
    (λ t. let same = eqb-true q.id p.id t in let above = Rising-at ps i p r h in absurd (omega arith))
    (without-at ps i p r h)

-- a packet at a place is among them
pub waits-at : {B : Type 0} (a : Actor) (ps : List (Packet B)) (i : ℕ) (p : Packet B) → slice_get ps i ≡ Some p → same_actor p.to a ≡ true → IsWaiting a p.id ps
waits-at a [] i p h t = cc
waits-at a (q ∷ ps) zero p h t =
    let same : q ≡ p = cc in
    any_here (nat_eq q.id p.id && same_actor q.to a) _ (rw same (both_true (nat_eq p.id p.id) (same_actor p.to a) (eq-eqb p.id p.id refl) t))
  where
    both_true : (x y : Bool) → x ≡ true → y ≡ true → (x && y) ≡ true
    both_true true y h k = k
    both_true false y h k = cc

    any_here : (x y : Bool) → x ≡ true → IsTrue (x || y)
    any_here true y h = refl
    any_here false y h = cc
waits-at a (q ∷ ps) (suc i) p h t = any_there (nat_eq q.id p.id && same_actor q.to a) _ (waits-at a ps i p h t)
  where
    any_there : (x y : Bool) → IsTrue y → IsTrue (x || y)
    any_there true y h = refl
    any_there false y h = h

-- a packet at a place among those for an actor is at a place of the pool
pub waiting-at : {B : Type 0} (a : Actor) (ps : List (Packet B)) (place : ℕ) (p : Packet B) → slice_get (waiting a ps) place ≡ Some p →
    (i : ℕ) × (slice_get ps i ≡ Some p) × (same_actor p.to a ≡ true)
waiting-at a [] place p h = cc
waiting-at a (q ∷ ps) place p h = among (same_actor q.to a) refl place h (λ n. waiting-at a ps n p)
  where
    among : (b : Bool) → same_actor q.to a ≡ b → (n : ℕ) → slice_get (if b then q ∷ waiting a ps else waiting a ps) n ≡ Some p →
        ((n : ℕ) → slice_get (waiting a ps) n ≡ Some p → (i : ℕ) × (slice_get ps i ≡ Some p) × (same_actor p.to a ≡ true)) →
        (i : ℕ) × (slice_get (q ∷ ps) i ≡ Some p) × (same_actor p.to a ≡ true)
    among true e zero h there = let same : q ≡ p = cc in (zero, h, rw (← same) e)
    among true e (suc n) h there = let at = there n h in (suc at.0, at.1, at.2)
    among false e n h there = let at = there n h in (suc at.0, at.1, at.2)
