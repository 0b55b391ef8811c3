-- A post finds room where the pool has place for its packets: their bytes always fit, since a journal has no more of them than a pool.
use Rattle.std.proofs.Common.{◌≡◌, ◌≤◌, ℕ, ◌+◌, ◌-◌, Bool, true, false, ◌&&◌, List, [], ◌∷◌, length, refl, ◌∙◌, ap, arith}
use Rattle.std.specs.Prelude.{nat_eq, nat_le, not, if◌then◌else◌}
use Rattle.std.proofs.lemmas.Bool.{le-leb}
use Rattle.std.proofs.lemmas.List.Sums.{sum_by-append, sum_by-cons, sum_by-take-le}
use Rattle.journal.specs.declared.journal.Actor.{Actor}
use Rattle.journal.specs.declared.journal.JournalEntry.{JournalEntry}
use Rattle.journal.specs.declared.journal.JournalEntry.TheVariants.{Post, Draw, Lose, Local, Idle, Refused}
use Rattle.journal.specs.declared.journal.Letter.{Letter}
use Rattle.journal.specs.declared.journal.Packet.{Packet}
use Rattle.journal.specs.Limits.{pool_packets, pool_bodies}
use Rattle.journal.specs.Orderly.{IsOrderly, fitting_count, pool_bytes}
use Rattle.journal.specs.Pool.{pool, numbered_letters, fitting, without, letter_bytes, bytes_posted}
use Rattle.journal.specs.Turns.{IsWithinLimits}

module _ {B : Type 0} (size : B → ℕ) where
  bytes-cons : (p : Packet B) (ps : List (Packet B)) → pool_bytes size (p ∷ ps) ≡ size p.body + pool_bytes size ps
  bytes-cons p ps = sum_by-cons (λ (q : Packet B). size q.body) p ps

  letters-cons : (l : Letter B) (ls : List (Letter B)) → letter_bytes size (l ∷ ls) ≡ size l.body + letter_bytes size ls
  letters-cons l ls = sum_by-cons (λ (x : Letter B). size x.body) l ls

  numbered_bytes : (first : ℕ) (a : Actor) (letters : List (Letter B)) → pool_bytes size (numbered_letters first a letters) ≡ letter_bytes size letters
  numbered_bytes first a [] = refl
  numbered_bytes first a (l ∷ letters) =
      let more = numbered_bytes (first + 1) a letters in
      let here = bytes-cons (record { id = first; from = a; to = l.to; body = l.body }) (numbered_letters (first + 1) a letters) in
      let said = letters-cons l letters in
      omega (arith, more, here, said)

  without_bytes : (id : ℕ) (ps : List (Packet B)) → pool_bytes size (without id ps) ≤ pool_bytes size ps
  without_bytes id [] = omega arith
  without_bytes id (p ∷ ps) = by_test (not (nat_eq p.id id)) (without_bytes id ps)
    where
      by_test : (b : Bool) → pool_bytes size (without id ps) ≤ pool_bytes size ps → pool_bytes size (if b then p ∷ without id ps else without id ps) ≤ pool_bytes size (p ∷ ps)
      by_test true low = let a = bytes-cons p (without id ps) in let b = bytes-cons p ps in omega (arith, a, b, low)
      by_test false low = let b = bytes-cons p ps in omega (arith, b, low)

  -- no more bytes wait than were posted
  waiting_bytes : (P : List (JournalEntry B)) → pool_bytes size (pool P) ≤ bytes_posted size P
  waiting_bytes [] = omega arith
  waiting_bytes (Post a first letters lost ∷ P) =
      let old = waiting_bytes P in
      let all = sum_by-append (λ (p : Packet B). size p.body) (pool P) (fitting first a letters lost) in
      let some = sum_by-take-le (λ (p : Packet B). size p.body) (numbered_letters first a letters) (length letters - lost) in
      let same = numbered_bytes first a letters in
      omega (arith, old, all, some, same)
  waiting_bytes (Draw a id true ∷ P) = waiting_bytes P
  waiting_bytes (Draw a id false ∷ P) = let old = waiting_bytes P in let less = without_bytes id (pool P) in omega (arith, old, less)
  waiting_bytes (Lose a id ∷ P) = let old = waiting_bytes P in let less = without_bytes id (pool P) in omega (arith, old, less)
  waiting_bytes (Local a input ∷ P) = waiting_bytes P
  waiting_bytes (Idle a ∷ P) = waiting_bytes P
  waiting_bytes (Refused a ∷ P) = waiting_bytes P

  all_fitting : (packets bytes : ℕ) (letters : List (Letter B)) → packets + length letters ≤ pool_packets → bytes + letter_bytes size letters ≤ pool_bodies → fitting_count size packets bytes letters ≡ length letters
  all_fitting packets bytes [] places room = refl
  all_fitting packets bytes (l ∷ letters) places room =
      let said = letters-cons l letters in
      let one : nat_le (packets + 1) pool_packets ≡ true = le-leb (packets + 1) pool_packets (omega (arith, places)) in
      let two : nat_le (bytes + size l.body) pool_bodies ≡ true = le-leb (bytes + size l.body) pool_bodies (omega (arith, room, said)) in
      let more = all_fitting (packets + 1) (bytes + size l.body) letters (omega (arith, places)) (omega (arith, room, said)) in
      ap (λ (b : Bool). if b && nat_le (bytes + size l.body) pool_bodies then 1 + fitting_count size (packets + 1) (bytes + size l.body) letters else 0) one
      ∙ ap (λ (b : Bool). if b then 1 + fitting_count size (packets + 1) (bytes + size l.body) letters else 0) two
      ∙ ap (λ (n : ℕ). 1 + n) more ∙ (let both : 1 + length letters ≡ length (l ∷ letters) = omega arith in both)

  -- so a post for which there is place loses nothing
  pub finds_room : (a : Actor) (first : ℕ) (letters : List (Letter B)) (lost : ℕ) (P : List (JournalEntry B)) → IsOrderly size (Post a first letters lost ∷ P) → IsWithinLimits size (Post a first letters lost ∷ P) →
      length (pool P) + length letters ≤ pool_packets → lost ≡ 0
  finds_room a first letters lost P orderly within places =
      let old = waiting_bytes P in
      let most = within.bytes in
      let all = all_fitting (length (pool P)) (pool_bytes size (pool P)) letters places (omega (arith, old, most)) in
      let is = orderly.1 in
      omega (arith, all, is)

-- the limits of a journal are those of each part of it
pub within_before : {B : Type 0} (size : B → ℕ) (e : JournalEntry B) (P : List (JournalEntry B)) → IsWithinLimits size (e ∷ P) → IsWithinLimits size P
within_before size (Post a first letters lost) P h = record { letters = (let l = h.letters in omega (arith, l)); bytes = (let b = h.bytes in omega (arith, b)) }
within_before size (Draw a id keep) P h = record { letters = h.letters; bytes = h.bytes }
within_before size (Lose a id) P h = record { letters = h.letters; bytes = h.bytes }
within_before size (Local a input) P h = record { letters = h.letters; bytes = h.bytes }
within_before size (Idle a) P h = record { letters = h.letters; bytes = h.bytes }
within_before size (Refused a) P h = record { letters = h.letters; bytes = h.bytes }
