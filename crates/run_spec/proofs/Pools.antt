-- What is drawn stood in the pool, and what stands in the pool was posted.
use Rattle.std.proofs.Common.{◌≡◌, ℕ, ◌+◌, Bool, true, false, ◌&&◌, List, [], ◌∷◌, suc, refl, ap, subst, inl, inr}
use Rattle.std.specs.Prelude.{slice_get, nat_eq, Some, if◌then◌else◌}
use Rattle.std.specs.List.{list_any}
use Rattle.std.proofs.lemmas.Bool.{and_parts, or_cases, eqb-true}
use Rattle.journal.specs.declared.journal.Actor.{Actor}
use Rattle.journal.specs.declared.journal.Actor.TheVariants as actor
use Rattle.journal.specs.declared.journal.JournalEntry.{JournalEntry}
use Rattle.journal.specs.declared.journal.JournalEntry.TheVariants.{Post, Draw, Lose, Local, Idle, Refused}
use Rattle.journal.specs.declared.journal.Letter.{Letter}
use Rattle.journal.specs.declared.journal.Packet.{Packet}
use Rattle.journal.specs.Actors.{same_actor}
use Rattle.journal.specs.Orderly.{IsOrderly}
use Rattle.journal.specs.Part.{packet_of}
use Rattle.journal.specs.Pool.{pool, numbered_letters, fitting, without}
use Rattle.list_facts.proofs.Elements.{in_append, in_filter, in_take}
use Rattle.list_facts.proofs.Places.{get_in}
use Rattle.list_facts.specs.Lists.{IsIn}
use Rattle.journal.proofs.Pools.{Rising-pool, packet_of-at}

-- one actor is one
pub one_actor : (a b : Actor) → same_actor a b ≡ true → a ≡ b
one_actor (actor.Controller i) (actor.Controller j) h = ap (λ k. actor.Controller k) (eqb-true i j h)
one_actor (actor.Switch i) (actor.Switch j) h = ap (λ k. actor.Switch k) (eqb-true i j h)
one_actor (actor.Controller i) (actor.Switch j) h = cc
one_actor (actor.Switch i) (actor.Controller j) h = cc

-- the journal without its newest entry
pub orderly_before : {B : Type 0} (size : B → ℕ) (e : JournalEntry B) (before : List (JournalEntry B)) → IsOrderly size (e ∷ before) → IsOrderly size before
orderly_before size (Post a first letters lost) before h = h.2
orderly_before size (Draw a id keep) before h = h.1
orderly_before size (Lose a id) before h = h.1
orderly_before size (Local a input) before h = h
orderly_before size (Idle a) before h = h.1
orderly_before size (Refused a) before h = h

-- a packet of this number that waits
record IsPlaced {B : Type 0} (a : Actor) (id : ℕ) (ps : List (Packet B)) : Type 0 where
  pub place : ℕ
  pub packet : Packet B
  pub at : slice_get ps place ≡ Some packet
  pub numbered : packet.id ≡ id
  pub goes_to : same_actor packet.to a ≡ true

placed : {B : Type 0} (a : Actor) (id : ℕ) (ps : List (Packet B)) → list_any (λ (p : Packet B). nat_eq p.id id && same_actor p.to a) ps ≡ true → IsPlaced a id ps
placed a id [] h = absurd cc
placed a id (p ∷ ps) h =
    elim (or_cases (nat_eq p.id id && same_actor p.to a) _ h) [
      | inl here ↦
          let both = and_parts (nat_eq p.id id) (same_actor p.to a) here in
          record { place = 0; packet = p; at = refl; numbered = eqb-true p.id id both.0; goes_to = both.1 }
      | inr there ↦ let r = placed a id ps there in record { place = suc r.place; packet = r.packet; at = r.at; numbered = r.numbered; goes_to = r.goes_to }
    ]

-- what a draw of an orderly journal finds
pub record IsFound {B : Type 0} (a : Actor) (id : ℕ) (before : List (JournalEntry B)) : Type 0 where
  pub packet : Packet B
  pub found : packet_of id (pool before) ≡ Some packet
  pub among : IsIn packet (pool before)
  pub goes_to : packet.to ≡ a

pub drawn_found : {B : Type 0} (size : B → ℕ) (a : Actor) (id : ℕ) (keep : Bool) (before : List (JournalEntry B)) → IsOrderly size (Draw a id keep ∷ before) → IsFound a id before
drawn_found size a id keep before h =
    let r = placed a id (pool before) h.0 in
    record {
      packet = r.packet;
      found = subst (λ (n : ℕ). packet_of n (pool before) ≡ Some r.packet) r.numbered (packet_of-at (pool before) r.place r.packet (Rising-pool size before h.1) r.at);
      among = get_in (pool before) r.packet r.place r.at;
      goes_to = one_actor r.packet.to a r.goes_to;
    }

-- a packet as a letter of a post
pub record IsPosted {B : Type 0} (a : Actor) (letters : List (Letter B)) (p : Packet B) : Type 0 where
  pub letter : Letter B
  pub among : IsIn letter letters
  pub from_is : p.from ≡ a
  pub to_is : p.to ≡ letter.to
  pub body_is : p.body ≡ letter.body

posted_letter : {B : Type 0} (first : ℕ) (a : Actor) (letters : List (Letter B)) (p : Packet B) → IsIn p (numbered_letters first a letters) → IsPosted a letters p
posted_letter first a [] p h = absurd h
posted_letter {B = B} first a (l ∷ letters) p (inl e) =
    record { letter = l; among = inl refl; from_is = ap (λ (q : Packet B). q.from) e; to_is = ap (λ (q : Packet B). q.to) e; body_is = ap (λ (q : Packet B). q.body) e }
posted_letter first a (l ∷ letters) p (inr h) =
    let r = posted_letter (first + 1) a letters p h in
    record { letter = r.letter; among = inr r.among; from_is = r.from_is; to_is = r.to_is; body_is = r.body_is }

-- a packet of the pool was there before, or is one of the letters of a post
pub data PoolAfter {B : Type 0} (e : JournalEntry B) (before : List (JournalEntry B)) (p : Packet B) : Type 0 where
  Was : IsIn p (pool before) → PoolAfter e before p
  New : (a : Actor) (first : ℕ) (letters : List (Letter B)) (lost : ℕ) → e ≡ Post a first letters lost → IsPosted a letters p → PoolAfter e before p

kept_choice : {B : Type 0} (keep : Bool) (id : ℕ) (ps : List (Packet B)) (p : Packet B) → IsIn p (if keep then ps else without id ps) → IsIn p ps
kept_choice true id ps p h = h
kept_choice false id ps p h = in_filter _ ps p h

pub pool_after : {B : Type 0} (e : JournalEntry B) (before : List (JournalEntry B)) (p : Packet B) → IsIn p (pool (e ∷ before)) → PoolAfter e before p
pool_after (Post a first letters lost) before p h =
    elim (in_append p (pool before) (fitting first a letters lost) h) [
      | inl old ↦ Was old
      | inr new ↦ New a first letters lost refl (posted_letter first a letters p (in_take _ (numbered_letters first a letters) p new))
    ]
pool_after (Draw a id keep) before p h = Was (kept_choice keep id (pool before) p h)
pool_after (Lose a id) before p h = Was (in_filter _ (pool before) p h)
pool_after (Local a input) before p h = Was h
pool_after (Idle a) before p h = Was h
pool_after (Refused a) before p h = Was h
