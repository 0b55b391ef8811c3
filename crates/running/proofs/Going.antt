-- How an actor goes on to its next step, by what its call of the board tells.
use Rattle.std.proofs.Common.{◌≡◌, ℕ, true, zero, Bool, List, [], ◌∷◌, ◌++◌, drop, refl, sym, ◌∙◌, ap, subst, Result, Ok, Err, IfOk, ◌<◌, length, arith}
use Rattle.std.specs.Prelude.{Option, Some, None, IfSome, IsSome, slice_get}
use Rattle.std.proofs.lemmas.List.{reverse-append}
use Rattle.journal.specs.declared.journal.Actor.{Actor}
use Rattle.journal.specs.declared.journal.JournalEntry.{JournalEntry}
use Rattle.journal.specs.declared.journal.Letter.{Letter}
use Rattle.journal.specs.declared.journal.Local.{Local as LocalInput}
use Rattle.journal.specs.declared.journal.Packet.{Packet}
use Rattle.journal.specs.declared.journal.Turn.{Turn}
use Rattle.journal.specs.declared.journal.Turn.TheVariants as turn
use Rattle.journal.specs.declared.place.PacketPlace.{PacketPlace}
use Rattle.journal.specs.Orderly.{IsOrderly}
use Rattle.journal.specs.Part.{drawn}
use Rattle.journal.specs.Places.{IsFound, packet_at}
use Rattle.journal.specs.Pool.{past, pick}
use Rattle.journal.specs.Turns.{entry_of, drawn_entry, lost_entry, posting, posted, turn_actor, turn_entries}
use Rattle.run_spec.specs.declared.messages.Unsealed.{Unsealed}
use Rattle.run_spec.specs.Legal.{FitsTypes}
use Rattle.run_spec.specs.Messages.{way_of}
use Rattle.run_spec.specs.States.{Sealing, content}
use Rattle.run_spec.proofs.Pools.{orderly_before}
use Rattle.journal.proofs.Found.{IsPicked, body_of, picked, picked_packet}
use Rattle.shared_wire.specs.Places.{PlaceState}
use Rattle.shared_wire.specs.Calls.{beside_seat, Adds, AddsNothing}
use Rattle.running.specs.Hearing.{Advances, Hears}

module _ {B I : Type 0} (sealing : Sealing B) (hears : Actor → Unsealed → I) (locally : LocalInput → I) (p q : PlaceState B) (letters : List (Letter B)) (step : Turn) where
  -- the newest entries of a turn come first
  turned : (before : List (JournalEntry B)) → past (turn_entries sealing.size letters step before) ≡ entry_of step (posted sealing.size (turn_actor step) letters before) ∷ posting sealing.size (turn_actor step) letters before
  turned before = by_post letters
    where
      by_post : (ls : List (Letter B)) → past (turn_entries sealing.size ls step before) ≡ entry_of step (posted sealing.size (turn_actor step) ls before) ∷ posting sealing.size (turn_actor step) ls before
      by_post [] = refl
      by_post (l ∷ ls) = refl

  -- a call of the board went on to a step
  pub goes_on : (input : Option I) → turn_actor step ≡ p.actor → (a : Adds p q (turn_entries sealing.size letters step)) →
      (let before = posted sealing.size p.actor letters (past a.met) in Hears sealing hears locally (entry_of step before) (drawn (entry_of step before) before) input) →
      Advances sealing hears locally p q letters step input
  goes_on input mine a heard = record {
    met = a.met;
    later = a.later;
    mine = a.mine;
    others = [];
    seen = ap past a.seen ∙ reverse-append a.met (turn_entries sealing.size letters step (past a.met)) ∙ ap (λ l. l ++ past a.met) (turned (past a.met))
        ∙ ap (λ (x : Actor). entry_of step (posted sealing.size x letters (past a.met)) ∷ posted sealing.size x letters (past a.met)) mine;
    own = a.own ∙ ap (λ l. beside_seat l (past a.met) ++ p.own) (turned (past a.met))
        ∙ ap (λ (x : Actor). let before = posted sealing.size x letters (past a.met) in
        (entry_of step before, drawn (entry_of step before) before) ∷ beside_seat (posting sealing.size x letters (past a.met)) (past a.met) ++ p.own) mine;
    hears_it = heard;
  }

  -- and then looked at the journal once more
  pub still_on : (r : PlaceState B) (input : Option I) → Advances sealing hears locally p q letters step input → AddsNothing q r → Advances sealing hears locally p r letters step input
  still_on r input g n = record {
    met = g.met;
    later = g.later;
    mine = g.mine;
    others = past n.later.0 ++ g.others;
    seen = ap past n.later.1 ∙ reverse-append q.seen n.later.0 ∙ ap (λ l. past n.later.0 ++ l) g.seen ∙ sym (Rattle.std.proofs.Common.append_assoc (past n.later.0) g.others _);
    own = n.own ∙ g.own;
    hears_it = g.hears_it;
  }

module _ {B I : Type 0} (sealing : Sealing B) (hears : Actor → Unsealed → I) (locally : LocalInput → I) where
  lost_hears : (a : Actor) (o : Option (Packet B)) (before : List (JournalEntry B)) → Hears sealing hears locally (lost_entry a o) (drawn (lost_entry a o) before) None
  lost_hears a None before = refl
  lost_hears a (Some p) before = refl

  -- nothing is heard at a loss
  pub loses_on : (p q : PlaceState B) (letters : List (Letter B)) (choice : ℕ) → Adds p q (turn_entries sealing.size letters (turn.Lose p.actor choice)) → Advances sealing hears locally p q letters (turn.Lose p.actor choice) None
  loses_on p q letters choice a = goes_on sealing hears locally p q letters (turn.Lose p.actor choice) None refl a
      (let before = posted sealing.size p.actor letters (past a.met) in lost_hears p.actor (pick p.actor choice before) before)

  -- a local input is
  pub local_on : (p q : PlaceState B) (letters : List (Letter B)) (local : LocalInput) (input : I) → FitsTypes local → input ≡ locally local →
      Adds p q (turn_entries sealing.size letters (turn.Local p.actor local)) → Advances sealing hears locally p q letters (turn.Local p.actor local) (Some input)
  local_on p q letters local input fits is a = goes_on sealing hears locally p q letters (turn.Local p.actor local) (Some input) refl a (fits, ap (λ i. Some i) is)

  module _ (p q : PlaceState B) (letters : List (Letter B)) (choice : ℕ) (keep : Bool) (a : Adds p q (turn_entries sealing.size letters (turn.Draw p.actor choice keep))) where
    abbrev before : List (JournalEntry B)
    before = posted sealing.size p.actor letters (past a.met)

    g : {input : Option I} → Hears sealing hears locally (entry_of (turn.Draw p.actor choice keep) before) (drawn (entry_of (turn.Draw p.actor choice keep) before) before) input → Advances sealing hears locally p q letters (turn.Draw p.actor choice keep) input
    g {input = input} heard = goes_on sealing hears locally p q letters (turn.Draw p.actor choice keep) input refl a heard

    seen_is : drop 1 (past q.seen) ≡ before
    seen_is = ap (drop 1) (ap past a.seen ∙ reverse-append a.met (turn_entries sealing.size letters (turn.Draw p.actor choice keep) (past a.met)) ∙ ap (λ l. l ++ past a.met) (turned sealing hears locally p q letters (turn.Draw p.actor choice keep) (past a.met)))

    -- nothing is heard where no packet waits
    pub finds_nothing : IsFound q.seen None (pick p.actor choice (drop 1 (past q.seen))) → Advances sealing hears locally p q letters (turn.Draw p.actor choice keep) None
    finds_nothing found = g (by_pick (pick p.actor choice before) refl (subst (λ l. IsFound q.seen None (pick p.actor choice l)) seen_is found))
      where
        by_pick : (o : Option (Packet B)) → pick p.actor choice before ≡ o → IsFound q.seen None (pick p.actor choice before) →
            Hears sealing hears locally (drawn_entry p.actor keep (pick p.actor choice before)) (drawn (drawn_entry p.actor keep (pick p.actor choice before)) before) None
        by_pick None is h = rw is refl
        by_pick (Some x) is h = absurd (subst (λ o. IsFound q.seen None o) is h)

    -- and else what the packet says
    pub finds : (place : PacketPlace) → IsFound q.seen (Some place) (pick p.actor choice (drop 1 (past q.seen))) → IsOrderly sealing.size (past q.seen) → (body : B) → IfSome (packet_at place q.seen) (λ x. body ≡ x.body) →
        (input : I) → input ≡ hears place.from (sealing.spelled (way_of place.from place.to) body) → Advances sealing hears locally p q letters (turn.Draw p.actor choice keep) (Some input)
    finds place found orderly body body_is input input_is = g heard
      where
        k : IsPicked q.seen place (pick p.actor choice before)
        k = picked q.seen place (pick p.actor choice before) (subst (λ l. IsFound q.seen (Some place) (pick p.actor choice l)) seen_is found)

        said : sealing.spelled (way_of place.from place.to) body ≡ content sealing k.packet
        said = ap (λ x. sealing.spelled (way_of x place.to) body) k.from_is ∙ ap (λ x. sealing.spelled (way_of k.packet.from x) body) k.to_is ∙
            ap (λ x. sealing.spelled (way_of k.packet.from k.packet.to) x) (body_of (packet_at place q.seen) k.packet body k.stands body_is)

        whole : past q.seen ≡ entry_of (turn.Draw p.actor choice keep) before ∷ before
        whole = ap past a.seen ∙ reverse-append a.met (turn_entries sealing.size letters (turn.Draw p.actor choice keep) (past a.met)) ∙ ap (λ l. l ++ past a.met) (turned sealing hears locally p q letters (turn.Draw p.actor choice keep) (past a.met))

        orderly_then : IsOrderly sealing.size before
        orderly_then = orderly_before sealing.size (entry_of (turn.Draw p.actor choice keep) before) before (subst (λ l. IsOrderly sealing.size l) whole orderly)

        heard : Hears sealing hears locally (drawn_entry p.actor keep (pick p.actor choice before)) (drawn (drawn_entry p.actor keep (pick p.actor choice before)) before) (Some input)
        heard =
            let its = picked_packet sealing.size p.actor choice before k.packet orderly_then k.is in
            rw (k.is) (k.packet, its, ap (λ i. Some i) (input_is ∙ ap (λ x. hears x (sealing.spelled (way_of place.from place.to) body)) k.from_is ∙ ap (λ x. hears k.packet.from x) said))

-- the letter of a packet came to a bag
abbrev pub Came : {B : Type 0} → Option (Packet B) → List (Letter B) → List (Letter B) → Type 0
Came {B = B} found before bag = IfSome found (λ p. (letter : Letter B) × (bag ≡ before ++ letter ∷ []) × (letter.body ≡ p.body))

module _ {B : Type 0} where
  pub stands_there : (journal : List (JournalEntry B)) (place : PacketPlace) (found : Option (Packet B)) → IsFound journal (Some place) found → IsSome (packet_at place journal)
  stands_there journal place None is = absurd is
  stands_there journal place (Some p) is = rw is.stands refl

  pub holds_one : (found : Option (Packet B)) (before bag : List (Letter B)) → before ≡ [] → IsSome found → Came found before bag → 0 < length bag
  holds_one None before bag blank some came = absurd (let e = some in cc)
  holds_one (Some p) before bag blank some came = rw (came.1, blank) (omega arith)

  -- what is true of the body of the first letter is true of the packet's, if it is the only one
  pub reads_one : (found : Option (Packet B)) (before bag : List (Letter B)) (P : B → Type 0) → before ≡ [] → IsSome found → Came found before bag → IfSome (slice_get bag 0) (λ letter. P letter.body) →
      (body : B) × IfSome found (λ p. body ≡ p.body) × P body
  reads_one None before bag P blank some came read = absurd (let e = some in cc)
  reads_one (Some p) before bag P blank some came read =
      (came.0.body, came.2, subst (λ (ls : List (Letter B)). IfSome (slice_get ls 0) (λ letter. P letter.body)) (came.1 ∙ ap (λ l. l ++ came.0 ∷ []) blank) read)
