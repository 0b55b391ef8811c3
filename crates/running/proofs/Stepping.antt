-- An actor has taken one step more.
use Rattle.std.proofs.Common.{◌≡◌, ℕ, ◌+◌, Bool, true, false, zero, suc, List, [], ◌∷◌, ◌++◌, length, take, cond, refl, sym, ◌∙◌, ap, subst, arith}
use Rattle.std.specs.Prelude.{Option, Some, None, ◌&&◌, slice_get, if◌then◌else◌}
use Rattle.std.proofs.lemmas.List.{reverse-append}
use Rattle.std.proofs.lemmas.List.Sums.{sum_by-cons}
use Rattle.journal.specs.declared.journal.Actor.{Actor}
use Rattle.journal.specs.declared.journal.JournalEntry.{JournalEntry}
use Rattle.journal.specs.declared.journal.JournalEntry.TheVariants.{Post, Draw, Lose, Local, Idle, Refused}
use Rattle.journal.specs.declared.journal.Letter.{Letter}
use Rattle.journal.specs.declared.journal.Local.{Local as LocalInput}
use Rattle.journal.specs.declared.journal.Packet.{Packet}
use Rattle.journal.specs.declared.journal.Turn.{Turn}
use Rattle.journal.specs.declared.journal.Turn.TheVariants as turn
use Rattle.journal.specs.declared.wire.Stop.{Stop}
use Rattle.journal.specs.declared.wire.Stop.TheVariants.{OutOfMemory, JournalFull}
use Rattle.journal.specs.Actors.{same_actor, actor_of, is_input}
use Rattle.journal.specs.Part.{part, drawn}
use Rattle.journal.specs.Pool.{past, pick}
use Rattle.journal.specs.Turns.{entry_of, drawn_entry, lost_entry, posting, posted, turn_actor, IsFull}
use Rattle.run_spec.specs.declared.messages.Unsealed.{Unsealed}
use Rattle.run_spec.specs.States.{Sealing}
use Rattle.shared_wire.specs.Rule.{StartsWith}
use Rattle.shared_wire.specs.Places.{PlaceState}
use Rattle.shared_wire.specs.Calls.{beside_seat, Adds, Refuses}
use Rattle.shared_wire.proofs.Parts.{AllBy, part-own, same_of}
use Rattle.shared_wire.proofs.Turns.{by_entry, by_posting}
use Rattle.running.specs.Apart.{steps_of, inputs_of, IsStepAt}
use Rattle.running.specs.Hearing.{Advances, StopsAt}
use Rattle.running.specs.Jobs.{PlaysOn, StopsIn}
use Rattle.running.proofs.Following.{Taken, still}

module _ {B : Type 0} where
  an_input : (step : Turn) (before : List (JournalEntry B)) → is_input (entry_of step before) ≡ true
  an_input (turn.Draw a choice keep) before = by_pick (pick a choice before)
    where
      by_pick : (o : Option (Packet B)) → is_input (drawn_entry a keep o) ≡ true
      by_pick None = refl
      by_pick (Some p) = refl
  an_input (turn.Lose a choice) before = by_pick (pick a choice before)
    where
      by_pick : (o : Option (Packet B)) → is_input (lost_entry a o) ≡ true
      by_pick None = refl
      by_pick (Some p) = refl
  an_input (turn.Local a input) before = refl

  is_step : (steps : List Turn) (number : ℕ) (e : JournalEntry B) (before : List (JournalEntry B)) → is_input e ≡ true → (step : Turn) × (slice_get steps number ≡ Some step) × (e ≡ entry_of step before) → IsStepAt steps number e before
  is_step steps number (Post a first letters lost) before input h = tt
  is_step steps number (Refused a) before input h = absurd (let e = input in cc)
  is_step steps number (Draw a id keep) before input h = h
  is_step steps number (Lose a id) before input h = h
  is_step steps number (Local a l) before input h = h
  is_step steps number (Idle a) before input h = h

  -- one more input was taken
  pub one_more : (a : Actor) (e : JournalEntry B) (before : List (JournalEntry B)) → is_input e ≡ true → same_actor (actor_of e) a ≡ true → inputs_of a (e ∷ before) ≡ inputs_of a before + 1
  one_more a e before input own =
      let n : inputs_of a (e ∷ before) ≡ 1 + inputs_of a before = sum_by-cons (λ (x : JournalEntry B). cond (is_input x && same_actor (actor_of x) a) 1 0) e before ∙ rw (input, own) refl in
      omega (arith, n)

  -- a post takes no step
  pub posts_taken : (size : B → ℕ) (b a : Actor) (steps : List Turn) (number : ℕ) (letters : List (Letter B)) (before : List (JournalEntry B)) → Taken a steps number before → Taken a steps number (posted size b letters before)
  posts_taken size b a steps number [] before t = t
  posts_taken size b a steps number (l ∷ letters) before t = record { takes = ((λ own. tt), t.takes); count = t.count }

  -- a journal that grew by a front, in which the actor has no more than before
  pub longer : (p q : PlaceState B) (steps : List Turn) (number : ℕ) → q.actor ≡ p.actor → p.own ≡ part p.actor (past p.seen) → q.own ≡ part q.actor (past q.seen) → q.own ≡ p.own → StartsWith q.seen p.seen →
      Taken p.actor steps number (past p.seen) → Taken p.actor steps number (past q.seen)
  longer p q steps number same p_part q_part own later t =
      let met : past q.seen ≡ past later.0 ++ past p.seen = ap past later.1 ∙ reverse-append p.seen later.0 in
      subst (λ (l : List (JournalEntry B)). Taken p.actor steps number l) (sym met)
      (still p.actor steps number (past later.0) (past p.seen) (ap (part p.actor) (sym met) ∙ ap (λ (x : Actor). part x (past q.seen)) (sym same) ∙ sym q_part ∙ own ∙ p_part) t)

  -- what a board refuses is owed as before
  pub refused_stops : (size : B → ℕ) (p q : PlaceState B) (post : List (Letter B)) (stop : Stop) → Refuses size p q post stop → StopsAt size p q post post stop
  refused_stops size p q post OutOfMemory h = tt
  refused_stops size p q post (JournalFull bytes letters) h = (h.nothing.own, h.nothing.later, refl, h.cause)

module _ {B I : Type 0} (sealing : Sealing B) (hears : Actor → Unsealed → I) (locally : LocalInput → I) (p q : PlaceState B) (letters : List (Letter B)) (step : Turn) (input : Option I)
    (g : Advances sealing hears locally p q letters step input) (mine : turn_actor step ≡ p.actor) (same : q.actor ≡ p.actor)
    (p_part : p.own ≡ part p.actor (past p.seen)) (q_part : q.own ≡ part q.actor (past q.seen)) (steps : List Turn) (number : ℕ) (next : slice_get (steps_of p.actor steps) number ≡ Some step)
    (t : Taken p.actor steps number (past p.seen)) where
  abbrev before : List (JournalEntry B)
  before = posted sealing.size p.actor letters (past g.met)

  abbrev e : JournalEntry B
  e = entry_of step before

  met_is : past g.met ≡ past g.later.0 ++ past p.seen
  met_is = ap past g.later.1 ∙ reverse-append p.seen g.later.0

  at_met : Taken p.actor steps number (past g.met)
  at_met = subst (λ (l : List (JournalEntry B)). Taken p.actor steps number l) (sym met_is)
      (still p.actor steps number (past g.later.0) (past p.seen) (ap (part p.actor) (sym met_is) ∙ sym g.mine ∙ p_part) t)

  at_posted : Taken p.actor steps number before
  at_posted = posts_taken sealing.size p.actor p.actor steps number letters (past g.met) at_met

  its : same_actor (actor_of e) p.actor ≡ true
  its = same_of (actor_of e) p.actor (by_entry step before ∙ mine)

  at_entry : Taken p.actor steps (number + 1) (e ∷ before)
  at_entry = record {
    takes = (
      λ own. subst (λ (n : ℕ). IsStepAt (steps_of p.actor steps) n e before) (sym at_posted.count) (is_step (steps_of p.actor steps) number e before (an_input step before) (step, next, refl)),
      at_posted.takes,
    );
    count = one_more p.actor e before (an_input step before) its ∙ ap (λ n. n + 1) at_posted.count;
  }

  all_by : AllBy p.actor (e ∷ posting sealing.size p.actor letters (past g.met))
  all_by = (by_entry step before ∙ mine, by_posting sealing.size p.actor letters (past g.met))

  part_is : part p.actor (e ∷ before) ≡ q.own
  part_is = part-own p.actor (e ∷ posting sealing.size p.actor letters (past g.met)) (past g.met) all_by
      ∙ ap (λ (l : List (JournalEntry B × Option (Packet B))). (e, drawn e before) ∷ beside_seat (posting sealing.size p.actor letters (past g.met)) (past g.met) ++ l) (sym g.mine) ∙ sym g.own

  -- one step more was taken
  pub taken_on : Taken p.actor steps (number + 1) (past q.seen)
  taken_on = subst (λ (l : List (JournalEntry B)). Taken p.actor steps (number + 1) l) (sym g.seen)
      (still p.actor steps (number + 1) g.others (e ∷ before)
      (ap (part p.actor) (sym g.seen) ∙ ap (λ (x : Actor). part x (past q.seen)) (sym same) ∙ sym q_part ∙ sym part_is) at_entry)

module _ {B G P : Type 0} (plays : List (JournalEntry B × Option (Packet B)) → P → List (Letter B) → Type 0) (steps : List Turn) where
  pub plays_on : (p q : PlaceState B) (player : P) (owed : List (Letter B)) (number : ℕ) → q.actor ≡ p.actor → plays q.own player owed → Taken p.actor steps number (past q.seen) →
      PlaysOn {G = G} plays steps number (record { place = q; player = player; owed = owed })
  plays_on p q player owed number same plays_it t =
      let u : Taken q.actor steps number (past q.seen) = subst (λ (a : Actor). Taken a steps number (past q.seen)) (sym same) t in
      record { plays_it = plays_it; takes = u.takes; count = u.count }

  pub taken_of : (p : PlaceState B) (player : P) (owed : List (Letter B)) (number : ℕ) → PlaysOn {G = G} plays steps number (record { place = p; player = player; owed = owed }) → Taken p.actor steps number (past p.seen)
  taken_of p player owed number on = record { takes = on.takes; count = on.count }

  -- one that stops is as it was
  pub stops_in : (size : B → ℕ) (p q : PlaceState B) (player : P) (old new : List (Letter B)) (number : ℕ) (stop : Stop) → q.actor ≡ p.actor → p.own ≡ part p.actor (past p.seen) → q.own ≡ part q.actor (past q.seen) →
      PlaysOn {G = G} plays steps number (record { place = p; player = player; owed = old }) → StopsAt size p q old new stop → StopsIn {G = G} plays size steps (record { place = q; player = player; owed = new }) stop
  stops_in size p q player old new number OutOfMemory same p_part q_part on h = (p.own, old, on.plays_it)
  stops_in size p q player old new number (JournalFull bytes letters) same p_part q_part on h = record {
    number = number;
    on = plays_on p q player new number same (subst (λ o. plays q.own player o) (sym h.2) (subst (λ o. plays o player old) (sym h.0) on.plays_it))
        (longer p q steps number same p_part q_part h.0 h.1 (taken_of p player old number on));
    full = subst (λ o. IsFull size (past q.seen) o bytes letters) (sym h.2) h.3;
  }

  -- the last outbox was posted
  pub last_posted : (size : B → ℕ) (p q : PlaceState B) (player : P) (owed left : List (Letter B)) (number : ℕ) → left ≡ [] → q.actor ≡ p.actor → p.own ≡ part p.actor (past p.seen) → q.own ≡ part q.actor (past q.seen) →
      Adds p q (posting size p.actor owed) → ((before : List (JournalEntry B)) → plays (beside_seat (posting size p.actor owed before) before ++ p.own) player []) →
      PlaysOn {G = G} plays steps number (record { place = p; player = player; owed = owed }) → PlaysOn {G = G} plays steps number (record { place = q; player = player; owed = left })
  last_posted size p q player owed left number none same p_part q_part a posts on =
      plays_on p q player left number same (subst (λ o. plays q.own player o) (sym none) (subst (λ o. plays o player []) (sym own_is) (posts (past a.met))))
      (subst (λ (l : List (JournalEntry B)). Taken p.actor steps number l) (sym seen_is) (posts_taken size p.actor p.actor steps number owed (past a.met) at_met))
    where
      one_post : (ls : List (Letter B)) → past (posting size p.actor ls (past a.met)) ≡ posting size p.actor ls (past a.met)
      one_post [] = refl
      one_post (l ∷ ls) = refl

      own_is : q.own ≡ beside_seat (posting size p.actor owed (past a.met)) (past a.met) ++ p.own
      own_is = a.own ∙ ap (λ l. beside_seat l (past a.met) ++ p.own) (one_post owed)

      seen_is : past q.seen ≡ posted size p.actor owed (past a.met)
      seen_is = ap past a.seen ∙ reverse-append a.met (posting size p.actor owed (past a.met)) ∙ ap (λ l. l ++ past a.met) (one_post owed)

      met_is : past a.met ≡ past a.later.0 ++ past p.seen
      met_is = ap past a.later.1 ∙ reverse-append p.seen a.later.0

      at_met : Taken p.actor steps number (past a.met)
      at_met = subst (λ (l : List (JournalEntry B)). Taken p.actor steps number l) (sym met_is)
          (still p.actor steps number (past a.later.0) (past p.seen) (ap (part p.actor) (sym met_is) ∙ sym a.mine ∙ p_part) (taken_of p player owed number on))

-- where each of a front of a script was looked at, the own ones were taken
pub next_own : (a : Actor) (steps : List Turn) (i : ℕ) (step : Turn) → slice_get steps i ≡ Some step → same_actor (turn_actor step) a ≡ true → slice_get (steps_of a steps) (length (steps_of a (take i steps))) ≡ Some step
next_own a [] i step found own = cc
next_own a (s ∷ steps) zero step found own =
    let same : s ≡ step = cc in
    let is : same_actor (turn_actor s) a ≡ true = ap (λ (x : Turn). same_actor (turn_actor x) a) same ∙ own in rw (is, same) refl
next_own a (s ∷ steps) (suc i) step found own = by_first (same_actor (turn_actor s) a) refl (next_own a steps i step found own)
  where
    by_first : (b : Bool) → same_actor (turn_actor s) a ≡ b → slice_get (steps_of a steps) (length (steps_of a (take i steps))) ≡ Some step →
        slice_get (steps_of a (s ∷ steps)) (length (steps_of a (s ∷ take i steps))) ≡ Some step
    by_first true is h = rw is h
    by_first false is h = rw is h

counted_own : (a : Actor) (steps : List Turn) (i : ℕ) (step : Turn) → slice_get steps i ≡ Some step →
    length (steps_of a (take (suc i) steps)) ≡ (if same_actor (turn_actor step) a then length (steps_of a (take i steps)) + 1 else length (steps_of a (take i steps)))
counted_own a [] i step found = cc
counted_own a (s ∷ steps) zero step found = let same : s ≡ step = cc in by_first (same_actor (turn_actor s) a) refl (ap (λ (x : Turn). same_actor (turn_actor x) a) (sym same))
  where
    by_first : (b : Bool) → same_actor (turn_actor s) a ≡ b → same_actor (turn_actor step) a ≡ same_actor (turn_actor s) a →
        length (steps_of a (s ∷ take 0 steps)) ≡ (if same_actor (turn_actor step) a then 1 else 0)
    by_first true is h = rw (h, is) refl
    by_first false is h = rw (h, is) refl
counted_own a (s ∷ steps) (suc i) step found = by_first (same_actor (turn_actor s) a) refl (same_actor (turn_actor step) a) refl (counted_own a steps i step found)
  where
    by_first : (b : Bool) → same_actor (turn_actor s) a ≡ b → (d : Bool) → same_actor (turn_actor step) a ≡ d →
        length (steps_of a (take (suc i) steps)) ≡ (if same_actor (turn_actor step) a then length (steps_of a (take i steps)) + 1 else length (steps_of a (take i steps))) →
        length (steps_of a (s ∷ take (suc i) steps)) ≡ (if same_actor (turn_actor step) a then length (steps_of a (s ∷ take i steps)) + 1 else length (steps_of a (s ∷ take i steps)))
    by_first true is true own h = rw (is, own) (let k = rw own at h in omega (arith, k))
    by_first true is false own h = rw (is, own) (let k = rw own at h in omega (arith, k))
    by_first false is true own h = rw (is, own) (rw own at h)
    by_first false is false own h = rw (is, own) (rw own at h)

pub count_own : (a : Actor) (steps : List Turn) (i : ℕ) (step : Turn) → slice_get steps i ≡ Some step →
    length (steps_of a (take (i + 1) steps)) ≡ (if same_actor (turn_actor step) a then length (steps_of a (take i steps)) + 1 else length (steps_of a (take i steps)))
count_own a steps i step found =
    let one : suc i ≡ i + 1 = omega arith in
    subst (λ (n : ℕ). length (steps_of a (take n steps)) ≡ (if same_actor (turn_actor step) a then length (steps_of a (take i steps)) + 1 else length (steps_of a (take i steps)))) one (counted_own a steps i step found)
