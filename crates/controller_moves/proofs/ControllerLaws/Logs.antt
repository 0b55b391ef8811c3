-- What stands in a log whose entries follow: events are processed in their order, and those of a life of a switch come
-- by number.
use Rattle.std.proofs.Common.{inl, inr, ◌⊎◌, ◌≡◌, ◌≤◌, ◌<◌, ℕ, ◌+◌, Bool, true, false, not, List, [], ◌∷◌, ◌++◌, length, take, filter, zero, suc, refl, sym, ap, subst, ◌∙◌, arith, append-nil, append_assoc}
use Rattle.std.specs.Prelude.{nat_eq, nat_lt, slice_get, Some, if◌then◌else◌}
use Rattle.std.proofs.lemmas.Bool.{eqb-true, ltb-true, and_parts}
use Rattle.std.proofs.lemmas.List.Sums.{sum_by-cons, sum_by-append}
use Rattle.of_types.specs.declared.message.Event.{Event}
use Rattle.of_types.specs.Lives.{life_after, life_in, count_in, has_ended}
use Rattle.vr_log.specs.declared.entry.Entry.{Entry}
use Rattle.vr_log.specs.declared.entry.Entry.TheVariants.{Received, Processed}
use Rattle.vr_log.specs.Log.{received, processed, is_past_limits, may_be_received, may_follow, fits, follows, is_log}
use Rattle.two_stage_log.specs.Counts.{processed_of}
use Rattle.vr_log.proofs.Logs.{received-append, follows-append, follows_front, no_earlier, none_after, number_is, IsLog_is, IsLog_push}
use Rattle.of_types.proofs.Counts.{count_in-append}
use Rattle.list_facts.proofs.Prefixes.{prefix_length, take_prefix}
use Rattle.list_facts.specs.Lists.{IsIn, IsPrefix}
use Rattle.controller_moves.specs.ControllerLaws.Events.{is_event_of, IsEndedBy, IsNextOfLife}
use Rattle.controller_moves.specs.ControllerLaws.Laws.{CountsLast, LogsProcessInOrder, LogsReceiveInOrder, LogsNumberByLife}
use Rattle.controller_moves.proofs.ControllerLaws.Issued.{issued_prefix}

-- the count of two parts
pub processed-append : (xs ys : List Entry) → processed (xs ++ ys) ≡ processed xs + processed ys
processed-append xs ys = sum_by-append _ xs ys

-- the events of a beginning
pub received_prefix : {xs ys : List Entry} → IsPrefix xs ys → IsPrefix (received xs) (received ys)
received_prefix {xs = xs} p = record { rest = received p.rest; joined = ap (λ l. received l) p.joined ∙ received-append xs p.rest }

-- a beginning has no more processed
pub processed_prefix : {xs ys : List Entry} → IsPrefix xs ys → processed xs ≤ processed ys
processed_prefix {xs = xs} {ys = ys} p = let e : processed ys ≡ processed xs + processed p.rest = ap (λ l. processed l) p.joined ∙ processed-append xs p.rest in omega arith

-- nor more events of a life
pub count_prefix : (s l : ℕ) {xs ys : List Event} → IsPrefix xs ys → count_in s l xs ≤ count_in s l ys
count_prefix s l {xs = xs} {ys = ys} p =
    let e : count_in s l ys ≡ count_in s l xs + count_in s l p.rest = ap (λ z. count_in s l z) p.joined ∙ sum_by-append _ xs p.rest in omega arith

-- the processed events of a life, over a longer log
pub processed_count : (s l : ℕ) {xs ys : List Entry} → IsPrefix xs ys → processed_of xs s l ≤ processed_of ys s l
processed_count s l p = count_prefix s l (take_prefix _ _ (processed_prefix p) (received_prefix p))

-- each entry fits behind those before it
pub fits_at : (before front : List Entry) (e : Entry) (back : List Entry) → follows before (front ++ e ∷ back) ≡ true → fits (before ++ front) e ≡ true
fits_at before front e back h =
    let a = sym (follows-append before front (e ∷ back)) ∙ h in
    (and_parts (fits (before ++ front) e) (follows (before ++ front ++ e ∷ []) back) (and_parts (follows before front) (follows (before ++ front) (e ∷ back)) a).1).0

-- so it may follow there
pub may_follow_at : (front : List Entry) (e : Entry) (back : List Entry) → is_log (front ++ e ∷ back) ≡ true → may_follow front e ≡ true
may_follow_at front e back h = (and_parts (not (is_past_limits front e)) (may_follow front e) (fits_at [] front e back h)).1

-- an entry that tells of an event as processed has the number of those before it, and the event stands before it
pub processed_at : (front : List Entry) (j : ℕ) (back : List Entry) → is_log (front ++ Processed j ∷ back) ≡ true → (j ≡ processed front) × (j < length (received front))
processed_at front j back h =
    let a = and_parts (nat_eq j (processed front)) (nat_lt j (length (received front))) (may_follow_at front (Processed j) back h) in
    (eqb-true j (processed front) a.0, ltb-true j (length (received front)) a.1)

-- so many are processed before an entry that tells of one as processed
record IsFound (log : List Entry) (j : ℕ) : Type 0 where
  pub front : List Entry
  pub back : List Entry
  pub place : ℕ
  pub is : log ≡ front ++ Processed place ∷ back
  pub count : processed front ≡ j

-- there is one for each count
find_processed : (log : List Entry) (j : ℕ) → j < processed log → IsFound log j
find_processed [] j lt = absurd (omega arith)
find_processed (Received e ∷ log) j lt =
    let r = find_processed log j (let more : processed (Received e ∷ log) ≡ 0 + processed log = sum_by-cons _ (Received e) log in omega (arith, more, lt)) in
    record { front = Received e ∷ r.front; back = r.back; place = r.place; is = ap (λ (l : List Entry). Received e ∷ l) r.is; count = let more : processed (Received e ∷ r.front) ≡ 0 + processed r.front = sum_by-cons _ (Received e) r.front in let c = r.count in omega (arith, more, c) }
find_processed (Processed i ∷ log) zero lt = record { front = []; back = log; place = i; is = refl; count = refl }
find_processed (Processed i ∷ log) (suc j) lt =
    let more : processed (Processed i ∷ log) ≡ 1 + processed log = sum_by-cons _ (Processed i) log in
    let r = find_processed log j (omega (arith, more, lt)) in
    let counted : processed (Processed i ∷ r.front) ≡ 1 + processed r.front = sum_by-cons _ (Processed i) r.front in
    record { front = Processed i ∷ r.front; back = r.back; place = r.place; is = ap (λ (l : List Entry). Processed i ∷ l) r.is; count = let c = r.count in omega (arith, counted, c) }

-- each number below the count of processed events stands as processed
pub record StandsProcessed (log : List Entry) (j : ℕ) : Type 0 where
  pub front : List Entry
  pub back : List Entry
  pub is : log ≡ front ++ Processed j ∷ back

-- and it tells of the event of that number
pub processed_stands : (log : List Entry) (j : ℕ) → is_log log ≡ true → j < processed log → StandsProcessed log j
processed_stands log j valid lt =
    let r = find_processed log j lt in
    let place : r.place ≡ j = (processed_at r.front r.place r.back (subst (λ (l : List Entry). is_log l ≡ true) r.is valid)).0 ∙ r.count in
    record { front = r.front; back = r.back; is = r.is ∙ ap (λ (k : ℕ). r.front ++ Processed k ∷ r.back) place }

-- events are processed in their order
pub in_order : LogsProcessInOrder
in_order log valid =
    record {
      each = λ front back j is. processed_at front j back (subst (λ (l : List Entry). is_log l ≡ true) is valid);
      all = λ j less. let r = processed_stands log j valid less in (r.front, r.back, r.is);
    }

-- an event that may be received: its life is no less than that of its switch, and its number is the count of its life
next_of : (front : List Entry) (e : Event) → is_log front ≡ true → may_be_received e (received front) ≡ true → IsNextOfLife front e
next_of front e valid may = record { life = no_earlier e (received front) may; number = number_is e (received front) (none_after front valid) may }

-- an event of a log is the next of its life
pub numbered_by_life : LogsNumberByLife
numbered_by_life log front back e valid is =
    let whole : is_log (front ++ Received e ∷ back) ≡ true = subst (λ (l : List Entry). is_log l ≡ true) is valid in
    next_of front e (follows_front [] front (Received e ∷ back) whole) (may_follow_at front (Received e) back whole)

-- the elements up to a place
pub take_next : {A : Type 0} (xs : List A) (n : ℕ) (x : A) → slice_get xs n ≡ Some x → take (n + 1) xs ≡ take n xs ++ x ∷ []
take_next [] n x h = cc
take_next (y ∷ xs) zero x h = let e : y ≡ x = cc in ap (λ z. z ∷ []) e
take_next (y ∷ xs) (suc n) x h = let e : suc n + 1 ≡ suc (n + 1) = omega arith in ap (λ (k : ℕ). take k (y ∷ xs)) e ∙ ap (λ l. y ∷ l) (take_next xs n x h)

-- one element more
filter-push : (p : Event → Bool) (xs : List Event) (e : Event) → filter p (xs ++ e ∷ []) ≡ filter p xs ++ (if p e then e ∷ [] else [])
filter-push p [] e = refl
filter-push p (x ∷ xs) e = ap (λ (l : List Event). if p x then x ∷ l else l) (filter-push p xs e) ∙ by_test (p x)
  where
    by_test : (b : Bool) → (if b then x ∷ (filter p xs ++ (if p e then e ∷ [] else [])) else filter p xs ++ (if p e then e ∷ [] else [])) ≡ (if b then x ∷ filter p xs else filter p xs) ++ (if p e then e ∷ [] else [])
    by_test true = refl
    by_test false = refl

module _ (made : ℕ → ℕ → List Event) (s l : ℕ) where
  -- the events of a life are the first that it made
  abbrev AreFirst : List Event → Type 0
  AreFirst events = filter (is_event_of s l) events ≡ take (count_in s l events) (made s l)

  first_push : (before : List Event) (e : Event) → AreFirst before → e.number ≡ count_in e.switch e.life before → slice_get (made e.switch e.life) e.number ≡ Some e → AreFirst (before ++ e ∷ [])
  first_push before e first number genuine =
      rw (count_in-append s l before e) (filter-push (is_event_of s l) before e ∙ by_test (is_event_of s l e) refl)
    where
      by_test : (b : Bool) → is_event_of s l e ≡ b → filter (is_event_of s l) before ++ (if b then e ∷ [] else []) ≡ take (count_in s l before + (if b then 1 else 0)) (made s l)
      by_test true is =
          let a = and_parts (nat_eq e.switch s) (nat_eq e.life l) is in
          let e0 : e.switch ≡ s = eqb-true e.switch s a.0 in
          let e1 : e.life ≡ l = eqb-true e.life l a.1 in
          let n : e.number ≡ count_in s l before = number ∙ ap (λ (k : ℕ). count_in k e.life before) e0 ∙ ap (λ (k : ℕ). count_in s k before) e1 in
          let list : made e.switch e.life ≡ made s l = ap (λ (k : ℕ). made k e.life) e0 ∙ ap (λ (k : ℕ). made s k) e1 in
          let at : slice_get (made s l) (count_in s l before) ≡ Some e = subst (λ (k : ℕ). slice_get (made s l) k ≡ Some e) n (subst (λ (z : List Event). slice_get z e.number ≡ Some e) list genuine) in
          ap (λ (z : List Event). z ++ e ∷ []) first ∙ sym (take_next (made s l) (count_in s l before) e at)
      by_test false is = append-nil (filter (is_event_of s l) before) ∙ first ∙ ap (λ (k : ℕ). take k (made s l)) (let z : count_in s l before ≡ count_in s l before + 0 = omega arith in z)

  first_of_log : (before log : List Entry) → is_log before ≡ true → follows before log ≡ true → AreFirst (received before) →
      ((e : Event) → IsIn e (received log) → slice_get (made e.switch e.life) e.number ≡ Some e) → AreFirst (received (before ++ log))
  first_of_log before [] valid h first genuine = subst (λ (z : List Entry). AreFirst (received z)) (sym (append-nil before)) first
  first_of_log before (Received e ∷ log) valid h first genuine =
      let a = and_parts (fits before (Received e)) (follows (before ++ Received e ∷ []) log) h in
      let n = next_of before e valid (and_parts (not (is_past_limits before (Received e))) (may_follow before (Received e)) a.0).1 in
      let more = first_push (received before) e first n.number (genuine e (inl refl)) in
      subst (λ (z : List Entry). AreFirst (received z)) (append_assoc before (Received e ∷ []) log)
      (first_of_log (before ++ Received e ∷ []) log (IsLog_push before (Received e) (IsLog_is before valid) a.0).follow a.1
      (subst (λ (z : List Event). AreFirst z) (sym (received-append before (Received e ∷ []))) more) (λ f k. genuine f (inr k)))
  first_of_log before (Processed j ∷ log) valid h first genuine =
      let a = and_parts (fits before (Processed j)) (follows (before ++ Processed j ∷ []) log) h in
      subst (λ (z : List Entry). AreFirst (received z)) (append_assoc before (Processed j ∷ []) log)
      (first_of_log (before ++ Processed j ∷ []) log (IsLog_push before (Processed j) (IsLog_is before valid) a.0).follow a.1
      (subst (λ (z : List Event). AreFirst z) (sym (received-append before (Processed j ∷ []) ∙ append-nil (received before))) first) genuine)

-- the events of a life come in the order in which they were made
pub received_in_order : LogsReceiveInOrder
received_in_order made log valid genuine s l = first_of_log made s l [] log refl valid refl genuine

-- a life that is over has an event of a later one
ended_from : (life s l : ℕ) (events : List Event) → l < life_after life s events → (l < life) ⊎ IsEndedBy s l events
ended_from life s l [] h = inl h
ended_from life s l (e ∷ events) h =
    elim (ended_from (if nat_eq e.switch s then e.life else life) s l events h) [
      | inl k ↦ by_switch (nat_eq e.switch s) refl k
      | inr r ↦ inr (record { event = r.event; among = inr r.among; switch_is = r.switch_is; later = r.later })
    ]
  where
    by_switch : (b : Bool) → nat_eq e.switch s ≡ b → l < (if b then e.life else life) → (l < life) ⊎ IsEndedBy s l (e ∷ events)
    by_switch true is k = inr (record { event = e; among = inl refl; switch_is = eqb-true e.switch s is; later = k })
    by_switch false is k = inl k

-- the test of a life that is over
pub ended_by : (s l : ℕ) (events : List Event) → has_ended s l events ≡ true → IsEndedBy s l events
ended_by s l events h = elim (ended_from 0 s l events (ltb-true l (life_in s events) h)) [ inl k ↦ absurd (omega (arith, k)) | inr r ↦ r ]

-- what is processed and settled of a life only grows
pub counts : CountsLast
counts kinds setup s l old new p =
    record {
      events = processed_count s l p;
      commands = prefix_length (issued_prefix kinds setup s l _ _ (take_prefix (processed old) (processed new) (processed_prefix p) (received_prefix p)));
    }
