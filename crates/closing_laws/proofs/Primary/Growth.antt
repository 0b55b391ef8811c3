-- A log that grows: the lives of switches, what is processed, and what is issued for its events.
use Rattle.std.proofs.Common.{◌≡◌, ◌≤◌, ◌<◌, ◌⊎◌, inl, inr, ℕ, ◌+◌, ◌-◌, suc, Bool, true, false, List, [], ◌∷◌, ◌++◌, length, take, drop, take_all, take-append-drop, length-drop, refl, sym, ◌∙◌, ap, subst, arith, append-nil, append_assoc, length-append}
use Rattle.std.specs.Prelude.{nat_eq, nat_lt, not, ◌&&◌, Option, Some, None, IfSome, if◌then◌else◌}
use Rattle.std.specs.List.{range_with_len}
use Rattle.std.proofs.lemmas.Bool.{and_from, cases_lt, not_from_false, eqb-true, ne_eqb, lt-ltb, le-ltb, ltb-true, true≢false}
use Rattle.std.proofs.lemmas.List.Sums.{sum_by-append, sum_by-cons}
use Rattle.std.proofs.lemmas.Option.{IfSome_then}
use Rattle.list_facts.specs.Lists.{IsPrefix}
use Rattle.list_facts.proofs.Prefixes.{prefix_equal, prefix_length, prefix_take}
use Rattle.of_types.specs.declared.message.Event.{Event}
use Rattle.of_types.specs.declared.setup.Setup.{Setup}
use Rattle.of_types.specs.Lives.{life_in}
use Rattle.of_types.proofs.Counts.{life_in-append}
use Rattle.vr_log.specs.declared.entry.Entry.{Entry}
use Rattle.vr_log.specs.declared.entry.Entry.TheVariants.{Received, Processed}
use Rattle.vr_log.specs.Log.{follows, is_log, is_past_limits, is_processed, may_follow, processed, received}
use Rattle.vr_log.proofs.Logs.{follows-append, follows_front, follows_one, length_is, no_earlier, received-append}
use Rattle.dispatcher.specs.Folding.{places_processed}
use Rattle.controller_moves.proofs.ControllerLaws.Issued.{count-orders, issued_prefix}
use Rattle.controller_moves.proofs.ControllerLaws.Logs.{may_follow_at, processed_at, processed-append}
use Rattle.app_core.specs.Chain.{concat}
use Rattle.app_core.specs.Issued.{issues}
use Rattle.group_controller.specs.Settling.{is_some_of}
use Rattle.closing_laws.proofs.Primary.Numbering.{counted}

-- a front of a log is one
pub log_front : (front back : List Entry) → is_log (front ++ back) ≡ true → is_log front ≡ true
log_front front back h = follows_front [] front back h

pub log_prefix : {front log : List Entry} → IsPrefix front log → is_log log ≡ true → is_log front ≡ true
log_prefix {front} p h = log_front front p.rest (sym (ap is_log p.joined) ∙ h)

-- one entry and another behind it
behind : (front : List Entry) (e : Entry) (back : List Entry) → is_log (front ++ e ∷ back) ≡ true → is_log ((front ++ e ∷ []) ++ back) ≡ true
behind front e back h = ap is_log (append_assoc front (e ∷ []) back) ∙ h

-- an entry that fits makes a longer log
pub log_pushed : (log : List Entry) (e : Entry) → is_log log ≡ true → is_past_limits log e ≡ false → may_follow log e ≡ true → is_log (log ++ e ∷ []) ≡ true
log_pushed log e one short follow =
    follows-append [] log (e ∷ [])
    ∙ and_from (follows [] log) (follows log (e ∷ [])) one (follows_one log e ∙ and_from (not (is_past_limits log e)) (may_follow log e) (not_from_false (is_past_limits log e) short) follow)

-- the life of a switch does not fall
life_front : (s : ℕ) (front back : List Entry) → is_log (front ++ back) ≡ true → life_in s (received front) ≤ life_in s (received (front ++ back))
life_front s front [] h = let same = ap (λ (l : List Entry). life_in s (received l)) (append-nil front) in omega (arith, same)
life_front s front (e ∷ back) h =
    let deeper = life_front s (front ++ e ∷ []) back (behind front e back h) in
    let same = ap (λ (l : List Entry). life_in s (received l)) (append_assoc front (e ∷ []) back) in
    let one = one_more e (may_follow_at front e back h) in
    omega (arith, deeper, same, one)
  where
    by_switch : (x : Event) (b : Bool) → nat_eq x.switch s ≡ b → life_in x.switch (received front) ≤ x.life → life_in s (received front) ≤ (if b then x.life else life_in s (received front))
    by_switch x true is low = subst (λ (n : ℕ). life_in n (received front) ≤ x.life) (eqb-true x.switch s is) low
    by_switch x false is low = omega arith

    one_more : (x : Entry) → may_follow front x ≡ true → life_in s (received front) ≤ life_in s (received (front ++ x ∷ []))
    one_more (Received x) follows =
        let same = ap (λ (l : List Event). life_in s l) (received-append front (Received x ∷ [])) ∙ life_in-append s (received front) x in
        let more = by_switch x (nat_eq x.switch s) refl (no_earlier x (received front) follows) in
        omega (arith, same, more)
    one_more (Processed j) follows = let same = ap (λ (l : List Event). life_in s l) (received-append front (Processed j ∷ []) ∙ append-nil (received front)) in omega (arith, same)

pub life_grows : (s : ℕ) {front log : List Entry} → IsPrefix front log → is_log log ≡ true → life_in s (received front) ≤ life_in s (received log)
life_grows s {front} {log} p h = let r = life_front s front p.rest (sym (ap is_log p.joined) ∙ h) in let same = ap (λ (l : List Entry). life_in s (received l)) p.joined in omega (arith, r, same)

-- no more events are processed than received
processed_behind : (front back : List Entry) → processed front ≤ length (received front) → is_log (front ++ back) ≡ true → processed (front ++ back) ≤ length (received (front ++ back))
processed_behind front [] less h = let e = append-nil front in let p = ap processed e in let r = ap (λ (l : List Entry). length (received l)) e in omega (arith, p, r, less)
processed_behind front (e ∷ back) less h =
    subst (λ (l : List Entry). processed l ≤ length (received l)) (append_assoc front (e ∷ []) back) (processed_behind (front ++ e ∷ []) back (one_more e h) (behind front e back h))
  where
    one_more : (x : Entry) → is_log (front ++ x ∷ back) ≡ true → processed (front ++ x ∷ []) ≤ length (received (front ++ x ∷ []))
    one_more (Received x) k =
        let p : processed (front ++ Received x ∷ []) ≡ processed front + 0 = sum_by-append (λ (x : Entry). if is_processed x then 1 else 0) front (Received x ∷ []) in
        let r = ap length (received-append front (Received x ∷ [])) ∙ length-append (received front) (x ∷ []) in
        omega (arith, p, r, less)
    one_more (Processed j) k =
        let p : processed (front ++ Processed j ∷ []) ≡ processed front + 1 = sum_by-append (λ (x : Entry). if is_processed x then 1 else 0) front (Processed j ∷ []) in
        let r = ap length (received-append front (Processed j ∷ [])) ∙ length-append (received front) [] in
        let there = (processed_at front j back k).1 in
        let place = (processed_at front j back k).0 in
        omega (arith, p, r, there, place)

pub processed_within : (log : List Entry) → is_log log ≡ true → processed log ≤ length (received log)
processed_within log h = processed_behind [] log (omega arith) h

-- no more stand as processed beyond a place than entries do
pub processed_beyond : (k : ℕ) (log : List Entry) → processed log - processed (take k log) ≤ length log - k
processed_beyond k log =
    let parts = ap processed (sym (take-append-drop k log)) ∙ processed-append (take k log) (drop k log) in
    let kinds = length_is (drop k log) in
    let long = length-drop k log in
    omega (arith, parts, kinds, long)

-- the events that entries have as processed, one after another
pub places_are : (front back : List Entry) → is_log (front ++ back) ≡ true → places_processed back ≡ range_with_len (processed front) (processed back)
places_are front [] h = refl
places_are front (Received x ∷ back) h =
    let p : processed (front ++ Received x ∷ []) ≡ processed front = (let e = sum_by-append (λ (x : Entry). if is_processed x then 1 else 0) front (Received x ∷ []) in omega (arith, e)) in
    let q : processed (Received x ∷ back) ≡ processed back = (let e = sum_by-cons (λ (x : Entry). if is_processed x then 1 else 0) (Received x) back in omega (arith, e)) in
    places_are (front ++ Received x ∷ []) back (behind front (Received x) back h) ∙ ap (λ (n : ℕ). range_with_len n (processed back)) p ∙ ap (range_with_len (processed front)) (sym q)
places_are front (Processed j ∷ back) h =
    let p : processed (front ++ Processed j ∷ []) ≡ processed front + 1 = (let e = sum_by-append (λ (x : Entry). if is_processed x then 1 else 0) front (Processed j ∷ []) in omega (arith, e)) in
    let q : processed (Processed j ∷ back) ≡ suc (processed back) = (let e = sum_by-cons (λ (x : Entry). if is_processed x then 1 else 0) (Processed j) back in omega (arith, e)) in
    let here = (processed_at front j back h).0 in
    ap (λ (l : List ℕ). j ∷ l) (places_are (front ++ Processed j ∷ []) back (behind front (Processed j) back h) ∙ ap (λ (n : ℕ). range_with_len n (processed back)) p)
    ∙ ap (λ (n : ℕ). n ∷ range_with_len (processed front + 1) (processed back)) here ∙ ap (range_with_len (processed front)) (sym q)

-- the commands for more events
pub counted_grows : (kinds : List ℕ) (setup : Setup) (s l : ℕ) {es fs : List Event} → IsPrefix es fs → counted kinds setup s l es ≤ counted kinds setup s l fs
counted_grows kinds setup s l {es} {fs} p =
    let more = prefix_length (issued_prefix kinds setup s l es fs p) in
    let small = count-orders s l (concat (issues kinds setup es)) in
    let great = count-orders s l (concat (issues kinds setup fs)) in
    omega (arith, more, small, great)

-- The events whose commands were told are the same once more is committed, where those of the first unprocessed one were.
pub same_told : (es fs : List Event) (p q : ℕ) (last : Option ℕ) → IsPrefix es fs → p ≤ length es → q ≤ length fs → p ≤ q → q ≤ p + 1 → (p < q → p < length es) →
    (nat_lt p (length es) && not (is_some_of p last)) ≡ false → IfSome last (λ t. (t ≤ p) × (t ≡ p → nat_lt p (length es) ≡ true)) →
    take (q + (if nat_lt q (length fs) && not (is_some_of q last) then 0 else 1)) fs ≡ take (p + 1) es
same_told es fs p q last front low high least most unfinished told known = by_place (cases_lt p q) (cases_lt p (length es)) (cases_lt q (length fs))
  where
    -- it was not the last that was told
    unsaid : (k : ℕ) (o : Option ℕ) → IfSome o (λ t. t ≡ k → ⊥) → is_some_of k o ≡ false
    unsaid k None h = refl
    unsaid k (Some t) h = ne_eqb t k h

    second : (x y : Bool) → (x && not y) ≡ false → x ≡ true → y ≡ true
    second x true h is = refl
    second true false h is = absurd (true≢false h)
    second false false h is = absurd (true≢false (sym is))

    goal_at : (b d : Bool) → nat_lt q (length fs) ≡ b → is_some_of q last ≡ d → take (q + (if b && not d then 0 else 1)) fs ≡ take (p + 1) es →
        take (q + (if nat_lt q (length fs) && not (is_some_of q last) then 0 else 1)) fs ≡ take (p + 1) es
    goal_at b d more is h = rw (more, is) h

    front_same : (k : ℕ) → k ≤ length es → take k fs ≡ take k es
    front_same k h = sym (prefix_take k front h)

    by_place : (p < q) ⊎ (q ≤ p) → (p < length es) ⊎ (length es ≤ p) → (q < length fs) ⊎ (length fs ≤ q) →
        take (q + (if nat_lt q (length fs) && not (is_some_of q last) then 0 else 1)) fs ≡ take (p + 1) es
    by_place (inl rise) e (inl more) =
        let k : q + 0 ≡ p + 1 = omega (arith, rise, most) in
        goal_at true false (lt-ltb q (length fs) more) (unsaid q last (IfSome_then last known (λ t h x. absurd (omega (arith, h.0, x, rise)))))
        (ap (λ (n : ℕ). take n fs) k ∙ front_same (p + 1) (let u = unfinished rise in omega (arith, u)))
    by_place (inl rise) e (inr none) =
        let k : q ≡ p + 1 = omega (arith, rise, most) in
        goal_at false (is_some_of q last) (le-ltb q (length fs) none) refl
        (take_all (q + 1) fs (omega (arith, none)) ∙ sym (take_all q fs none) ∙ ap (λ (n : ℕ). take n fs) k ∙ front_same (p + 1) (let u = unfinished rise in omega (arith, u)))
    by_place (inr still) (inl more) f =
        let k : q ≡ p = omega (arith, still, least) in
        let long = prefix_length front in
        let said = second (nat_lt p (length es)) (is_some_of p last) told (lt-ltb p (length es) more) in
        goal_at true true (lt-ltb q (length fs) (omega (arith, k, more, long))) (ap (λ (n : ℕ). is_some_of n last) k ∙ said)
        (ap (λ (n : ℕ). take (n + 1) fs) k ∙ front_same (p + 1) (omega (arith, more)))
    by_place (inr still) (inr all) (inl more) =
        let k : q + 0 ≡ p = omega (arith, still, least) in
        let same : q ≡ p = omega (arith, still, least) in
        goal_at true false (lt-ltb q (length fs) more)
        (unsaid q last (IfSome_then last known (λ t h x. let lt = ltb-true p (length es) (h.1 (x ∙ same)) in absurd (omega (arith, lt, all)))))
        (ap (λ (n : ℕ). take n fs) k ∙ front_same p low ∙ take_all p es all ∙ sym (take_all (p + 1) es (omega (arith, all))))
    by_place (inr still) (inr all) (inr none) =
        let whole : es ≡ fs = prefix_equal front (omega (arith, none, still, low, all, least)) in
        goal_at false (is_some_of q last) (le-ltb q (length fs) none) refl
        (take_all (q + 1) fs (omega (arith, none)) ∙ sym whole ∙ sym (take_all (p + 1) es (omega (arith, all))))
