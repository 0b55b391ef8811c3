-- The members of a quorum suspect a view, and it starts.
use Rattle.std.proofs.Common.{◌≡◌, ◌≤◌, ◌<◌, ◌⊎◌, inl, inr, ℕ, ◌+◌, ◌/◌, ◌%◌, Bool, true, false, List, [], ◌∷◌, ◌++◌, length, map, take, drop, refl, sym, ◌∙◌, ap, subst, arith, append-nil, append_assoc}
use Rattle.std.specs.Prelude.{not, nat_eq, nat_le, ◌&&◌, ◌||◌, max, Some, None, if◌then◌else◌}
use Rattle.std.proofs.lemmas.Bool.{eq-eqb, ne_eqb, eqb-true, eqb-false, le-leb, lt-leb, ltb-true, ltb-false, or_left, or_right, or_cases, and_right, true≢false, cases_lt, both_ways, not-true}
use Rattle.std.proofs.lemmas.List.{length-map, length-take-le, length-drop}
use Rattle.std.proofs.Math.Bool.{or-false, or-true, or_assoc}
use Rattle.vr_log.specs.declared.entry.Entry.{Entry}
use Rattle.vr_log.specs.declared.message.VrLetter.{VrLetter}
use Rattle.vr_log.specs.declared.message.VrMessage.{VrMessage}
use Rattle.vr_log.specs.declared.message.VrMessage.TheVariants as message
use Rattle.vr_log.specs.declared.state.Collected.{Collected}
use Rattle.vr_log.specs.declared.state.VrState.{VrState}
use Rattle.vr_log.specs.Members.{others_below}
use Rattle.vr_log.specs.Steps.{VrStep, guarded, is_sound, sends, letter, to_others}
use Rattle.vr_log.specs.Choosing.{best_of, least_commit, greatest_commit, is_better}
use Rattle.vr_log.proofs.Equal.{entries_same}
use Rattle.view_change.specs.Entering.{check, own_log, started_view, view_start}
use Rattle.vr_core.specs.declared.input.VrInput.TheVariants as vr_input
use Rattle.vr_core.specs.Step.{vr_step}
use Rattle.closing_laws.specs.Quorum.{IsQuorum, has}
use Rattle.closing_laws.specs.Draining.{Flight, GroupState, flown, put_state, took_flight, drains, all_suspected, resting_group}
use Rattle.closing_laws.specs.Views.{IsReadyMember, in_view, voting, log_of, views_behind, last_first, tellers, lacks, HasBest, HasStarted, IsCovered}
use Rattle.closing_laws.proofs.Lists.Numbers.{Once, has_here, has_later, filter_has, filter_in, filter_once, others_but_one}
use Rattle.closing_laws.proofs.Lists.Picked.{IsPicked, picked_of_quorum}
use Rattle.closing_laws.proofs.Start.Calls.{After, AreChanging, after_on, after_first, one_drawn, held}
use Rattle.closing_laws.proofs.Start.Collecting.{votes_of, leader, its_turn, its_group, gathered, led, led_changing, led_first, log_heard, BeforeLast, collect_last, before_last}
use Rattle.closing_laws.proofs.Start.Members.{suspects, guard_open, sound_here}
use Rattle.closing_laws.proofs.Start.Paths.{IsLast, Path, of_drains}
use Rattle.closing_laws.proofs.Start.Rounds.{behind_has, behind_once, behind_apart, behind_is_once, behind_length, heard_from, quorum_once, all_rounds, all_voted}
use Rattle.closing_laws.proofs.Start.Starting.{IsBest, Holds, best_found, joined_log, supplied_front, gathering, check_starts, check_fetches, supply_comes, fetch_comes}
use Rattle.closing_laws.proofs.Start.Turns.{turns_are}
use Rattle.closing_laws.proofs.Start.Words.{call, all_calls, all_packets, times, log_sent, IsChosen}

-- the order in which logs are told has each member once
pub last_has : (turned xs : List ℕ) (j : ℕ) → has (last_first turned xs) j ≡ (has turned j || has xs j)
last_has turned [] j = behind_has turned [] j
last_has turned (c ∷ []) j = ap (λ (b : Bool). nat_eq c j || b) (behind_has turned [] j) ∙ moved (nat_eq c j) (has turned j)
  where
    moved : (a b : Bool) → (a || (b || false)) ≡ (b || (a || false))
    moved true true = refl
    moved true false = refl
    moved false true = refl
    moved false false = refl
last_has turned (c ∷ (d ∷ more)) j = last_has (c ∷ turned) (d ∷ more) j ∙ moved (nat_eq c j) (has turned j) (has (d ∷ more) j)
  where
    moved : (a b e : Bool) → ((a || b) || e) ≡ (b || (a || e))
    moved true true e = refl
    moved true false e = refl
    moved false true e = refl
    moved false false e = refl

last_length : (turned xs : List ℕ) → length (last_first turned xs) ≡ length turned + length xs
last_length turned [] = behind_length turned []
last_length turned (c ∷ []) = let h = behind_length turned [] in omega (arith, h)
last_length turned (c ∷ (d ∷ more)) = let h = last_length (c ∷ turned) (d ∷ more) in omega (arith, h)

last_once : (turned xs : List ℕ) → Once (views_behind turned xs) → Once (last_first turned xs)
last_once turned [] once = once
last_once turned (c ∷ []) once =
    let before = behind_once turned (c ∷ []) once in
    (behind_has turned [] c ∙ ap (λ (b : Bool). b || false) (apart (has turned c) refl), behind_is_once turned [] before tt (λ j h. refl))
  where
    apart : (b : Bool) → has turned c ≡ b → b ≡ false
    apart true e = absurd (behind_apart turned (c ∷ []) c once e (has_here c []))
    apart false e = refl
last_once turned (c ∷ (d ∷ more)) once = last_once (c ∷ turned) (d ∷ more) once

-- the greatest commit number of logs that a list covers
pub greatest_within : (start : ℕ → VrState) (xs : List ℕ) (k most : ℕ) → k ≤ most → ((j : ℕ) → has xs j ≡ true → (start j).commit ≤ most) → greatest_commit k (map (log_of start) xs) ≤ most
greatest_within start [] k most le all = le
greatest_within start (x ∷ xs) k most le all =
    let first = all x (has_here x xs) in
    greatest_within start xs (max k (start x).commit) most (omega (arith, le, first)) (λ j h. all j (has_later x j xs h))

best_among : (start : ℕ → VrState) (best : ℕ) (xs : List ℕ) → ((j : ℕ) → has xs j ≡ true → (log_of start j ≡ log_of start best) ⊎ (is_better (log_of start best) (log_of start j) ≡ true)) →
    IsBest (log_of start best) (map (log_of start) xs)
best_among start best [] all = tt
best_among start best (x ∷ xs) all = (all x (has_here x xs), best_among start best xs (λ j h. all j (has_later x j xs h)))

best_held : (start : ℕ → VrState) (best : ℕ) (xs : List ℕ) → has xs best ≡ true → Holds (log_of start best) (map (log_of start) xs)
best_held start best [] h = absurd (true≢false (sym h))
best_held start best (x ∷ xs) h = elim (or_cases (nat_eq x best) (has xs best) h) [
  | inl e ↦ inl (ap (log_of start) (eqb-true x best e))
  | inr k ↦ inr (best_held start best xs k)
]

module _ (n w : ℕ) (quorum : List ℕ) (start : ℕ → VrState) (ready : (j : ℕ) → has quorum j ≡ true → IsReadyMember n w j (start j)) (q : IsPicked n w quorum) (group : 0 < n / 2)
    (best : ℕ) (chosen : IsChosen quorum start best) where
  abbrev bs : List ℕ
  bs = tellers (w % n) quorum

  order_once : Once (last_first [] quorum)
  order_once = last_once [] quorum (quorum_once n w quorum start ready q)

  bs_member : (j : ℕ) → has bs j ≡ true → (has quorum j ≡ true) × (nat_eq (w % n) j ≡ false)
  bs_member j h =
      let r = filter_has (λ x. not (nat_eq (w % n) x)) (last_first [] quorum) j h in
      (sym (last_has [] quorum j) ∙ r.0, not-true (nat_eq (w % n) j) r.1)

  bs_count : length bs ≡ n / 2
  bs_count =
      let here : has (last_first [] quorum) (w % n) ≡ true = last_has [] quorum (w % n) ∙ q.primary in
      let one = others_but_one (w % n) (last_first [] quorum) order_once here in
      let long = last_length [] quorum in
      let whole = q.count in
      omega (arith, one, long, whole)

  own_is : own_log (start (w % n)) ≡ log_of start (w % n)
  own_is = ap (λ (k : ℕ). record { from = k; normal = (start (w % n)).normal; commit = (start (w % n)).commit; log = drop (start (w % n)).commit (start (w % n)).log }) (leader n w quorum start ready q group).me

  in_bs : (j : ℕ) → has quorum j ≡ true → nat_eq (w % n) j ≡ false → has bs j ≡ true
  in_bs j member other = filter_in (λ x. not (nat_eq (w % n) x)) (last_first [] quorum) j (last_has [] quorum j ∙ member) (ap not other)

  abbrev sp : VrState
  sp = start (w % n)

  abbrev logs : List Collected
  logs = map (log_of start) bs

  -- the members whose logs the primary has are those of the quorum
  ours : (j : ℕ) → has ((w % n) ∷ bs) j ≡ true → has quorum j ≡ true
  ours j h = elim (or_cases (nat_eq (w % n) j) (has bs j) h) [
    | inl e ↦ ap (has quorum) (sym (eqb-true (w % n) j e)) ∙ q.primary
    | inr k ↦ (bs_member j k).0
  ]

  best_ours : has ((w % n) ∷ bs) best ≡ true
  best_ours = by_place (nat_eq (w % n) best) refl
    where
      by_place : (b : Bool) → nat_eq (w % n) best ≡ b → (nat_eq (w % n) best || has bs best) ≡ true
      by_place true e = or_left (nat_eq (w % n) best) (has bs best) e
      by_place false e = or_right (nat_eq (w % n) best) (has bs best) (in_bs best chosen.member e)

  best_is : best_of (own_log sp) logs ≡ log_of start best
  best_is =
      best_found (log_of start best) (own_log sp) logs
      (subst (λ (c : Collected). IsBest (log_of start best) (c ∷ logs)) (sym own_is) (best_among start best ((w % n) ∷ bs) (λ j h. ranked j (nat_eq j best) refl (ours j h))))
      (subst (λ (c : Collected). Holds (log_of start best) (c ∷ logs)) (sym own_is) (best_held start best ((w % n) ∷ bs) best_ours))
    where
      ranked : (j : ℕ) (b : Bool) → nat_eq j best ≡ b → has quorum j ≡ true → (log_of start j ≡ log_of start best) ⊎ (is_better (log_of start best) (log_of start j) ≡ true)
      ranked j true e member = inl (ap (log_of start) (eqb-true j best e))
      ranked j false e member = inr (chosen.better j member e)

  -- the primary once the view has started
  abbrev begun : VrState
  begun = started_view (gathered n w quorum start ready q group bs) (start best).log (least_commit sp.commit logs) (greatest_commit sp.commit logs)

  sound_start : is_sound sp begun ≡ true
  sound_start =
      let one = (ready best chosen.member).is_one in
      let some : nat_eq (sp.controllers / 2) 0 ≡ false = ne_eqb (sp.controllers / 2) 0 (λ e. let g = its_group n w quorum start ready q group in omega (arith, e, g)) in
      let within : nat_le (greatest_commit sp.commit logs) (length (start best).log) ≡ true = le-leb (greatest_commit sp.commit logs) (length (start best).log)
      (greatest_within start bs sp.commit (length (start best).log) (chosen.covers (w % n) q.primary) (λ j h. chosen.covers j (bs_member j h).0)) in
      let agree = chosen.agrees (w % n) q.primary in
      rw (some, one, within, agree) (entries_same (take sp.commit (start best).log))

  enough : sp.controllers / 2 ≤ length logs
  enough =
      let count = bs_count in
      let mapped = length-map bs (log_of start) in
      subst (λ (k : ℕ). k / 2 ≤ length logs) (sym (leader n w quorum start ready q group).size) (omega (arith, count, mapped))

  front_long : length (take sp.commit sp.log) ≡ sp.commit
  front_long = length-take-le sp.commit sp.log (leader n w quorum start ready q group).commit

  starts_near : (start best).commit ≤ sp.commit → check (gathered n w quorum start ready q group bs) ≡ sends begun (to_others begun (view_start begun))
  starts_near near =
      let long = front_long in
      check_starts sp w (votes_of n w quorum start ready q group (w % n)) (its_turn n w quorum start ready q group) (its_group n w quorum start ready q group) logs None (log_of start best) (start best).log
      enough best_is (omega (arith, near, long))
      (joined_log (log_of start best) sp.log (start best).log sp.commit (leader n w quorum start ready q group).commit near (chosen.agrees (w % n) q.primary) refl)

  abbrev fetching : List VrLetter
  fetching = letter (message.Fetch w sp.commit) best ∷ []

  fetches_far : sp.commit < (start best).commit → check (gathered n w quorum start ready q group bs) ≡ sends (gathered n w quorum start ready q group bs) fetching
  fetches_far far =
      let long = front_long in
      check_fetches sp w (votes_of n w quorum start ready q group (w % n)) (its_turn n w quorum start ready q group) (its_group n w quorum start ready q group) logs None (log_of start best)
      enough best_is (omega (arith, far, long))

  -- with what was fetched
  abbrev lent : List Entry
  lent = drop sp.commit (take (start best).commit (start best).log)

  abbrev supplied : VrState
  supplied = gathering sp w (votes_of n w quorum start ready q group (w % n)) (its_turn n w quorum start ready q group) (its_group n w quorum start ready q group) logs (Some (record { first = sp.commit; log = lent }))

  starts_far : sp.commit < (start best).commit → check supplied ≡ sends begun (to_others begun (view_start begun))
  starts_far far =
      let full : take sp.commit sp.log ++ lent ≡ take (start best).commit (start best).log =
      supplied_front sp.log (start best).log sp.commit (start best).commit (omega (arith, far)) (chosen.agrees (w % n) q.primary) in
      let long = length-take-le (start best).commit (start best).log (ready best chosen.member).commit in
      let same = ap length full in
      check_starts sp w (votes_of n w quorum start ready q group (w % n)) (its_turn n w quorum start ready q group) (its_group n w quorum start ready q group) logs
      (Some (record { first = sp.commit; log = lent })) (log_of start best) (start best).log
      enough best_is (omega (arith, long, same))
      (ap (λ (xs : List Entry). take (start best).commit xs ++ drop (start best).commit (start best).log) full
      ∙ joined_log (log_of start best) (start best).log (start best).log (start best).commit (ready best chosen.member).commit (omega arith) refl refl)

  -- the others wait in the view
  waits_there : (j : ℕ) → has quorum j ≡ true → nat_eq j (w % n) ≡ false →
      held n w quorum start ready (votes_of n w quorum start ready q group) j ≡ in_view (start j) w (votes_of n w quorum start ready q group j) true [] None
  waits_there j member other =
      let all : nat_le (n / 2) (length (votes_of n w quorum start ready q group j)) ≡ true = le-leb (n / 2) (length (votes_of n w quorum start ready q group j)) (let v = all_voted n w quorum start ready q j member in omega (arith, v)) in
      let apart : nat_eq (w % n) (start j).me ≡ false = ne_eqb (w % n) (start j).me (λ e. eqb-false j (w % n) other (sym (e ∙ (ready j member).me))) in
      rw (member, all, apart) refl

  -- the group before the turn that starts the view: one packet waits, for the primary
  pub record Ending (count : ℕ) (g : GroupState) (turns : ℕ) : Type 0 where
    pub front : List ℕ
    pub sender : ℕ
    pub message : VrMessage
    pub reached : After count quorum g (led n w quorum start ready q group (gathered n w quorum start ready q group front)) (record { from = sender; to = w % n; message = message } ∷ []) turns
    pub starts : (at : ℕ → VrState) → ((j : ℕ) → at j ≡ led n w quorum start ready q group (gathered n w quorum start ready q group front) j) →
        vr_step (at (w % n)) (vr_input.From sender message) ≡ sends begun (to_others begun (view_start begun))

  -- what was fetched is asked for, and told
  module _ (far : sp.commit < (start best).commit) where
    best_apart : nat_eq best (w % n) ≡ false
    best_apart = ne_eqb best (w % n) (λ e. let same = ap (λ (k : ℕ). (start k).commit) e in omega (arith, far, same))

    abbrev answer : Flight
    answer = record { from = best; to = w % n; message = message.Supply w sp.commit lent }

    asked : (at : ℕ → VrState) (turns : ℕ) → ((j : ℕ) → at j ≡ led n w quorum start ready q group (gathered n w quorum start ready q group bs) j) →
        After 1 quorum (record { at = at; pool = map (flown (w % n)) fetching; turns = turns }) (led n w quorum start ready q group (gathered n w quorum start ready q group bs)) (answer ∷ []) (turns + 1)
    asked at turns each =
        let m = ready best chosen.member in
        let lead = leader n w quorum start ready q group in
        let t = gathered n w quorum start ready q group bs in
        let apart = best_apart in
        let asks_it : Flight = record { from = w % n; to = best; message = message.Fetch w sp.commit } in
        let voters = votes_of n w quorum start ready q group best in
        let waiting : VrState = in_view (start best) w voters true [] None in
        let at_best : at best ≡ waiting = each best ∙ ap (λ (b : Bool). if b then t else held n w quorum start ready (votes_of n w quorum start ready q group) best) apart ∙ waits_there best chosen.member apart in
        one_drawn quorum at (led n w quorum start ready q group t) asks_it [] (answer ∷ []) turns
        (sends waiting (letter (message.Supply w sp.commit lent) (w % n) ∷ [])) (led_changing n w quorum start ready q group bs at each) chosen.member
        (ap (λ (s : VrState). vr_step s (vr_input.From (w % n) (message.Fetch w sp.commit))) at_best
        ∙ fetch_comes (start best) w voters true [] None (w % n) sp.commit (let size = m.size in let less = lead.small in omega (arith, size, less))
        (λ e. eqb-false best (w % n) apart (sym (e ∙ m.me))) (omega (arith, far)))
        (λ j. stays j (nat_eq j best) refl at_best) refl
      where
        stays : (j : ℕ) (b : Bool) → nat_eq j best ≡ b → at best ≡ in_view (start best) w (votes_of n w quorum start ready q group best) true [] None →
            (if b then in_view (start best) w (votes_of n w quorum start ready q group best) true [] None else at j) ≡ led n w quorum start ready q group (gathered n w quorum start ready q group bs) j
        stays j true e is =
            let same : best ≡ j = sym (eqb-true j best e) in
            sym is ∙ ap at same ∙ each j
        stays j false e is = each j

    told : (at : ℕ → VrState) → ((j : ℕ) → at j ≡ led n w quorum start ready q group (gathered n w quorum start ready q group bs) j) →
        vr_step (at (w % n)) (vr_input.From best (message.Supply w sp.commit lent)) ≡ sends begun (to_others begun (view_start begun))
    told at is =
        let m = ready best chosen.member in
        let lead = leader n w quorum start ready q group in
        let t = gathered n w quorum start ready q group bs in
        ap (λ (s : VrState). vr_step s (vr_input.From best (message.Supply w sp.commit lent))) (is (w % n) ∙ ap (λ (b : Bool). if b then t else held n w quorum start ready (votes_of n w quorum start ready q group) (w % n)) (eq-eqb (w % n) (w % n) refl))
        ∙ supply_comes sp w (votes_of n w quorum start ready q group (w % n)) (its_turn n w quorum start ready q group) (its_group n w quorum start ready q group) logs best lent
        (let size = lead.size in let less = m.small in omega (arith, size, less)) (λ e. eqb-false best (w % n) best_apart (e ∙ lead.me)) goes_beyond
        ∙ ap (λ (x : VrStep). guarded t x) (starts_far far) ∙ guard_open t (sends begun (to_others begun (view_start begun))) sound_start
      where
        goes_beyond : length (take sp.commit sp.log) < sp.commit + length lent
        goes_beyond =
            let long = front_long in
            let whole = length-take-le (start best).commit (start best).log (ready best chosen.member).commit in
            let rest = length-drop sp.commit (take (start best).commit (start best).log) in
            omega (arith, far, long, whole, rest)

  -- all that is drained after the last suspicion, but for the last packet
  abbrev turns_drained : ℕ
  turns_drained = times (n / 2) quorum + n / 2 + (if lacks (w % n) start best then 2 else 0)

  module _ (at : ℕ → VrState) (turns : ℕ) (each : (j : ℕ) → at j ≡ held n w quorum start ready (heard_from []) j) where
    abbrev g : GroupState
    g = record { at = at; pool = all_calls n w quorum; turns = turns }

    rounds : After (all_packets n quorum) quorum g (held n w quorum start ready (heard_from (views_behind quorum []))) (map (log_sent start w (w % n)) bs) (turns + times (n / 2) quorum)
    rounds = all_rounds n w quorum start ready q quorum [] at turns refl (let count = q.count in omega (arith, count, group)) each

    last : (count : ℕ) × (count + 1 ≡ length bs) ×
        BeforeLast n w quorum start ready q group count bs (record { at = rounds.found; pool = map (log_sent start w (w % n)) bs; turns = turns + times (n / 2) quorum }) (turns + times (n / 2) quorum)
    last = before_last n w quorum start ready q group bs rounds.found (turns + times (n / 2) quorum) bs_count (let count = bs_count in omega (arith, count, group))
        bs_member (filter_once (λ x. not (nat_eq (w % n) x)) (last_first [] quorum) order_once) (λ j. rounds.each j ∙ led_first n w quorum start ready q group j)

    by_need : (b : Bool) → lacks (w % n) start best ≡ b →
        (k : ℕ) × (t : ℕ) × (t + 1 ≡ turns + (times (n / 2) quorum + n / 2 + (if b then 2 else 0))) × Ending k g t
    by_need true e =
        let far = ltb-true sp.commit (start best).commit e in
        let c = last.0 in
        let b = last.2 in
        let t = gathered n w quorum start ready q group bs in
        let now = turns + times (n / 2) quorum in
        let g1 : GroupState = record { at = rounds.found; pool = map (log_sent start w (w % n)) bs; turns = now } in
        let collected = collect_last n w quorum start ready q group c bs g1 now t fetching b (fetches_far far) (sound_here sp (leader n w quorum start ready q group).is_one (leader n w quorum start ready q group).commit t refl refl) in
        let asks = asked far collected.found (now + c + 1) collected.each in
        let both = after_first (c + 1) 1 (c + 1 + 1) quorum g1 (led n w quorum start ready q group t) (led n w quorum start ready q group t) (map (flown (w % n)) fetching) (answer far ∷ []) (now + c + 1) (now + c + 1 + 1) (now + c + 1 + 1) collected asks refl refl in (
          all_packets n quorum + (c + 1 + 1),
          now + c + 1 + 1,
          (let count = last.1 in let some = bs_count in omega (arith, count, some)),
          record {
            front = bs;
            sender = best;
            message = message.Supply w sp.commit lent;
            reached = after_first (all_packets n quorum) (c + 1 + 1) (all_packets n quorum + (c + 1 + 1)) quorum g (held n w quorum start ready (heard_from (views_behind quorum []))) (led n w quorum start ready q group t)
                (map (log_sent start w (w % n)) bs) (answer far ∷ []) now (now + c + 1 + 1) (now + c + 1 + 1) rounds both refl refl;
            starts = told far;
          },
        )
    by_need false e =
        let near = ltb-false sp.commit (start best).commit e in
        let c = last.0 in
        let b = last.2 in
        let now = turns + times (n / 2) quorum in (
          all_packets n quorum + c,
          now + c,
          (let count = last.1 in let some = bs_count in omega (arith, count, some)),
          record {
            front = b.front;
            sender = b.last;
            message = message.DoViewChange w (start b.last).normal (start b.last).commit (drop (start b.last).commit (start b.last).log);
            reached = after_first (all_packets n quorum) c (all_packets n quorum + c) quorum g (held n w quorum start ready (heard_from (views_behind quorum []))) (led n w quorum start ready q group (gathered n w quorum start ready q group b.front))
                (map (log_sent start w (w % n)) bs) (log_sent start w (w % n) b.last ∷ []) now (now + c) (now + c) rounds b.reached refl refl;
            starts = λ found is. log_heard n w quorum start ready q group b.front b.last found begun (to_others begun (view_start begun)) is b.member b.other b.new
                (ap (λ (xs : List ℕ). check (gathered n w quorum start ready q group xs)) b.joined ∙ starts_near near) sound_start;
          },
        )

    drained_all : (k : ℕ) × (t : ℕ) × (t + 1 ≡ turns + turns_drained) × Ending k g t
    drained_all = by_need (lacks (w % n) start best) refl

  -- the members suspect
  record Suspected (g : GroupState) (at : ℕ → VrState) (pool : List Flight) (turns : ℕ) : Type 0 where
    pub found : ℕ → VrState
    pub is : g ≡ record { at = found; pool = pool; turns = turns }
    pub each : (j : ℕ) → found j ≡ at j

  abbrev entering : (ℕ → Bool) → ℕ → VrState
  entering seen j = if seen j then in_view (start j) w [] false [] None else start j

  called : (c : ℕ) (js : List ℕ) → map (flown c) (map (letter (message.StartViewChange w)) js) ≡ map (call w c) js
  called c [] = refl
  called c (j ∷ js) = ap (λ (l : List Flight). call w c j ∷ l) (called c js)

  all_suspect : (cs : List ℕ) (seen : ℕ → Bool) (at : ℕ → VrState) (pool : List Flight) (turns : ℕ) → ((j : ℕ) → at j ≡ entering seen j) → Once cs →
      ((j : ℕ) → has cs j ≡ true → (seen j ≡ false) × (has quorum j ≡ true)) →
      Suspected (all_suspected (record { at = at; pool = pool; turns = turns }) w cs) (entering (λ j. seen j || has cs j)) (pool ++ all_calls n w cs) (turns + length cs)
  all_suspect [] seen at pool turns each once fresh =
      record {
        found = at;
        is = ap (λ (l : List Flight). record { at = at; pool = l; turns = turns }) (sym (append-nil pool)) ∙ ap (λ (k : ℕ). record { at = at; pool = pool ++ []; turns = k }) (omega arith);
        each = λ j. each j ∙ ap (λ (b : Bool). if b then in_view (start j) w [] false [] None else start j) (sym (or-false (seen j)));
      }
  all_suspect (c ∷ cs) seen at pool turns each once fresh =
      let f = fresh c (has_here c cs) in
      let m = ready c f.1 in
      let s = start c in
      let at_is : at c ≡ s = each c ∙ ap (λ (b : Bool). if b then in_view s w [] false [] None else s) f.0 in
      let step : VrStep = record { state = in_view s w [] false [] None; promise = Some w; letters = to_others s (message.StartViewChange w) } in
      let does : vr_step (at c) (vr_input.Suspect w) ≡ step = ap (λ (x : VrState). vr_step x (vr_input.Suspect w)) at_is
      ∙ suspects n w c s m (subst (λ (k : ℕ). 0 < k / 2) (sym m.size) group) in
      let said : map (flown c) (to_others s (message.StartViewChange w)) ≡ map (call w c) (others_below c n) =
      called c (others_below s.me s.controllers) ∙ ap (λ (k : ℕ). map (call w c) (others_below k s.controllers)) m.me ∙ ap (λ (k : ℕ). map (call w c) (others_below c k)) m.size in
      let next : took_flight (record { at = at; pool = pool; turns = turns }) c (vr_step (at c) (vr_input.Suspect w)) pool ≡
      record { at = put_state at c (in_view s w [] false [] None); pool = pool ++ map (call w c) (others_below c n); turns = turns + 1 } =
      ap (λ (x : VrStep). took_flight (record { at = at; pool = pool; turns = turns }) c x pool) does
      ∙ ap (λ (l : List Flight). record { at = put_state at c (in_view s w [] false [] None); pool = pool ++ l; turns = turns + 1 }) said in
      let rest = all_suspect cs (λ j. seen j || nat_eq c j) (put_state at c (in_view s w [] false [] None)) (pool ++ map (call w c) (others_below c n)) (turns + 1)
      (λ j. placed j (nat_eq j c) refl) once.1
      (λ j h. let r = fresh j (has_later c j cs h) in (ap (λ (b : Bool). b || nat_eq c j) r.0 ∙ ne_eqb c j (λ e. both_ways (has cs j) (ap (has cs) (sym e) ∙ once.0) h), r.1)) in
      record {
        found = rest.found;
        is = ap (λ (g : GroupState). all_suspected g w cs) next ∙ rest.is
            ∙ ap (λ (l : List Flight). record { at = rest.found; pool = l; turns = turns + 1 + length cs }) (append_assoc pool (map (call w c) (others_below c n)) (all_calls n w cs))
            ∙ ap (λ (k : ℕ). record { at = rest.found; pool = pool ++ all_calls n w (c ∷ cs); turns = k }) (omega arith);
        each = λ j. rest.each j ∙ ap (λ (b : Bool). if b then in_view (start j) w [] false [] None else start j) (or_assoc (seen j) (nat_eq c j) (has cs j));
      }
    where
      placed : (j : ℕ) (b : Bool) → nat_eq j c ≡ b → (if b then in_view (start c) w [] false [] None else at j) ≡ entering (λ x. seen x || nat_eq c x) j
      placed j true e =
          let same : j ≡ c = eqb-true j c e in
          subst (λ (k : ℕ). in_view (start c) w [] false [] None ≡ entering (λ x. seen x || nat_eq c x) k) (sym same)
          (ap (λ (b : Bool). if b then in_view (start c) w [] false [] None else start c) (sym (ap (λ (b : Bool). seen c || b) (eq-eqb c c refl) ∙ or-true (seen c))))
      placed j false e =
          each j ∙ ap (λ (b : Bool). if b then in_view (start j) w [] false [] None else start j)
          (sym (or-false (seen j)) ∙ ap (λ (b : Bool). seen j || b) (sym (ne_eqb c j (λ i. eqb-false j c e (sym i)))))

  -- a member that has entered has no votes yet
  none_yet : (j : ℕ) → entering (has quorum) j ≡ held n w quorum start ready (heard_from []) j
  none_yet j =
      let few : nat_le (n / 2) 0 ≡ false = lt-leb (n / 2) 0 group in
      let nothing : (nat_eq (w % n) (start j).me && false) ≡ false = and_right (nat_eq (w % n) (start j).me) false refl in
      rw (few, nothing) refl

  -- the last packet is drawn
  begins : (k : ℕ) (g : GroupState) (t : ℕ) → Ending k g t → After (k + 1) quorum g (led n w quorum start ready q group begun) (map (flown (w % n)) (to_others begun (view_start begun))) (t + 1)
  begins k g t e =
      let letters = map (flown (w % n)) (to_others begun (view_start begun)) in
      let f : Flight = record { from = e.sender; to = w % n; message = e.message } in
      after_on k 1 quorum g (led n w quorum start ready q group (gathered n w quorum start ready q group e.front)) (led n w quorum start ready q group begun) (f ∷ []) letters t (t + 1) e.reached
      (λ found is. one_drawn quorum found (led n w quorum start ready q group begun) f [] letters t (sends begun (to_others begun (view_start begun))) (led_changing n w quorum start ready q group e.front found is) q.primary (e.starts found is)
      (λ j. placed found j (nat_eq j (w % n)) (is j)) refl)
    where
      placed : (found : ℕ → VrState) (j : ℕ) (b : Bool) → found j ≡ (if b then gathered n w quorum start ready q group e.front else held n w quorum start ready (votes_of n w quorum start ready q group) j) →
          (if b then begun else found j) ≡ (if b then begun else held n w quorum start ready (votes_of n w quorum start ready q group) j)
      placed found j true is = refl
      placed found j false is = is

  -- the view starts
  pub view_starts : (k : ℕ) × HasStarted n w quorum start best (drains k quorum (all_suspected (resting_group start) w quorum))
  view_starts =
      let first = all_suspect quorum (λ j. false) start [] 0 (λ j. refl) (quorum_once n w quorum start ready q) (λ j h. (refl, h)) in
      let g : GroupState = record { at = first.found; pool = all_calls n w quorum; turns = 0 + length quorum } in
      let rest = drained_all first.found (0 + length quorum) (λ j. first.each j ∙ none_yet j) in
      let done = begins rest.0 g rest.1 rest.3 in
      let is : drains (rest.0 + 1) quorum (all_suspected (resting_group start) w quorum) ≡ record { at = done.found; pool = map (flown (w % n)) (to_others begun (view_start begun)); turns = rest.1 + 1 } =
      ap (drains (rest.0 + 1) quorum) first.is ∙ done.drained_to in
      let at_p : done.found (w % n) ≡ begun = done.each (w % n) ∙ ap (λ (b : Bool). if b then begun else held n w quorum start ready (votes_of n w quorum start ready q group) (w % n)) (eq-eqb (w % n) (w % n) refl) in (
        rest.0 + 1,
        subst (λ (x : GroupState). HasStarted n w quorum start best x) (sym is) (record {
          voters = votes_of n w quorum start ready q group;
          logs = logs;
          logs_are = refl;
          primary = at_p;
          others = λ j member other. done.each j ∙ ap (λ (b : Bool). if b then begun else held n w quorum start ready (votes_of n w quorum start ready q group) j) other ∙ waits_there j member other;
          outside = λ j out. done.each j ∙ ap (λ (b : Bool). if b then begun else held n w quorum start ready (votes_of n w quorum start ready q group) j) (not_leader j out)
              ∙ ap (λ (b : Bool). if b then voting (n / 2) w (w % n) (start j) (votes_of n w quorum start ready q group j) else start j) out;
          waits = ap (λ (s : VrState). map (flown (w % n)) (to_others s (view_start s))) (sym at_p);
          took = turns_are n quorum (lacks (w % n) start best) (rest.1 + 1) q.count (let e = rest.2 in omega (arith, e));
        }),
      )
    where
      not_leader : (j : ℕ) → has quorum j ≡ false → nat_eq j (w % n) ≡ false
      not_leader j out = ne_eqb j (w % n) (λ e. both_ways (has quorum (w % n)) (ap (has quorum) (sym e) ∙ out) q.primary)

  -- how the members come there, once they have entered the view
  pub path : (z : GroupState) × Path w quorum z [] (all_suspected (resting_group start) w quorum) × IsLast n w quorum start best z
  path =
      let once = quorum_once n w quorum start ready q in
      let first = all_suspect quorum (λ j. false) start [] 0 (λ j. refl) once (λ j h. (refl, h)) in
      let g : GroupState = record { at = first.found; pool = all_calls n w quorum; turns = 0 + length quorum } in
      let rest = drained_all first.found (0 + length quorum) (λ j. first.each j ∙ none_yet j) in
      let k = rest.0 in
      let e = rest.3 in
      let z : GroupState = record { at = e.reached.found; pool = record { from = e.sender; to = w % n; message = e.message } ∷ []; turns = rest.1 } in
      let changes : AreChanging quorum e.reached.found = led_changing n w quorum start ready q group e.front e.reached.found e.reached.each in
      let drained_path : Path w quorum z [] (all_suspected (resting_group start) w quorum) =
      subst (λ (x : GroupState). Path w quorum z [] x) (sym first.is) (of_drains w quorum z k g (λ i le. each_before k g rest.1 e i le) e.reached.drained_to) in (
        z,
        drained_path,
        record {
          voters = votes_of n w quorum start ready q group;
          sender = e.sender;
          message = e.message;
          waits = refl;
          changes = changes;
          starts = e.starts e.reached.found e.reached.each;
          others = λ j member other. e.reached.each j ∙ ap (λ (b : Bool). if b then gathered n w quorum start ready q group e.front else held n w quorum start ready (votes_of n w quorum start ready q group) j) other ∙ waits_there j member other;
          outside = λ j out. e.reached.each j ∙ ap (λ (b : Bool). if b then gathered n w quorum start ready q group e.front else held n w quorum start ready (votes_of n w quorum start ready q group) j) (no_leader j out)
              ∙ ap (λ (b : Bool). if b then voting (n / 2) w (w % n) (start j) (votes_of n w quorum start ready q group j) else start j) out;
          turns = turns_are n quorum (lacks (w % n) start best) (rest.1 + 1) q.count (let is = rest.2 in omega (arith, is));
        },
      )
    where
      no_leader : (j : ℕ) → has quorum j ≡ false → nat_eq j (w % n) ≡ false
      no_leader j out = ne_eqb j (w % n) (λ e. both_ways (has quorum (w % n)) (ap (has quorum) (sym e) ∙ out) q.primary)

      each_before : (k : ℕ) (g : GroupState) (t : ℕ) → (e : Ending k g t) → (i : ℕ) → i ≤ k → AreChanging quorum (drains i quorum g).at
      each_before k g t e i le = elim (cases_lt i k) [
        | inl before ↦ e.reached.changing i before
        | inr from ↦
            let same : k ≡ i = omega (arith, le, from) in
            subst (λ (x : ℕ). AreChanging quorum (drains x quorum g).at) same
            (subst (λ (x : GroupState). AreChanging quorum x.at) (sym e.reached.drained_to) (led_changing n w quorum start ready q group e.front e.reached.found e.reached.each))
      ]

-- by what each quorum is
pub starts_of : (n w : ℕ) (quorum : List ℕ) (start : ℕ → VrState) → IsQuorum n w quorum → ((j : ℕ) → has quorum j ≡ true → IsReadyMember n w j (start j)) → 0 < n / 2 →
    (best : ℕ) → HasBest quorum start best → IsCovered quorum start best → (packets : ℕ) × HasStarted n w quorum start best (drains packets quorum (all_suspected (resting_group start) w quorum))
starts_of n w quorum start q ready group best b covered =
    view_starts n w quorum start ready (picked_of_quorum n w quorum q) group best
    (record { member = b.member; better = b.better; agrees = covered.agrees; covers = covered.covers })
