-- Where nothing is on its way once a view has started, all is done: what the primary has is committed, each event that it has is
-- processed, and each switch holds nothing.
use Rattle.std.proofs.Common.{◌≡◌, ◌≤◌, ◌<◌, ◌⊎◌, inl, inr, ℕ, zero, suc, ◌+◌, ◌-◌, ◌%◌, Bool, true, false, List, [], ◌∷◌, length, take, drop, refl, sym, ◌∙◌, ap, subst, arith}
use Rattle.std.specs.Prelude.{nat_eq, nat_le, not, ◌&&◌, slice_index, if◌then◌else◌}
use Rattle.std.proofs.lemmas.Bool.{cases_lt, eq-eqb, le-leb, lt-ltb, ltb-false, true≢false, not-true, and_parts}
use Rattle.std.proofs.lemmas.List.{take_all, nil_from_length}
use Rattle.of_types.specs.declared.message.Event.{Event}
use Rattle.of_types.specs.declared.message.Order.{Order}
use Rattle.of_types.specs.declared.setup.Setup.{Setup}
use Rattle.of_types.specs.Lives.{count_in, has_ended, life_in}
use Rattle.list_facts.specs.Lists.{IsIn}
use Rattle.list_facts.proofs.Elements.{in_filter, filter_passes, in_take}
use Rattle.vr_log.specs.declared.state.VrState.{VrState}
use Rattle.vr_log.specs.Log.{received, processed}
use Rattle.two_stage_log.specs.Counts.{has_unprocessed}
use Rattle.app_core.specs.declared.issued.Issued.{Issued}
use Rattle.app_core.specs.Chain.{concat}
use Rattle.app_core.specs.Issued.{commands_of, count_issued, issued, issues}
use Rattle.controller_moves.proofs.ControllerLaws.Issued.{command_between, count-orders, issued-take}
use Rattle.controller_moves.proofs.ControllerLaws.Logs.{ended_by}
use Rattle.event_buffer.specs.Buffer.{next_number}
use Rattle.of_switch.specs.State.{SwitchState, events_in, life_of}
use Rattle.dispatcher.specs.Marks.{has_result, is_confirmed, is_finished, is_wanted, settled_commands, wanted}
use Rattle.group_controller.specs.State.{ControllerState, committed}
use Rattle.closing_laws.specs.Quorum.{has}
use Rattle.closing_laws.specs.Following.{Start, KeepsUp, IsAgreed, LeadsFrom}
use Rattle.closing_laws.specs.Serving.{AreFew, IsAttended, IsSettled, IsTrueOf, IsMastered, AreEventsTold, events_told, logged_of, processed_by, sent_of, settled_by, letters_told_by, told_through}
use Rattle.closing_laws.proofs.Draining.Followers.{rests, drop_none}
use Rattle.closing_laws.proofs.Truths.CommandsNamed.{command_named}

-- all of the primary's log is committed
pub all_committed : (start : Start) (p : VrState) → LeadsFrom start p → p.me ≡ p.view % p.controllers → p.me < p.controllers → (quorum : List ℕ) → IsAgreed p quorum → (members : ℕ → VrState) →
    ((b : ℕ) → has quorum b ≡ true → (b ≡ p.me → ⊥) → KeepsUp start p b (members b) [] []) → p.commit ≡ length p.log
all_committed start p lead leader small quorum agreed members keeps = by_known (cases_lt start.known (length p.log))
  where
    by_known : (start.known < length p.log) ⊎ (length p.log ≤ start.known) → p.commit ≡ length p.log
    by_known (inr all) = let known = lead.known in let commit = lead.commit in omega (arith, all, known, commit)
    by_known (inl some) =
        let low = agreed (length p.log) (omega arith) (λ b chosen other. by_acked b (rests start p lead leader small b other (members b) (keeps b chosen other)).1) in
        let commit = lead.commit in
        omega (arith, low, commit)
      where
        by_acked : (b : ℕ) → (slice_index p.acked b ≡ length p.log) ⊎ (length p.log ≡ start.known) → length p.log ≤ slice_index p.acked b
        by_acked b (inl e) = omega (arith, e)
        by_acked b (inr e) = absurd (omega (arith, e, some))

take_some : {A : Type 0} (n : ℕ) (xs : List A) → 0 < n → take n xs ≡ [] → xs ≡ []
take_some zero xs some h = absurd (omega (arith, some))
take_some (suc n) [] some h = refl
take_some (suc n) (x ∷ xs) some h = cc

module _ (kinds : List ℕ) (setup : Setup) (c : ControllerState) (all : committed c ≡ c.vr.log) (settled : IsSettled kinds setup c) where
  -- what is issued to a life for the first events
  counted : (switch life n : ℕ) → length (issued kinds setup switch life (take n (received (committed c)))) ≡ count_issued switch life (concat (take n (issues kinds setup (received (committed c)))))
  counted switch life n =
      ap (λ (os : List Order). length os) (issued-take kinds setup switch life n (received (committed c))) ∙ sym (count-orders switch life (concat (take n (issues kinds setup (received (committed c))))))

  -- one switch
  module _ (s : ℕ) (sw : SwitchState) (h : IsAttended kinds setup c s sw [] []) (t : IsTrueOf kinds setup c s sw) where
    pub asked : IsMastered c s sw [] [] × AreEventsTold c s sw [] []
    asked = elim h.role [ inl u ↦ absurd (let e = u.first in cc) | inr a ↦ a ]

    confirmed : is_confirmed c.marks s ≡ true
    confirmed = by_test (is_confirmed c.marks s) asked.0.replies
      where
        by_test : (b : Bool) → 0 + (if b then 1 else 0) ≡ 1 → b ≡ true
        by_test true e = refl
        by_test false e = absurd (omega (arith, e))

    -- what was sent is logged
    all_sent : sent_of sw ≤ logged_of c s sw
    all_sent = elim (cases_lt (logged_of c s sw) (sent_of sw)) [
      | inr le ↦ le
      | inl more ↦
          let n : ℕ = sent_of sw - logged_of c s sw in
          let none = take_some n (drop (logged_of c s sw) (events_in sw (life_of sw))) (omega (arith, more)) (sym asked.1.coming) in
          let past = drop_none (logged_of c s sw) (events_in sw (life_of sw)) none in
          let next = t.next in
          omega (arith, past, next, more)
    ]

    -- what is processed has left the buffer
    all_left : processed_by c s sw ≤ sw.buffer.cleared
    all_left = elim (cases_lt sw.buffer.cleared (processed_by c s sw)) [
      | inr le ↦ le
      | inl held ↦ elim (asked.1.acknowledged held) [ inl none ↦ absurd none | inr some ↦ absurd some.1 ]
    ]

    -- the log knows of its present life
    present : life_in s (received c.vr.log) ≡ life_of sw
    present = elim (cases_lt (life_in s (received c.vr.log)) (life_of sw)) [
      | inr le ↦ let low = t.life in omega (arith, le, low)
      | inl older ↦
          let none = t.unlogged older in
          let sent = all_sent in
          let made : 0 < next_number sw.buffer = t.begun (omega (arith, older)) in
          absurd (omega (arith, none, sent, made))
    ]

    -- each command that was told has its result
    all_marked : (i : ℕ) → settled_by kinds setup c s sw ≤ i → i < letters_told_by kinds setup c s sw → has_result c.marks s (life_of sw) i ≡ true
    all_marked i least most = elim ((h.confirmed confirmed).accounted i least most) [ inl e ↦ e | inr w ↦ elim w [ inl e ↦ absurd e | inr e ↦ absurd e ] ]

  -- of all switches
  module _ (few : AreFew kinds setup) (switches : ℕ → SwitchState) (served : (s : ℕ) → s < length setup.ports → IsAttended kinds setup c s (switches s) [] []) (true_of : (s : ℕ) → s < length setup.ports → IsTrueOf kinds setup c s (switches s))
      (lives : (e : Event) → IsIn e (received c.vr.log) → (s : ℕ) → s < length setup.ports → e.switch ≡ s → e.life ≤ life_of (switches s)) where
    abbrev events : List Event
    events = received c.vr.log

    same_events : received (committed c) ≡ events
    same_events = ap received all

    -- none of the commands of the first unprocessed event wants a result
    none_wanted : has_unprocessed (committed c) ≡ true → (x : Issued) → IsIn x (wanted kinds setup (committed c) c.marks) → ⊥
    none_wanted some x among =
        let place = processed (committed c) in
        let es = received (committed c) in
        let chosen = filter_passes (is_wanted (committed c) c.marks) (commands_of kinds setup es place) x among in
        let of_event = in_filter (is_wanted (committed c) c.marks) (commands_of kinds setup es place) x among in
        let at = command_between kinds setup es place x of_event in
        let named = command_named kinds setup few es place x of_event in
        let parts = and_parts (not (has_result c.marks x.switch x.life x.number)) (not (has_ended x.switch x.life es)) chosen in
        let goes_on = not-true (has_ended x.switch x.life es) parts.1 in
        let there = named.there in
        let now : life_in x.switch es ≡ life_of (switches x.switch) = ap (life_in x.switch) same_events ∙ present x.switch (switches x.switch) (served x.switch there) (true_of x.switch there) in
        let least : life_of (switches x.switch) ≤ x.life = (let low = ltb-false x.life (life_in x.switch es) goes_on in omega (arith, low, now)) in
        let most : x.life ≤ life_of (switches x.switch) = at_most x (take (suc place) es) named.life_is there (λ e k. lives e (subst (λ (l : List Event). IsIn e l) same_events (in_take (suc place) es e k)) x.switch there) in
        let own : x.life ≡ life_of (switches x.switch) = omega (arith, least, most) in
        let marked = all_marked x.switch (switches x.switch) (served x.switch there) (true_of x.switch there) x.number
        (from_settled x own at.least) (to_told x own at.most) in
        true≢false (sym marked ∙ ap (λ (l : ℕ). has_result c.marks x.switch l x.number) (sym own) ∙ not-true (has_result c.marks x.switch x.life x.number) parts.0)
      where
        at_most : (x : Issued) (front : List Event) → x.life ≡ life_in x.switch front → x.switch < length setup.ports → ((e : Event) → IsIn e front → e.switch ≡ x.switch → e.life ≤ life_of (switches x.switch)) → x.life ≤ life_of (switches x.switch)
        at_most x front is there each = elim (cases_lt (life_of (switches x.switch)) (life_in x.switch front)) [
          | inr le ↦ omega (arith, is, le)
          | inl later ↦
              let y = ended_by x.switch (life_of (switches x.switch)) front (lt-ltb (life_of (switches x.switch)) (life_in x.switch front) later) in
              let low = each y.event y.among y.switch_is in
              let high = y.later in
              absurd (omega (arith, low, high))
        ]

        from_settled : (x : Issued) → x.life ≡ life_of (switches x.switch) → length (issued kinds setup x.switch x.life (take (processed (committed c)) (received (committed c)))) ≤ x.number →
            settled_by kinds setup c x.switch (switches x.switch) ≤ x.number
        from_settled x own least =
            let same = counted x.switch x.life (processed (committed c)) in
            subst (λ (l : ℕ). settled_commands kinds setup (committed c) x.switch l ≤ x.number) own (omega (arith, same, least))

        to_told : (x : Issued) → x.life ≡ life_of (switches x.switch) → x.number < length (issued kinds setup x.switch x.life (take (processed (committed c) + 1) (received (committed c)))) →
            x.number < letters_told_by kinds setup c x.switch (switches x.switch)
        to_told x own most =
            let same = counted x.switch x.life (processed (committed c) + 1) in
            let told : events_told c ≡ processed (committed c) + 1 = ap (λ (b : Bool). processed (committed c) + (if b then 0 else 1)) settled.told in
            subst (λ (l : ℕ). x.number < told_through kinds setup c x.switch l) own
            (subst (λ (n : ℕ). x.number < count_issued x.switch x.life (concat (take n (issues kinds setup (received (committed c)))))) (sym told) (omega (arith, same, most)))

    -- so each event is processed
    pub all_processed : has_unprocessed (committed c) ≡ false
    all_processed = by_test (has_unprocessed (committed c)) refl
      where
        none_in : (xs : List Issued) → ((x : Issued) → IsIn x xs → ⊥) → length xs ≡ 0
        none_in [] none = refl
        none_in (x ∷ xs) none = absurd (none x (inl refl))

        by_test : (b : Bool) → has_unprocessed (committed c) ≡ b → has_unprocessed (committed c) ≡ false
        by_test false e = e
        by_test true e =
            let empty = none_in (wanted kinds setup (committed c) c.marks) (none_wanted e) in
            let same : processed c.vr.log ≡ processed (committed c) = ap processed (sym all) in
            let finished : is_finished kinds setup (committed c) c.marks ≡ true = ap (λ (b : Bool). b && nat_eq (length (wanted kinds setup (committed c) c.marks)) 0) e ∙ eq-eqb (length (wanted kinds setup (committed c) c.marks)) 0 empty in
            absurd (true≢false (sym (ap (λ (b : Bool). b && nat_le (processed c.vr.log) (processed (committed c))) finished ∙ le-leb (processed c.vr.log) (processed (committed c)) (omega (arith, same))) ∙ settled.proposed))

    -- and each switch is at rest
    module _ (s : ℕ) (there : s < length setup.ports) where
      abbrev sw : SwitchState
      sw = switches s

      abbrev t : IsTrueOf kinds setup c s sw
      t = true_of s there

      -- each event that is logged is processed
      pub processed_is : processed_by c s sw ≡ logged_of c s sw
      processed_is =
          ap (count_in s (life_of sw)) (take_all (processed (committed c)) (received (committed c)) (ltb-false (processed (committed c)) (length (received (committed c))) all_processed))
          ∙ ap (λ (l : List Event). count_in s (life_of sw) l) same_events

      -- and has left the buffer, which is empty
      pub cleared_is : sw.buffer.cleared ≡ next_number sw.buffer
      cleared_is =
          let left = all_left s sw (served s there) t in
          let same = processed_is in
          let sent = all_sent s sw (served s there) t in
          let low = t.cleared in
          omega (arith, left, same, sent, low)

      pub held_none : sw.buffer.held ≡ []
      held_none = nil_from_length sw.buffer.held (let same = cleared_is in omega (arith, same))

      pub dirty_none : sw.buffer.dirty ≡ []
      dirty_none = none_dirty sw.buffer.dirty t.remembered
        where
          none_dirty : (ports : List ℕ) → (0 < length ports → length sw.buffer.held ≡ 256) → ports ≡ []
          none_dirty [] full = refl
          none_dirty (x ∷ ports) full = let all = full (omega arith) in let none = ap (λ (l : List Event). length l) held_none in absurd (omega (arith, all, none))

      -- all that it made is logged
      pub logged_is : logged_of c s sw ≡ length (events_in sw (life_of sw))
      logged_is =
          let low = t.cleared in
          let high = t.logged in
          let same = cleared_is in
          let made = t.next in
          omega (arith, low, high, same, made)

      -- and all that is issued to it is settled
      pub settled_is : settled_by kinds setup c s sw ≡ length (issued kinds setup s (life_of sw) (received c.vr.log))
      settled_is =
          sym (counted s (life_of sw) (processed (committed c)))
          ∙ ap (λ (l : List Event). length (issued kinds setup s (life_of sw) l)) (take_all (processed (committed c)) (received (committed c)) (ltb-false (processed (committed c)) (length (received (committed c))) all_processed) ∙ same_events)
