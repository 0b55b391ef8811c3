-- Each turn of a closing's primary lowers what is left to do by one at least, but for the commands of events that are newly committed.
use Rattle.std.proofs.Common.{◌≡◌, ◌≤◌, ◌<◌, inl, inr, ℕ, ◌+◌, ◌*◌, Bool, true, false, List, [], ◌∷◌, length, take, filter, refl, sym, ◌∙◌, ap, subst, arith, append-nil}
use Rattle.std.specs.Prelude.{nat_eq, not, ◌&&◌, ◌||◌, if◌then◌else◌}
use Rattle.std.specs.List.{list_any}
use Rattle.std.proofs.lemmas.Bool.{cases_Bool, cases_eq, cond_both, eqb-true, true≢false}
use Rattle.std.proofs.lemmas.List.{length-take-le}
use Rattle.list_facts.specs.Lists.{IsPrefix}
use Rattle.list_facts.proofs.Prefixes.{front_prefix, prefix_is, prefix_refl, prefix_trans, takes_prefix}
use Rattle.of_types.specs.declared.message.Event.{Event}
use Rattle.of_types.specs.declared.setup.Setup.{Setup}
use Rattle.journal.specs.declared.journal.Letter.{Letter}
use Rattle.vr_log.specs.declared.entry.Entry.TheVariants.{Received}
use Rattle.vr_log.specs.declared.state.VrState.{VrState}
use Rattle.vr_log.specs.Log.{is_log, is_past_limits, processed, received}
use Rattle.vr_log.specs.Members.{most_failures, others_below}
use Rattle.vr_log.specs.Steps.{quiet}
use Rattle.two_stage_log.specs.Counts.{has_unprocessed}
use Rattle.app_core.specs.declared.issued.Issued.{Issued}
use Rattle.controller_moves.proofs.ControllerLaws.Logs.{processed_prefix}
use Rattle.dispatcher.specs.declared.answers.EventAction.{EventAction}
use Rattle.dispatcher.specs.declared.answers.EventAction.TheVariants.{Propose, Acknowledge, Nothing}
use Rattle.dispatcher.specs.Marks.{Marks, confirmed_by, has_result, is_confirmed, is_pending, is_wanted, outstanding, with_mark, with_marked_result}
use Rattle.of_switch.specs.State.{SwitchState, life_of}
use Rattle.event_buffer.specs.Buffer.{next_number}
use Rattle.group_controller.specs.declared.messages.ControllerSays.{ControllerSays}
use Rattle.group_controller.specs.State.{ControllerState, Work, committed, posting_work, resting, stepped, with_no_met_limit}
use Rattle.group_controller.specs.Settling.{ack_letter, after_finishing, after_proposal, is_alone, is_untold, proposing, settling}
use Rattle.group_controller.specs.Rules.{commands_for, on_master, on_wish, on_result}
use Rattle.closing_laws.specs.Measure.{commands_from, commands_sent, left_at_switches, left_to_process}
use Rattle.closing_laws.specs.Quorum.{has}
use Rattle.closing_laws.specs.Serving.{IsTruePrimary, logged_of}
use Rattle.closing_laws.proofs.Measure.AnswerWorths.{acks_worth, commands_worth, primary_worths}
use Rattle.closing_laws.proofs.Measure.CommandCounts.{due_of}
use Rattle.closing_laws.proofs.Measure.LoggedMeasure.{logged_left, same_left, whole_falls}
use Rattle.closing_laws.proofs.Measure.PieceMeasure.{Falls, falls_none, falls_then, received_falls}
use Rattle.closing_laws.proofs.Measure.WorkMeasure.{Descends, IsReady, descends_none, descends_on, finished_descends, past_descends, settling_descends, short_descends, short_ready, silent_descends}
use Rattle.closing_laws.proofs.Primary.Agreed.{agreed_no_less, agreed_within, marked}
use Rattle.closing_laws.proofs.Primary.Confirmed.{due_none}
use Rattle.closing_laws.proofs.Primary.Growth.{log_prefix}
use Rattle.closing_laws.proofs.Primary.Hearing.{joins, joins_others}
use Rattle.closing_laws.proofs.Primary.Proposing.{proposal, pushed}

-- the commands of a switch that has confirmed its role, beside those that were sent before
joined_count : {A : Type 0} (own before now wanting : A → Bool) → ((x : A) → before x ≡ true → now x ≡ true) → ((x : A) → own x ≡ true → before x ≡ false) → (xs : List A) →
    length (filter own (filter now (filter wanting xs))) + length (filter before xs) ≤ length (filter now xs)
joined_count own before now wanting more none [] = omega arith
joined_count own before now wanting more none (x ∷ xs) =
    by_tests (own x) refl (before x) refl (now x) refl (wanting x) (joined_count own before now wanting more none xs)
  where
    by_tests : (o : Bool) → own x ≡ o → (b : Bool) → before x ≡ b → (n : Bool) → now x ≡ n → (w : Bool) →
        length (filter own (filter now (filter wanting xs))) + length (filter before xs) ≤ length (filter now xs) →
        length (filter own (filter now (if w then x ∷ filter wanting xs else filter wanting xs))) + length (if b then x ∷ filter before xs else filter before xs) ≤
        length (if n then x ∷ filter now xs else filter now xs)
    by_tests o own_is true before_is false now_is w h = absurd (true≢false (sym (more x before_is) ∙ now_is))
    by_tests true own_is true before_is n now_is w h = absurd (true≢false (sym before_is ∙ none x own_is))
    by_tests false own_is true before_is true now_is true h = rw (now_is, own_is) (omega (arith, h))
    by_tests false own_is true before_is true now_is false h = omega (arith, h)
    by_tests true own_is false before_is true now_is true h = rw (now_is, own_is) (omega (arith, h))
    by_tests true own_is false before_is true now_is false h = omega (arith, h)
    by_tests true own_is false before_is false now_is true h = rw now_is h
    by_tests true own_is false before_is false now_is false h = h
    by_tests false own_is false before_is true now_is true h = rw (now_is, own_is) (omega (arith, h))
    by_tests false own_is false before_is true now_is false h = omega (arith, h)
    by_tests false own_is false before_is false now_is true h = rw now_is h
    by_tests false own_is false before_is false now_is false h = h

module _ (kinds : List ℕ) (setup : Setup) (quorum : List ℕ) (f : ℕ) (sw : ℕ → SwitchState) (c : ControllerState) (p : IsTruePrimary c)
    (enough : length (filter (has quorum) (others_below c.vr.me c.vr.controllers)) ≡ f) (whole : most_failures c.vr ≡ 0 → c.vr.commit ≡ length c.vr.log) where
  -- what a turn leaves, where what was heard is worth so much
  abbrev pub Lowers : Work → ℕ → Type 0
  Lowers work heard = (place : ℕ) → place ≤ processed (committed c) →
      primary_worths quorum c.vr.me work.letters + left_to_process kinds setup f work.state + left_at_switches setup f work.state sw + 1 + 3 * commands_from kinds setup c place ≤
      heard + left_to_process kinds setup f c + left_at_switches setup f c sw + 3 * commands_from kinds setup work.state place

  abbrev d : ControllerState
  d = with_no_met_limit c

  abbrev IsReady' : ControllerState → Type 0
  IsReady' now = IsReady kinds setup quorum c.vr.me f c.vr.controllers enough now

  abbrev Descends' : Work → Work → List Event → ℕ → Type 0
  Descends' old new more extra = Descends kinds setup quorum c.vr.me f c.vr.controllers enough old new more extra

  ready : (now : ControllerState) → now.vr ≡ c.vr → IsReady' now
  ready now same = record {
    mine = ap (λ (v : VrState). v.me) same;
    size = ap (λ (v : VrState). v.controllers) same;
    within = subst (λ (v : VrState). v.commit ≤ length v.log) (sym same) p.commit;
    whole = λ h. subst (λ (v : VrState). v.commit ≡ length v.log) (sym same) (whole (sym (ap most_failures same) ∙ eqb-true (most_failures now.vr) 0 h));
  }

  -- from a state with the same log
  module _ (now : ControllerState) (same : now.vr ≡ c.vr) (sent : commands_sent kinds setup now ≡ commands_sent kinds setup c) where
    lowers_by : (work : Work) (more : List Event) (extra heard : ℕ) → Descends' (resting now) work more extra →
        left_at_switches setup f work.state sw + extra + 1 ≤ heard + left_at_switches setup f c sw → Lowers work heard
    lowers_by work more extra heard q less place early =
        let none : 0 + extra ≡ extra = omega arith in
        let said = ap (λ (ls : List (Letter ControllerSays)). primary_worths quorum c.vr.me ls) q.joined in
        let all = whole_falls kinds setup quorum c.vr.me f sw c work.state q.letters (0 + extra) heard place
        (falls_then kinds setup quorum c.vr.me f c now work.state [] q.letters 0 extra (falls_none kinds setup quorum c.vr.me f c now same sent) q.falls)
        (prefix_trans (prefix_is (committed c) (committed now) (ap (λ (v : VrState). take v.commit v.log) same)) q.front) p.one early (omega (arith, less)) in
        omega (arith, all, said)

    lowers_still : (work : Work) (heard : ℕ) → Descends' (resting now) work [] 0 → 1 ≤ heard → Lowers work heard
    lowers_still work heard q some =
        let kept = same_left setup f sw c work.state (q.view_is ∙ ap (λ (v : VrState). v.view) same) (q.events ∙ append-nil (received now.vr.log) ∙ ap (λ (v : VrState). received v.log) same) in
        lowers_by work [] 0 heard q (omega (arith, kept, some))

  lowers_rest : (heard : ℕ) → 1 ≤ heard → Lowers (resting d) heard
  lowers_rest heard some = lowers_still d refl refl (resting d) heard (descends_none kinds setup quorum c.vr.me f c.vr.controllers enough (resting d)) some

  -- ---- a switch replies

  module _ (s : ℕ) (told : is_untold c ≡ false) (unconfirmed : is_confirmed c.marks s ≡ false) where
    abbrev now_confirmed : ControllerState
    now_confirmed = record d { marks = confirmed_by c.marks s }

    abbrev its : List Issued
    its = filter (λ x. nat_eq x.switch s) (outstanding kinds setup (committed now_confirmed) now_confirmed.marks)

    few : length its + length (filter (λ x. is_confirmed c.marks x.switch) (due_of kinds setup c)) ≤ length (filter (λ x. is_confirmed now_confirmed.marks x.switch) (due_of kinds setup c))
    few =
        joined_count (λ (x : Issued). nat_eq x.switch s) (λ x. is_confirmed c.marks x.switch) (λ x. is_confirmed now_confirmed.marks x.switch) (is_wanted (committed c) now_confirmed.marks)
        (λ x h. elim (cases_eq x.switch s) [
          | inl same ↦ ap (λ (k : ℕ). is_confirmed now_confirmed.marks k) same ∙ joins s c.marks.confirmed
          | inr other ↦ joins_others s x.switch c.marks.confirmed other ∙ h
        ])
        (λ x h. ap (λ (k : ℕ). is_confirmed c.marks k) (eqb-true x.switch s h) ∙ unconfirmed) (due_of kinds setup c)

    none_due : has_unprocessed (committed c) ≡ false → length its ≡ 0
    none_due none =
        ap (λ (l : List Issued). length (filter (λ x. nat_eq x.switch s) (filter (λ x. is_confirmed now_confirmed.marks x.switch) (filter (is_wanted (committed c) now_confirmed.marks) l)))) (due_none kinds setup c none)

    sent_more : 2 * length its + 2 * commands_sent kinds setup c ≤ 2 * commands_sent kinds setup now_confirmed
    sent_more = elim (cases_Bool (has_unprocessed (committed c))) [
      | inl there ↦
          let before = ap (λ (b : Bool). if b || not (has_unprocessed (committed c)) then 0 else length (filter (λ x. is_confirmed c.marks x.switch) (due_of kinds setup c))) told
          ∙ ap (λ (b : Bool). if not b then 0 else length (filter (λ x. is_confirmed c.marks x.switch) (due_of kinds setup c))) there in
          let after = ap (λ (b : Bool). if b || not (has_unprocessed (committed c)) then 0 else length (filter (λ x. is_confirmed now_confirmed.marks x.switch) (due_of kinds setup c))) told
          ∙ ap (λ (b : Bool). if not b then 0 else length (filter (λ x. is_confirmed now_confirmed.marks x.switch) (due_of kinds setup c))) there in
          let h = few in
          omega (arith, before, after, h)
      | inr none ↦
          let before = ap (λ (b : Bool). if b || not (has_unprocessed (committed c)) then 0 else length (filter (λ x. is_confirmed c.marks x.switch) (due_of kinds setup c))) told
          ∙ ap (λ (b : Bool). if not b then 0 else length (filter (λ x. is_confirmed c.marks x.switch) (due_of kinds setup c))) none in
          let h = none_due none in
          omega (arith, before, h)
    ]

    pub master_lowers : Lowers (on_master kinds setup d s) 1
    master_lowers place early =
        let said = commands_worth quorum c.vr.me kinds setup now_confirmed its in
        let more = sent_more in
        whole_falls kinds setup quorum c.vr.me f sw c now_confirmed (commands_for kinds setup now_confirmed s) 0 1 place (omega (arith, said, more)) (prefix_refl (committed c)) p.one early
        (let kept = same_left setup f sw c now_confirmed refl refl in omega (arith, kept))

  -- ---- a result comes

  marked_confirmed : (s life number : ℕ) → (with_marked_result kinds setup (committed c) c.marks s life number).confirmed ≡ c.marks.confirmed
  marked_confirmed s life number =
      cond_both (is_pending kinds setup (committed c) s life number) (with_mark c.marks s life number) c.marks (λ (m : Marks). m.confirmed ≡ c.marks.confirmed)
      (λ _. cond_both (has_result c.marks s life number) c.marks _ (λ (m : Marks). m.confirmed ≡ c.marks.confirmed) (λ _. refl) (λ _. refl)) (λ _. refl)

  pub result_lowers : (s life number : ℕ) → Lowers (on_result kinds setup d s life number) 1
  result_lowers s life number =
      cond_both (is_pending kinds setup (committed c) s life number) (after_finishing kinds setup (resting now)) (resting d) (λ (y : Work). Lowers y 1)
      (λ _. lowers_still now refl sent (after_finishing kinds setup (resting now)) 1
      (finished_descends kinds setup quorum c.vr.me f c.vr.controllers enough (resting now) (ready now refl)) (omega arith))
      (λ _. lowers_rest 1 (omega arith))
    where
      now : ControllerState
      now = record d { marks = with_marked_result kinds setup (committed c) c.marks s life number }

      sent : commands_sent kinds setup now ≡ commands_sent kinds setup c
      sent = ap (λ (ns : List ℕ). if is_untold c || not (has_unprocessed (committed c)) then 0
          else length (filter (λ x. list_any (λ k. nat_eq k x.switch) ns) (due_of kinds setup c))) (marked_confirmed s life number)

  -- ---- an event comes

  -- it is proposed
  module _ (e : Event) where
    abbrev next : Work
    next = after_proposal kinds setup (resting d) (Received e)

    fall : Falls kinds setup quorum c.vr.me f d (pushed d (Received e) d.vr.commit) (proposal d (Received e)) (4 * f + 1)
    fall = received_falls kinds setup quorum c.vr.me f c.vr.controllers enough d refl refl p.commit e

    logged_descends : is_past_limits c.vr.log (Received e) ≡ false → Descends' (resting d) (proposing kinds setup d (Received e)) (e ∷ []) (4 * f + 1)
    logged_descends short = by_alone (is_past_limits c.vr.log (Received e)) short (is_alone c)
      where
        first : Descends' (resting d) next (e ∷ []) (4 * f + 1)
        first = short_descends kinds setup quorum c.vr.me f c.vr.controllers enough (resting d) (Received e) (4 * f + 1) (ready d refl) fall short (inl (refl, refl))

        by_alone : (x : Bool) → x ≡ false → (a : Bool) → Descends' (resting d) (if not x && a then after_finishing kinds setup next else next) (e ∷ []) (4 * f + 1)
        by_alone true fine a = absurd (true≢false fine)
        by_alone false fine true =
            descends_on kinds setup quorum c.vr.me f c.vr.controllers enough (resting d) next (after_finishing kinds setup next) (e ∷ []) (4 * f + 1) first
            (finished_descends kinds setup quorum c.vr.me f c.vr.controllers enough next
            (short_ready kinds setup quorum c.vr.me f c.vr.controllers enough (resting d) (Received e) (4 * f + 1) (ready d refl) fall short first))
        by_alone false fine false = first

    full_descends : is_past_limits c.vr.log (Received e) ≡ true → Descends' (resting d) (proposing kinds setup d (Received e)) [] 0
    full_descends past = by_limits (is_past_limits c.vr.log (Received e)) past
      where
        by_limits : (x : Bool) → x ≡ true → Descends' (resting d) (if not x && is_alone c then after_finishing kinds setup next else next) [] 0
        by_limits true is = past_descends kinds setup quorum c.vr.me f c.vr.controllers enough (resting d) (Received e) past
        by_limits false is = absurd (true≢false (sym is))

    module _ (s : ℕ) (there : s < length setup.ports) (own : e.switch ≡ s) (its_life : e.life ≡ life_of (sw s)) where
      proposing_lowers : logged_of (proposing kinds setup d (Received e)).state s (sw s) ≤ next_number (sw s).buffer → Lowers (proposing kinds setup d (Received e)) 2
      proposing_lowers within = elim (cases_Bool (is_past_limits c.vr.log (Received e))) [
        | inl past ↦ lowers_still d refl refl (proposing kinds setup d (Received e)) 2 (full_descends past) (omega arith)
        | inr short ↦
            let q = logged_descends short in
            let less = logged_left setup f sw c (proposing kinds setup d (Received e)).state q.view_is e q.events s there own its_life within in
            lowers_by d refl refl (proposing kinds setup d (Received e)) (e ∷ []) (4 * f + 1) 2 q (omega (arith, less))
      ]

      abbrev through_letter : ℕ → Letter ControllerSays
      through_letter through = ack_letter (record { switch = e.switch; life = e.life; through = through })

      acknowledged_lowers : (through : ℕ) → Lowers (posting_work (resting d) (through_letter through ∷ [])) 2
      acknowledged_lowers through place early =
          let said = acks_worth quorum c.vr.me (record { switch = e.switch; life = e.life; through = through } ∷ []) in
          whole_falls kinds setup quorum c.vr.me f sw c d (through_letter through ∷ []) 1 2 place (omega (arith, said)) (prefix_refl (committed c)) p.one early
          (let kept = same_left setup f sw c d refl refl in omega (arith, kept))

      pub wish_lowers : (w : EventAction) → logged_of (on_wish kinds setup d e w).state s (sw s) ≤ next_number (sw s).buffer → Lowers (on_wish kinds setup d e w) 2
      wish_lowers Propose within = proposing_lowers within
      wish_lowers (Acknowledge through) within = acknowledged_lowers through
      wish_lowers Nothing within = lowers_rest 2 (omega arith)

  -- ---- a member acknowledges

  module _ (from op : ℕ) where
    abbrev w : VrState
    w = marked c.vr from op

    abbrev mid : Work
    mid = stepped d (quiet w)

    low : c.vr.commit ≤ w.commit
    low = agreed_no_less c.vr from op

    high : w.commit ≤ length c.vr.log
    high = agreed_within c.vr from op p.commit

    front : IsPrefix (committed c) (committed mid.state)
    front = takes_prefix c.vr.commit w.commit c.vr.log low

    one : is_log (committed mid.state) ≡ true
    one = log_prefix (front_prefix w.commit c.vr.log) p.one

    most : processed (committed mid.state) ≤ processed (committed c) + 1
    most = let a = p.ahead in let b = processed_prefix (front_prefix w.commit c.vr.log) in omega (arith, a, b)

    mid_ready : IsReady' mid.state
    mid_ready = record {
      mine = refl;
      size = refl;
      within = high;
      whole = λ h. let all = whole (eqb-true (most_failures w) 0 h) in let up = low in let top = high in omega (arith, all, up, top);
    }

    pub agreed_lowers : Lowers (settling kinds setup c.vr.commit mid) 1
    agreed_lowers =
        lowers_still d refl refl (settling kinds setup c.vr.commit mid) 1
        (settling_descends kinds setup quorum c.vr.me f c.vr.controllers enough d mid refl refl refl refl refl refl front one most c.vr.commit (sym (length-take-le c.vr.commit c.vr.log p.commit)) mid_ready) (omega arith)

    pub counted_lowers : w.commit ≡ c.vr.commit → Lowers mid 1
    counted_lowers same =
        lowers_still d refl refl mid 1
        (silent_descends kinds setup quorum c.vr.me f c.vr.controllers enough d mid refl refl refl refl refl refl front one most (ap (λ (n : ℕ). processed (take n c.vr.log)) same)) (omega arith)
