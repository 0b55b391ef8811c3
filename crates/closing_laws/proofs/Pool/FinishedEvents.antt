-- While a closing is drained an event stands as processed past what is committed only where it did so as the view started, or where
-- none of its commands wants a result; and the events that came since are of the present lives of their switches.
use Rattle.std.proofs.Common.{◌≡◌, ◌≤◌, ◌<◌, ◌⊎◌, inl, inr, ℕ, zero, suc, ◌+◌, ◌%◌, Bool, true, false, List, [], ◌∷◌, ◌++◌, length, take, drop, refl, sym, ◌∙◌, ap, subst, arith, length-append}
use Rattle.std.specs.Prelude.{nat_eq, nat_le, not, ◌&&◌, Option, Some, if◌then◌else◌}
use Rattle.std.proofs.lemmas.Bool.{and_parts, cond_both, eqb-false, eqb-true, ltb-true, true≢false}
use Rattle.std.proofs.lemmas.List.{drop-append-le, drop_all, nil_from_length}
use Rattle.list_facts.specs.Lists.{IsIn, IsPrefix}
use Rattle.list_facts.proofs.Elements.{in_append}
use Rattle.list_facts.proofs.Prefixes.{front_prefix, prefix_refl, takes_prefix}
use Rattle.of_types.specs.declared.message.Event.{Event}
use Rattle.of_types.specs.declared.message.Happening.{Happening}
use Rattle.of_types.specs.declared.setup.Setup.{Setup}
use Rattle.journal.specs.declared.journal.Actor.TheVariants as actor
use Rattle.vr_log.specs.declared.entry.Entry.{Entry}
use Rattle.vr_log.specs.declared.entry.Entry.TheVariants.{Received}
use Rattle.vr_log.specs.declared.state.VrState.{VrState}
use Rattle.vr_log.specs.Log.{is_log, is_past_limits, is_processed, processed, received}
use Rattle.vr_log.specs.Members.{most_failures}
use Rattle.vr_log.specs.Steps.{quiet}
use Rattle.vr_log.proofs.Logs.{received-append}
use Rattle.controller_moves.proofs.ControllerLaws.Logs.{processed-append, processed_prefix}
use Rattle.dispatcher.specs.declared.answers.EventAction.{EventAction}
use Rattle.dispatcher.specs.declared.answers.EventAction.TheVariants.{Propose, Acknowledge, Nothing}
use Rattle.dispatcher.specs.Marks.{Marks, confirmed_by, has_result, is_finished, is_pending, no_marks, outstanding, wanted, with_mark, with_marked_result}
use Rattle.two_stage_log.specs.Counts.{has_unprocessed}
use Rattle.of_switch.specs.State.{SwitchState, life_of}
use Rattle.group_controller.specs.State.{ControllerState, Work, committed, leaving, met_limit, resting, stepped, with_no_met_limit}
use Rattle.group_controller.specs.Settling.{after_finishing, after_proposal, command_letters, finishing, goes_on, is_alone, is_settled, is_untold, processing, proposing, settling, with_answers, with_commands}
use Rattle.group_controller.specs.Rules.{controller_work, on_wish}
use Rattle.closing_laws.specs.Following.{Start}
use Rattle.closing_laws.specs.Quorum.{has}
use Rattle.closing_laws.specs.Serving.{AreFew, IsOlder}
use Rattle.closing_laws.specs.Views.{IsCovered, IsReadyMember}
use Rattle.closing_laws.specs.Ways.{Sent}
use Rattle.closing_laws.proofs.Draining.Drained.{heard_of}
use Rattle.closing_laws.proofs.Draining.Followers.{started_within}
use Rattle.closing_laws.proofs.Draining.OpeningTurn as opening_turn
use Rattle.closing_laws.proofs.Draining.TurnCases as turn_cases
use Rattle.closing_laws.proofs.Draining.TurnCases.{OfTurns}
use Rattle.closing_laws.proofs.Lists.Picked.{IsPicked}
use Rattle.closing_laws.proofs.Pool.Rooms.{AreTrue, Drains, HasFinished, IsHeard, Keeps, NothingBeside, turn_on}
use Rattle.closing_laws.proofs.Pool.SwitchPosts.{turn_lives}
use Rattle.closing_laws.proofs.Pool.TurnPosts.{switch_turns}
use Rattle.closing_laws.proofs.Primary.Agreed.{agreed_no_less, agreed_within, marked}
use Rattle.closing_laws.proofs.Primary.Growth.{log_prefix}
use Rattle.closing_laws.proofs.Primary.Proposing.{committed_same, proposed_as, pushed, pushed_all}
use Rattle.closing_laws.proofs.Primary.Resulted.{mark_kept}
use Rattle.closing_laws.proofs.Primary.WantedCommands.{none_wanted}

module _ (kinds : List ℕ) (setup : Setup) (start : Start) (life : ℕ → ℕ) where
  -- what holds of the primary in a turn
  pub record Finishes (v : VrState) (marks : Marks) : Type 0 where
    pub finished : processed (take v.commit v.log) < processed v.log → (processed (take v.commit v.log) < processed start.log) ⊎ (wanted kinds setup (take v.commit v.log) marks ≡ [])
    pub present : (e : Event) → IsIn e (received (drop (length start.log) v.log)) → e.life ≡ life e.switch
    pub within : v.commit ≤ length v.log
    pub whole : most_failures v ≡ 0 → v.commit ≡ length v.log
    pub long : length start.log ≤ length v.log

  abbrev pub WorkFinishes : Work → Type 0
  WorkFinishes work = Finishes work.state.vr work.state.marks

  -- an entry joins the log
  module _ (c : ControllerState) (entry : Entry) (f : Finishes c.vr c.marks) (own : (e : Event) → IsIn e (received (entry ∷ [])) → e.life ≡ life e.switch) where
    longer : length (c.vr.log ++ entry ∷ []) ≡ length c.vr.log + 1
    longer = length-append c.vr.log (entry ∷ [])

    present_now : (e : Event) → IsIn e (received (drop (length start.log) (c.vr.log ++ entry ∷ []))) → e.life ≡ life e.switch
    present_now e among =
        let behind = ap received (drop-append-le (length start.log) c.vr.log (entry ∷ []) f.long) ∙ received-append (drop (length start.log) c.vr.log) (entry ∷ []) in
        elim (in_append e (received (drop (length start.log) c.vr.log)) (received (entry ∷ [])) (subst (λ (l : List Event). IsIn e l) behind among)) [
          | inl old ↦ f.present e old
          | inr new ↦ own e new
        ]

    -- in a group of several
    told_finishes : is_alone c ≡ false → (is_processed entry ≡ true → wanted kinds setup (committed c) c.marks ≡ []) → Finishes (pushed c entry c.vr.commit).vr c.marks
    told_finishes several done =
        let more = longer in
        let same = committed_same c entry f.within in
        let inside = f.within in
        let low = f.long in
        record {
          finished = λ h.
              subst (λ (K : List Entry). (processed K < processed start.log) ⊎ (wanted kinds setup K c.marks ≡ [])) (sym same)
              (by_kind (is_processed entry) refl (subst (λ (K : List Entry). processed K < processed (c.vr.log ++ entry ∷ [])) same h));
          present = present_now;
          within = omega (arith, more, inside);
          whole = λ none. absurd (eqb-false (most_failures c.vr) 0 several none);
          long = omega (arith, more, low);
        }
      where
        by_kind : (b : Bool) → is_processed entry ≡ b → processed (committed c) < processed (c.vr.log ++ entry ∷ []) →
            (processed (committed c) < processed start.log) ⊎ (wanted kinds setup (committed c) c.marks ≡ [])
        by_kind true is h = inr (done is)
        by_kind false is h =
            let parts = processed-append c.vr.log (entry ∷ []) in
            let one = ap {B = ℕ} (λ (b : Bool). if b then 1 else 0) is in
            f.finished (omega (arith, h, parts, one))

    -- alone it is committed at once
    alone_finishes : Finishes (pushed c entry (length c.vr.log + 1)).vr c.marks
    alone_finishes =
        let more = longer in
        let low = f.long in
        record {
          finished = λ h. absurd (let all = ap processed (pushed_all c entry) in omega (arith, h, all));
          present = present_now;
          within = omega (arith, more);
          whole = λ none. sym more;
          long = omega (arith, more, low);
        }

  pub commands_finishes : (work : Work) → WorkFinishes work → WorkFinishes (with_commands kinds setup work)
  commands_finishes work f = by_untold (is_untold work.state)
    where
      by_untold : (b : Bool) → WorkFinishes (if b then record {
        state = record work.state { last_told = Some (processed (committed work.state)) };
        save = work.save;
        letters = work.letters ++ command_letters kinds setup work.state (outstanding kinds setup (committed work.state) work.state.marks);
      } else work)
      by_untold true = f
      by_untold false = f

  pub proposal_finishes : (work : Work) (entry : Entry) → WorkFinishes work → ((e : Event) → IsIn e (received (entry ∷ [])) → e.life ≡ life e.switch) →
      (is_processed entry ≡ true → wanted kinds setup (committed work.state) work.state.marks ≡ []) → WorkFinishes (after_proposal kinds setup work entry)
  proposal_finishes work entry f own done = by_limits (is_past_limits work.state.vr.log entry) (is_alone work.state) refl
    where
      by_limits : (p a : Bool) → is_alone work.state ≡ a →
          WorkFinishes (if p then leaving work (met_limit work.state entry)
          else if a then with_commands kinds setup (with_answers kinds setup work.state.vr.commit (proposed_as a work entry)) else proposed_as a work entry)
      by_limits true a is = f
      by_limits false true is = commands_finishes (with_answers kinds setup work.state.vr.commit (proposed_as true work entry)) (alone_finishes work.state entry f own)
      by_limits false false is = told_finishes work.state entry f own is done

  -- none of its commands wants a result
  pub none_due : (c : ControllerState) → is_settled kinds setup c ≡ true → wanted kinds setup (committed c) c.marks ≡ []
  none_due c is =
      let parts = and_parts (is_finished kinds setup (committed c) c.marks) (nat_le (processed c.vr.log) (processed (committed c))) is in
      let none = (and_parts (has_unprocessed (committed c)) (nat_eq (length (wanted kinds setup (committed c) c.marks)) 0) parts.0).1 in
      nil_from_length (wanted kinds setup (committed c) c.marks) (eqb-true (length (wanted kinds setup (committed c) c.marks)) 0 none)

  finishing_finishes : (m : ℕ) (work : Work) → WorkFinishes work → WorkFinishes (finishing m kinds setup work)
  unfolding finishing
  finishing_finishes zero work f = f
  finishing_finishes (suc m) work f = by_cases (finishing_finishes m next) (is_settled kinds setup work.state) refl (not (is_past_limits work.state.vr.log (processing work.state)) && is_alone work.state)
    where
      next : Work
      next = after_proposal kinds setup work (processing work.state)

      by_cases : (WorkFinishes next → WorkFinishes (finishing m kinds setup next)) → (x : Bool) → is_settled kinds setup work.state ≡ x → (g : Bool) →
          WorkFinishes (if not x then work else if g then finishing m kinds setup next else next)
      by_cases deeper false is g = f
      by_cases deeper true is true = deeper (proposal_finishes work (processing work.state) f (λ e none. absurd none) (λ _. none_due work.state is))
      by_cases deeper true is false = proposal_finishes work (processing work.state) f (λ e none. absurd none) (λ _. none_due work.state is)

  pub after_finishes : (work : Work) → WorkFinishes work → WorkFinishes (after_finishing kinds setup work)
  after_finishes work f = finishing_finishes (length (received work.state.vr.log)) work f

  pub settling_finishes : (before : ℕ) (work : Work) → WorkFinishes work → WorkFinishes (settling kinds setup before work)
  unfolding settling
  settling_finishes before work f =
      let answered = with_answers kinds setup before work in
      after_finishes (with_commands kinds setup answered) (commands_finishes answered f)

  pub received_finishes : (c : ControllerState) (e : Event) → e.life ≡ life e.switch → Finishes c.vr c.marks → WorkFinishes (after_proposal kinds setup (resting c) (Received e))
  received_finishes c e own f = proposal_finishes (resting c) (Received e) f (λ x among. elim among [
    | inl is ↦ ap (λ (y : Event). y.life) is ∙ own ∙ sym (ap (λ (y : Event). life y.switch) is)
    | inr none ↦ absurd none
  ]) (λ is. absurd (true≢false (sym is)))

  proposing_finishes : (c : ControllerState) (e : Event) → e.life ≡ life e.switch → Finishes c.vr c.marks → WorkFinishes (proposing kinds setup c (Received e))
  proposing_finishes c e own f = by_alone (goes_on c (Received e))
    where
      next : Work
      next = after_proposal kinds setup (resting c) (Received e)

      by_alone : (b : Bool) → WorkFinishes (if b then after_finishing kinds setup next else next)
      by_alone true = after_finishes next (received_finishes c e own f)
      by_alone false = received_finishes c e own f

  -- more is committed
  module _ (v w : VrState) (marks : Marks) (f : Finishes v marks) (log : w.log ≡ v.log) (low : v.commit ≤ w.commit) (high : w.commit ≤ length w.log) (one : is_log v.log ≡ true)
      (ahead : processed v.log ≤ processed (take v.commit v.log) + 1) (unfinished : processed (take v.commit v.log) < processed v.log → has_unprocessed (take v.commit v.log) ≡ true)
      (all : most_failures w ≡ 0 → w.commit ≡ length w.log) where
    front : IsPrefix (take v.commit v.log) (take w.commit w.log)
    front = subst (λ (l : List Entry). IsPrefix (take v.commit v.log) (take w.commit l)) (sym log) (takes_prefix v.commit w.commit v.log low)

    finished_now : processed (take w.commit w.log) < processed w.log → (processed (take w.commit w.log) < processed start.log) ⊎ (wanted kinds setup (take w.commit w.log) marks ≡ [])
    finished_now h =
        let grows = processed_prefix front in
        let still = ap processed log in
        let same : processed (take w.commit w.log) ≡ processed (take v.commit v.log) = omega (arith, h, grows, still, ahead) in
        let less : processed (take v.commit v.log) < processed v.log = omega (arith, h, same, still) in
        elim (f.finished less) [
          | inl early ↦ inl (omega (arith, early, same))
          | inr none ↦ inr (none_wanted kinds setup marks marks front (log_prefix (front_prefix w.commit w.log) (ap is_log log ∙ one)) same
              (ltb-true (processed (take v.commit v.log)) (length (received (take v.commit v.log))) (unfinished less)) (λ s l i is. is) none)
        ]

    pub agreed_finishes : Finishes w marks
    agreed_finishes =
        let far = f.long in
        let same = ap (λ (l : List Entry). length l) log in
        record {
          finished = finished_now;
          present = λ e among. f.present e (subst (λ (l : List Entry). IsIn e (received (drop (length start.log) l))) log among);
          within = high;
          whole = all;
          long = omega (arith, far, same);
        }

  -- a result comes
  pub marked_finishes : (v : VrState) (marks now : Marks) → is_log v.log ≡ true → (processed (take v.commit v.log) < processed v.log → has_unprocessed (take v.commit v.log) ≡ true) →
      ((s l i : ℕ) → has_result marks s l i ≡ true → has_result now s l i ≡ true) → Finishes v marks → Finishes v now
  marked_finishes v marks now one unfinished kept f = record {
    finished = λ h. elim (f.finished h) [
      | inl early ↦ inl early
      | inr none ↦ inr (none_wanted kinds setup marks now (prefix_refl (take v.commit v.log)) (log_prefix (front_prefix v.commit v.log) one) refl
          (ltb-true (processed (take v.commit v.log)) (length (received (take v.commit v.log))) (unfinished h)) kept none)
    ];
    present = f.present;
    within = f.within;
    whole = f.whole;
    long = f.long;
  }

-- as results do
pub result_kept : (kinds : List ℕ) (setup : Setup) (log : List Entry) (marks : Marks) (switch life number s l i : ℕ) → has_result marks s l i ≡ true →
    has_result (with_marked_result kinds setup log marks switch life number) s l i ≡ true
result_kept kinds setup log marks switch life number s l i h =
    cond_both (is_pending kinds setup log switch life number) (with_mark marks switch life number) marks (λ (m : Marks). has_result m s l i ≡ true) (λ _. mark_kept marks switch life number s l i h) (λ _. h)

module _ (kinds : List ℕ) (setup : Setup) (few : AreFew kinds setup) (w p : ℕ) (quorum : List ℕ) (start : Start) (picked : IsPicked setup.controllers w quorum) (inside : has quorum p ≡ true)
    (leader : p ≡ w % setup.controllers) (small : (b : ℕ) → has quorum b ≡ true → b < setup.controllers) where
  module _ (c : ControllerState) (members : ℕ → VrState) (switches : ℕ → SwitchState) (m : Sent) (rest : List Sent) (d : Drains kinds setup w p quorum start c members switches (m ∷ rest))
      (to : m.to ≡ actor.Controller p) (truths : AreTrue kinds setup c switches) (before : HasFinished kinds setup w p quorum start c switches) where
    abbrev life : ℕ → ℕ
    life s = life_of (switches s)

    abbrev IsNow : Work → Type 0
    IsNow work = WorkFinishes kinds setup start life work

    pub finishes_now : Finishes kinds setup start life c.vr c.marks
    finishes_now = record {
      finished = before.finished;
      present = before.present;
      within = truths.primary.commit;
      whole = turn_cases.whole kinds setup few w p quorum start picked inside leader small c members switches m rest d to truths.each truths.primary;
      long = started_within start c.vr d.primary.lead;
    }

    abbrev begun : ControllerState
    begun = with_no_met_limit c

    of_turns : OfTurns kinds setup few w p quorum start picked inside leader small c members switches m rest d to truths.each truths.primary IsNow
    of_turns = record {
      reply = λ k xid there from is none. now_confirmed k;
      event = λ k xid number what there from is. by_wish k number what _;
      result = λ k xid number result there from is.
          cond_both (is_pending kinds setup (committed c) k (life k) number)
          (after_finishing kinds setup (resting (record begun { marks = with_marked_result kinds setup (committed c) c.marks k (life k) number }))) (resting begun)
          (λ (y : Work). IsNow y)
          (λ _. after_finishes kinds setup start life (resting (record begun { marks = with_marked_result kinds setup (committed c) c.marks k (life k) number }))
          (marked_finishes kinds setup start life c.vr c.marks (with_marked_result kinds setup (committed c) c.marks k (life k) number) truths.primary.one truths.primary.unfinished
          (result_kept kinds setup (committed c) c.marks k (life k) number) finishes_now))
          (λ _. finishes_now);
      agreed = λ b op from chosen apart is several more. settling_finishes kinds setup start life c.vr.commit (stepped begun (quiet (marked c.vr b op))) (counts b op (λ none. absurd (omega (arith, several, none))));
      counted = λ b op from chosen apart is same. counts b op (λ none. same ∙ finishes_now.whole none);
    }
      where
        now_confirmed : (k : ℕ) → Finishes kinds setup start life c.vr (confirmed_by c.marks k)
        now_confirmed k = record { finished = before.finished; present = before.present; within = finishes_now.within; whole = finishes_now.whole; long = finishes_now.long }

        by_wish : (k number : ℕ) (what : Happening) (wish : EventAction) → IsNow (on_wish kinds setup begun (record { switch = k; life = life k; number = number; what = what }) wish)
        by_wish k number what Propose = proposing_finishes kinds setup start life begun (record { switch = k; life = life k; number = number; what = what }) refl finishes_now
        by_wish k number what (Acknowledge through) = finishes_now
        by_wish k number what Nothing = finishes_now

        counts : (b op : ℕ) → (most_failures c.vr ≡ 0 → (marked c.vr b op).commit ≡ length c.vr.log) → Finishes kinds setup start life (marked c.vr b op) c.marks
        counts b op all =
            agreed_finishes kinds setup start life c.vr (marked c.vr b op) c.marks finishes_now refl (agreed_no_less c.vr b op) (agreed_within c.vr b op truths.primary.commit) truths.primary.one truths.primary.ahead
            truths.primary.unfinished all

    finishes_turn : IsHeard setup p quorum m → HasFinished kinds setup w p quorum start (controller_work kinds setup c (heard_of m)).state switches
    finishes_turn heard =
        let f = turn_cases.each_turn kinds setup few w p quorum start picked inside leader small c members switches m rest d to truths.each truths.primary IsNow of_turns heard in
        record { finished = f.finished; present = f.present }

  -- it is kept
  pub finished_keeps : Keeps kinds setup w p quorum start NothingBeside (λ c members switches waiting. HasFinished kinds setup w p quorum start c switches)
  finished_keeps = record {
    lost = λ c members switches m rest d lost _ _ h. h;
    member = λ c members switches m rest b x d from to chosen other is d' _ _ h. h;
    primary = λ c members switches m rest d to heard truths now_truths full d' _ _ h. finishes_turn c members switches m rest d to truths h heard;
    switch = λ c members switches m rest s there d from to truths now_truths d' _ _ h.
        let same = turn_lives c.vr.me c.vr.view switches s m.said (turn_on (switches s) m)
        (switch_turns kinds setup few w p quorum start picked inside leader small c members switches m rest d s there from to truths) in
        record { finished = h.finished; present = λ e among. h.present e among ∙ sym (same e.switch) };
  }

-- so it is as the view starts
module _ (kinds : List ℕ) (setup : Setup) (few : AreFew kinds setup) (w : ℕ) (quorum : List ℕ) (at : ℕ → VrState) (best : ℕ) (picked : IsPicked setup.controllers w quorum)
    (small : (b : ℕ) → has quorum b ≡ true → b < setup.controllers) (ready : (j : ℕ) → has quorum j ≡ true → IsReadyMember setup.controllers w j (at j))
    (covered : IsCovered quorum at best) (chosen : has quorum best ≡ true)
    (voters : ℕ → List ℕ) (promise : Option ℕ) (sw : ℕ → SwitchState) (older : (t : ℕ) → t < length setup.ports → IsOlder (sw t).fence.generation w) where
  abbrev leader : VrState
  leader = opening_turn.leader kinds setup few w quorum at best picked small ready covered chosen voters promise sw older

  abbrev first : Start
  first = opening_turn.start kinds setup few w quorum at best picked small ready covered chosen voters promise sw older

  pub opened_finishes : Finishes kinds setup first (λ s. life_of (sw s)) leader no_marks
  opened_finishes = record {
    finished = λ h. inl h;
    present = λ e among. absurd (subst (λ (l : List Entry). IsIn e (received l)) (drop_all (length leader.log) leader.log (omega arith)) among);
    within = opening_turn.within kinds setup few w quorum at best picked small ready covered chosen voters promise sw older;
    whole = opening_turn.whole kinds setup few w quorum at best picked small ready covered chosen voters promise sw older;
    long = omega arith;
  }

  abbrev end : Work
  end = opening_turn.end kinds setup few w quorum at best picked small ready covered chosen voters promise sw older

  end_finishes : WorkFinishes kinds setup first (λ s. life_of (sw s)) end
  end_finishes = settling_finishes kinds setup first (λ s. life_of (sw s)) leader.commit (opening_turn.asking kinds setup few w quorum at best picked small ready covered chosen voters promise sw older) opened_finishes

  pub starts_finished : HasFinished kinds setup w (w % setup.controllers) quorum first end.state sw
  starts_finished = let f = end_finishes in record { finished = f.finished; present = f.present }
