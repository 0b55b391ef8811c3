-- The turn in which an event of a switch comes to the primary.
use Rattle.std.proofs.Common.{◌≡◌, ◌≤◌, ◌<◌, inl, inr, ℕ, ◌+◌, Bool, true, false, List, [], ◌∷◌, ◌++◌, length, take, refl, sym, ◌∙◌, ap, subst, arith, append-nil}
use Rattle.std.specs.Prelude.{nat_eq, nat_lt, nat_le, not, ◌&&◌, None, if◌then◌else◌}
use Rattle.std.proofs.lemmas.Bool.{cases_eq, cases_lt, cases_order, eq-eqb, ltb-false}
use Rattle.std.proofs.lemmas.List.Sums.{sum_by-append}
use Rattle.list_facts.proofs.Prefixes.{prefix_refl}
use Rattle.of_types.specs.declared.message.Event.{Event}
use Rattle.of_types.specs.declared.message.Extension.TheVariants as extension
use Rattle.of_types.specs.declared.message.Happening.{Happening}
use Rattle.of_types.specs.declared.message.Spoken.TheVariants as spoken
use Rattle.of_types.specs.declared.setup.Setup.{Setup}
use Rattle.of_types.specs.Lives.{count_in, life_in}
use Rattle.of_types.proofs.Counts.{count_there}
use Rattle.vr_log.specs.declared.entry.Entry.{Entry}
use Rattle.vr_log.specs.declared.entry.Entry.TheVariants.{Received}
use Rattle.vr_log.specs.declared.state.VrState.{VrState}
use Rattle.vr_log.specs.Log.{is_past_limits, is_processed, may_be_received, processed, received}
use Rattle.vr_log.specs.Members.{most_failures}
use Rattle.vr_log.proofs.Logs.{received-append}
use Rattle.dispatcher.specs.declared.answers.AckThrough.{AckThrough}
use Rattle.dispatcher.specs.declared.answers.EventAction.{EventAction}
use Rattle.dispatcher.specs.declared.answers.EventAction.TheVariants.{Propose, Acknowledge, Nothing}
use Rattle.dispatcher.specs.Folding.{is_done, wish}
use Rattle.dispatcher.specs.Marks.{Marks, is_finished}
use Rattle.of_switch.specs.State.{SwitchState, life_of}
use Rattle.group_controller.specs.declared.messages.ControllerInput.TheVariants as controller_input
use Rattle.group_controller.specs.State.{ControllerState, Work, committed, posting_work, resting, with_no_met_limit}
use Rattle.group_controller.specs.Rules.{controller_work, on_wish}
use Rattle.group_controller.specs.Settling.{ack_letter, after_finishing, after_proposal, is_alone, is_settled, proposing}
use Rattle.run_spec.specs.declared.messages.Message.{Message}
use Rattle.closing_laws.specs.Serving.{AreFew, IsAttended, IsSettled, IsTrueOf, IsTruePrimary, acknowledges_events, events_said, logged_of, processed_by}
use Rattle.closing_laws.proofs.Primary.Coming.{may_come, may_not}
use Rattle.closing_laws.proofs.Primary.Extending.{extends_none}
use Rattle.closing_laws.proofs.Primary.Finishing.{AreBoundedTo, Finished, Grows, finishing_grows, grows_committed, limit_told, proposal_grows, proposal_is}
use Rattle.closing_laws.proofs.Primary.Growth.{log_pushed}
use Rattle.closing_laws.proofs.Primary.Heard.{asked, event_of, event_taken, processed_same, settled_same, tells_event, told_again, told_logged, told_nothing, told_same, with_log}
use Rattle.closing_laws.proofs.Primary.Hearing.{leader_input}
use Rattle.closing_laws.proofs.Primary.Holding.{answered}
use Rattle.closing_laws.proofs.Primary.Proposing.{Progress, Standing, committed_same, progress_then, proposal_step, pushed}
use Rattle.closing_laws.proofs.Primary.Settled.{AreBounded, AreServed, AreToSwitches}
use Rattle.closing_laws.proofs.Primary.Telling.{AreQuiet, quiet_acks, quiet_nil, told}
use Rattle.closing_laws.proofs.Primary.Turned.{HasTurned, IsSound, after_finished, bounded_to, sound_of, stands, turned}

-- what is left to propose depends on what is committed, on the marks, and on what is proposed
pub settled_as : (kinds : List ℕ) (setup : Setup) (c c' : ControllerState) → committed c' ≡ committed c → c'.marks ≡ c.marks → processed c'.vr.log ≡ processed c.vr.log → is_settled kinds setup c' ≡ is_settled kinds setup c
settled_as kinds setup c c' same marks count =
    ap (λ (K : List Entry). is_finished kinds setup K c'.marks && nat_le (processed c'.vr.log) (processed K)) same
    ∙ ap (λ (m : Marks). is_finished kinds setup (committed c) m && nat_le (processed c'.vr.log) (processed (committed c))) marks
    ∙ ap (λ (n : ℕ). is_finished kinds setup (committed c) c.marks && nat_le n (processed (committed c))) count

module _ (kinds : List ℕ) (setup : Setup) (few : AreFew kinds setup) (sw : ℕ → SwitchState) (in_ in' out : ℕ → List Message) (c : ControllerState) (p : IsTruePrimary c)
    (whole : most_failures c.vr ≡ 0 → c.vr.commit ≡ length c.vr.log) (settled : IsSettled kinds setup c) (true_of : (t : ℕ) → t < length setup.ports → IsTrueOf kinds setup c t (sw t))
    (served : AreServed kinds setup sw in_ c out) (s xid number : ℕ) (what : Happening) (there : s < length setup.ports)
    (own : in_ s ≡ tells_event xid (life_of (sw s)) number what ∷ in' s) (others : (t : ℕ) → (t ≡ s → ⊥) → in' t ≡ in_ t) where
  abbrev e : Event
  e = event_of s (life_of (sw s)) number what

  abbrev c1 : ControllerState
  c1 = with_no_met_limit c

  was : IsAttended kinds setup c s (sw s) (out s) (tells_event xid (life_of (sw s)) number what ∷ in' s)
  was = subst (λ (z : List Message). IsAttended kinds setup c s (sw s) (out s) z) own (served s there)

  sound : IsSound c1
  sound = let a = sound_of c p whole in record { one = a.one; commit = a.commit; ahead = a.ahead; unfinished = a.unfinished; whole = a.whole; me = a.me }

  standing : Standing c1
  standing = stands c1 sound settled.told settled.last

  -- a state with this log and as much committed serves the others, where they are told answers
  other_served : (log : List Entry) (letters : List Message) (t : ℕ) → t < length setup.ports → (t ≡ s → ⊥) → take c.vr.commit log ≡ committed c →
      count_in t (life_of (sw t)) (received log) ≡ count_in t (life_of (sw t)) (received c.vr.log) → AreQuiet c.vr.view letters →
      IsAttended kinds setup (with_log c log) t (sw t) (out t ++ letters) (in' t)
  other_served log letters t less other same count quiet =
      subst (λ (z : List Message). IsAttended kinds setup (with_log c log) t (sw t) (out t ++ letters) z) (sym (others t other))
      (answered kinds setup c (with_log c log) t (sw t) (record { view = refl; me = refl; confirmed = refl; marks = λ i. refl; logged = count }) (out t) (in_ t) letters (served t less)
      (inl (processed_same kinds setup c (with_log c log) same refl t (sw t))) (let k = settled_same kinds setup c (with_log c log) same refl t (sw t) in omega (arith, k)) quiet (told_same kinds setup c (with_log c log) same refl t (sw t)))

  each_by : (now : ControllerState) (letters : ℕ → List Message) → IsAttended kinds setup now s (sw s) (out s ++ letters s) (in' s) →
      ((t : ℕ) → t < length setup.ports → (t ≡ s → ⊥) → IsAttended kinds setup now t (sw t) (out t ++ letters t) (in' t)) → AreServed kinds setup sw in' now (λ t. out t ++ letters t)
  each_by now letters own_one rest t less = elim (cases_eq t s) [
    | inl same ↦ subst (λ (k : ℕ). IsAttended kinds setup now k (sw k) (out k ++ letters k) (in' k)) (sym same) own_one
    | inr other ↦ rest t less other
  ]

  same_log : take c.vr.commit (c.vr.log ++ Received e ∷ []) ≡ committed c
  same_log = committed_same c (Received e) p.commit

  -- the event joins the log
  logged_served : logged_of c s (sw s) ≤ number → AreServed kinds setup sw in' (pushed c1 (Received e) c.vr.commit) out
  logged_served late t less =
      subst (λ (z : List Message). IsAttended kinds setup (pushed c1 (Received e) c.vr.commit) t (sw t) z (in' t)) (append-nil (out t))
      (each_by (pushed c1 (Received e) c.vr.commit) (λ k. [])
      (event_taken kinds setup c s (sw s) xid number what (out s) (in' s) was (c.vr.log ++ Received e ∷ []) [] same_log (quiet_nil c.vr.view)
      (told_logged kinds setup c s (sw s) xid number what (out s) (in' s) was (true_of s there) late same_log))
      (λ k below other. other_served (c.vr.log ++ Received e ∷ []) [] k below other same_log
      (ap (count_in k (life_of (sw k))) (received-append c.vr.log (Received e ∷ [])) ∙ count_there k (life_of (sw k)) (received c.vr.log) e (λ x. other (sym x))) (quiet_nil c.vr.view))
      t less)

  count : processed (c.vr.log ++ Received e ∷ []) ≡ processed c.vr.log
  count = let parts = sum_by-append (λ (x : Entry). if is_processed x then 1 else 0) c.vr.log (Received e ∷ []) in omega (arith, parts)

  -- it is proposed
  module _ (late : logged_of c s (sw s) ≤ number) where
    abbrev next : Work
    next = after_proposal kinds setup (resting c1) (Received e)

    may : may_be_received e (received c.vr.log) ≡ true
    may = may_come kinds setup c s (sw s) (true_of s there) e (events_said s (in' s)) (asked kinds setup c s (sw s) xid number what (out s) (in' s) was).1.coming late

    proposed_one : is_past_limits c.vr.log (Received e) ≡ false → AreBounded kinds setup sw in' (committed (after_proposal kinds setup (resting c1) (Received e)).state) →
        Progress kinds setup sw in' out (resting c1) (after_proposal kinds setup (resting c1) (Received e))
    proposed_one short bounds =
        proposal_step kinds setup sw in' few (resting c1) (Received e) out standing (log_pushed c.vr.log (Received e) p.one short may) (logged_served late)
        (let n = count in let a = p.ahead in omega (arith, n, a)) (λ h. p.unfinished (let n = count in omega (arith, n, h))) short bounds

    -- in a group of several nothing more is due
    settled_still : is_past_limits c.vr.log (Received e) ≡ false → is_alone c ≡ false → Progress kinds setup sw in' out (resting c1) next → is_settled kinds setup next.state ≡ false
    settled_still short several r =
        let is = proposal_is kinds setup (resting c1) (Received e) short ∙ ap (λ (a : Bool). (pushed c1 (Received e) (if a then length c.vr.log + 1 else c.vr.commit)).vr) several in
        settled_as kinds setup c next.state (ap (λ (v : VrState). take v.commit v.log) is ∙ same_log) r.marks (ap (λ (v : VrState). processed v.log) is ∙ count) ∙ settled.proposed

    pub proposing_finished : AreBoundedTo kinds setup sw in' (committed (proposing kinds setup c1 (Received e)).state) → (proposing kinds setup c1 (Received e)).state.full ≡ None →
        Finished kinds setup sw in' out (resting c1) (proposing kinds setup c1 (Received e))
    proposing_finished bounds full = by_cases (is_past_limits c.vr.log (Received e)) refl (is_alone c) refl bounds full
      where
        grown : Grows c.vr next.state.vr
        grown = proposal_grows kinds setup (resting c1) (Received e) p.commit

        by_cases : (x : Bool) → is_past_limits c.vr.log (Received e) ≡ x → (a : Bool) → is_alone c ≡ a →
            AreBoundedTo kinds setup sw in' (committed (if not x && a then after_finishing kinds setup next else next).state) → (if not x && a then after_finishing kinds setup next else next).state.full ≡ None →
            Finished kinds setup sw in' out (resting c1) (if not x && a then after_finishing kinds setup next else next)
        by_cases true past a alone bound none = absurd (limit_told kinds setup (resting c1) (Received e) past none)
        by_cases false short true alone bound none =
            let over = finishing_grows kinds setup (length (received next.state.vr.log)) next grown.within in
            let first = proposed_one short (bound (committed next.state) (grows_committed next.state (after_finishing kinds setup next).state over)) in
            let rest = after_finished kinds setup sw in' few next (λ t. out t ++ told t first.letters) first.standing first.served bound none in
            record { progress = progress_then kinds setup sw in' out (resting c1) next (after_finishing kinds setup next) first rest.progress; settled = rest.settled }
        by_cases false short false several bound none =
            let first = proposed_one short (bound (committed next.state) (prefix_refl (committed next.state))) in
            record { progress = first; settled = settled_still short several first }

  abbrev end : Work
  end = controller_work kinds setup c (controller_input.Of s xid (spoken.Ravana (extension.Event (life_of (sw s)) number what)))

  end_is : end ≡ on_wish kinds setup c1 e (wish c.vr.log (committed c) e)
  end_is =
      let leading = p.leads in
      leader_input kinds setup c (controller_input.Of s xid (spoken.Ravana (extension.Event (life_of (sw s)) number what))) leading ∙ rw leading refl

  -- the switch is told so much, and the primary rests
  rests : (work : Work) → work.state ≡ c1 → work.save ≡ None → AreToSwitches work.letters → AreServed kinds setup sw in' c1 (λ t. out t ++ told t work.letters) → HasTurned kinds setup sw in' c out c.marks work
  rests work state save to_switches all = record {
    save = save;
    more = [];
    extends = extends_none c work.state work.letters (ap (λ (x : ControllerState). x.vr) state) to_switches;
    to_others_only = λ b h. to_switches b;
    marks_are = ap (λ (x : ControllerState). x.marks) state;
    settled = subst (λ (x : ControllerState). IsSettled kinds setup x) (sym state) (record { told = settled.told; proposed = settled.proposed; last = settled.last });
    standing = subst (λ (x : ControllerState). Standing x) (sym state) standing;
    served = subst (λ (x : ControllerState). AreServed kinds setup sw in' x (λ t. out t ++ told t work.letters)) (sym state) all;
  }

  module _ (before : number < logged_of c s (sw s)) where
    its_life : life_in s (received c.vr.log) ≡ life_of (sw s)
    its_life = elim (cases_order (life_in s (received c.vr.log)) (life_of (sw s))) [
      | inl same ↦ same
      | inr (inl older) ↦ absurd (let none = (true_of s there).unlogged older in omega (arith, none, before))
      | inr (inr younger) ↦ absurd (let most = (true_of s there).life in omega (arith, most, younger))
    ]

    not_again : may_be_received e (received c.vr.log) ≡ false
    not_again = may_not s (life_of (sw s)) e (received c.vr.log) refl refl its_life before

    wish_is : wish c.vr.log (committed c) e ≡ (if nat_lt number (processed_by c s (sw s)) then Acknowledge (processed_by c s (sw s)) else Nothing)
    wish_is =
        let here : nat_eq (life_of (sw s)) (life_in s (received c.vr.log)) ≡ true = eq-eqb (life_of (sw s)) (life_in s (received c.vr.log)) (sym its_life) in
        ap (λ (b : Bool). if b then Propose else if is_done c.vr.log (committed c) e then Acknowledge (processed_by c s (sw s)) else Nothing) not_again
        ∙ ap (λ (b : Bool). if b && nat_lt number (processed_by c s (sw s)) then Acknowledge (processed_by c s (sw s)) else Nothing) here

    early : HasTurned kinds setup sw in' c out c.marks (on_wish kinds setup c1 e (wish c.vr.log (committed c) e))
    early = subst (λ (w : EventAction). HasTurned kinds setup sw in' c out c.marks (on_wish kinds setup c1 e w)) (sym wish_is) (by_place (nat_lt number (processed_by c s (sw s))) refl)
      where
        by_place : (b : Bool) → nat_lt number (processed_by c s (sw s)) ≡ b →
            HasTurned kinds setup sw in' c out c.marks (on_wish kinds setup c1 e (if b then Acknowledge (processed_by c s (sw s)) else Nothing))
        by_place true less = rests (posting_work (resting c1) (ack_letter through ∷ [])) refl refl (λ b. refl)
            (each_by c1 (λ t. told t (ack_letter through ∷ []))
            (subst (λ (z : List Message). IsAttended kinds setup c1 s (sw s) (out s ++ z) (in' s)) (sym own_told)
            (event_taken kinds setup c s (sw s) xid number what (out s) (in' s) was c.vr.log (acknowledges_events (life_of (sw s)) (processed_by c s (sw s)) ∷ []) refl
            (subst (λ (z : List Message). AreQuiet c.vr.view z) own_told (quiet_acks c.vr.view s (through ∷ []))) (told_again kinds setup c s (sw s) xid number what (out s) (in' s) was before)))
            (λ t below other. other_served c.vr.log (told t (ack_letter through ∷ [])) t below other refl refl (quiet_acks c.vr.view t (through ∷ []))))
          where
            through : AckThrough
            through = record { switch = s; life = life_of (sw s); through = processed_by c s (sw s) }

            own_told : told s (ack_letter through ∷ []) ≡ acknowledges_events (life_of (sw s)) (processed_by c s (sw s)) ∷ []
            own_told = let same : nat_eq s s ≡ true = eq-eqb s s refl in rw same refl
        by_place false high = rests (resting c1) refl refl (λ b. refl)
            (each_by c1 (λ t. [])
            (event_taken kinds setup c s (sw s) xid number what (out s) (in' s) was c.vr.log [] refl (quiet_nil c.vr.view)
            (told_nothing kinds setup c s (sw s) xid number what (out s) (in' s) was before (ltb-false number (processed_by c s (sw s)) high)))
            (λ t below other. other_served c.vr.log [] t below other refl refl (quiet_nil c.vr.view)))

  -- the turn
  pub event_comes : end.state.full ≡ None → IsTruePrimary end.state → ((t : ℕ) → t < length setup.ports → IsTrueOf kinds setup end.state t (sw t)) → HasTurned kinds setup sw in' c out c.marks end
  event_comes full p_end true_end = elim (cases_lt number (logged_of c s (sw s))) [
    | inl before ↦ subst (λ (x : Work). HasTurned kinds setup sw in' c out c.marks x) (sym end_is) (early before)
    | inr late ↦ at_once late (proposes late)
  ]
    where
      proposes : logged_of c s (sw s) ≤ number → end ≡ proposing kinds setup c1 (Received e)
      proposes late =
          end_is
          ∙ ap (λ (b : Bool). on_wish kinds setup c1 e (if b then Propose else if is_done c.vr.log (committed c) e then Acknowledge (processed_by c s (sw s)) else Nothing)) (may late)

      at_once : logged_of c s (sw s) ≤ number → end ≡ proposing kinds setup c1 (Received e) → HasTurned kinds setup sw in' c out c.marks end
      at_once late is =
          subst (λ (x : Work). HasTurned kinds setup sw in' c out c.marks x) (sym is)
          (turned kinds setup sw in' c out (resting c1) (proposing kinds setup c1 (Received e)) refl refl refl
          (proposing_finished late (subst (λ (x : Work). AreBoundedTo kinds setup sw in' (committed x.state)) is (bounded_to kinds setup sw in' end.state p_end true_end)) (ap (λ (x : Work). x.state.full) (sym is) ∙ full)))
