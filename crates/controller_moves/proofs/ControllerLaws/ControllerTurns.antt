-- A turn of a controller is a chain of moves. What each move keeps, each turn keeps.
use Rattle.std.proofs.Common.{inl, inr, ◌≡◌, ℕ, Bool, true, false, not, ◌&&◌, List, ◌++◌, drop, map, zero, suc, refl, ap, sym, subst, ◌∙◌}
use Rattle.std.specs.Prelude.{nat_eq, nat_lt, slice_get, Option, Some, None, option_map, if◌then◌else◌}
use Rattle.std.proofs.lemmas.Bool.{and_parts}
use Rattle.std.proofs.lemmas.List.{map-append}
use Rattle.of_types.specs.declared.message.Event.{Event}
use Rattle.of_types.specs.declared.message.Extension.{Extension}
use Rattle.of_types.specs.declared.message.Extension.TheVariants as extension
use Rattle.of_types.specs.declared.message.Happening.{Happening}
use Rattle.of_types.specs.declared.message.OfMessage.{OfMessage}
use Rattle.of_types.specs.declared.message.OfMessage.TheVariants as plain
use Rattle.of_types.specs.declared.message.Outcome.{Outcome}
use Rattle.of_types.specs.declared.message.Spoken.{Spoken}
use Rattle.of_types.specs.declared.message.Spoken.TheVariants as spoken
use Rattle.of_types.specs.declared.numbers.TheConstants.{MASTER}
use Rattle.of_types.specs.declared.setup.Setup.{Setup}
use Rattle.of_types.specs.Lives.{last_life, life_in, has_ended}
use Rattle.journal.specs.declared.journal.Letter.{Letter}
use Rattle.journal.specs.declared.journal.Local.{Local}
use Rattle.journal.specs.declared.journal.Local.TheVariants as local
use Rattle.vr_log.specs.declared.entry.Entry.{Entry}
use Rattle.vr_log.specs.declared.entry.Entry.TheVariants.{Received}
use Rattle.vr_log.specs.declared.entry.LogFull.{LogFull}
use Rattle.vr_log.specs.declared.message.VrLetter.{VrLetter}
use Rattle.vr_log.specs.declared.state.VrState.{VrState}
use Rattle.vr_log.specs.Log.{received, processed, is_past_limits, may_be_received}
use Rattle.vr_log.specs.Members.{is_up, leads}
use Rattle.vr_core.specs.declared.input.VrInput.{VrInput}
use Rattle.vr_core.specs.declared.input.VrInput.TheVariants as vr_input
use Rattle.vr_core.specs.Step.{vr_step}
use Rattle.app_core.specs.declared.issued.Issued.{Issued}
use Rattle.dispatcher.specs.declared.answers.AckThrough.{AckThrough}
use Rattle.dispatcher.specs.Marks.{no_marks, confirmed_by, off_role, settled_commands, is_pending, with_marked_result, wanted, outstanding}
use Rattle.dispatcher.specs.Folding.{numbered, acknowledges_event, acknowledges_at, clears_at, places_processed, is_done}
use Rattle.group_controller.specs.declared.messages.ControllerInput.{ControllerInput}
use Rattle.group_controller.specs.declared.messages.ControllerInput.TheVariants as controller_input
use Rattle.group_controller.specs.declared.messages.ControllerSays.{ControllerSays}
use Rattle.group_controller.specs.State.{ControllerState, Work, committed, with_no_met_limit, down, resting, posting_work, leaving, stepped, to_member, to_members}
use Rattle.group_controller.specs.Settling.{role_letter, command_letter, command_letters, ack_letter, clear_letter, answers_at, with_answers, is_untold, with_commands, with_proposal, is_settled, is_alone, after_proposal, goes_on, processing, finishing, settling, proposing}
use Rattle.group_controller.specs.Rules.{switches, has_started, after_step, unconfirmed, tick_letters, on_tick, on_wish, on_event, on_result, on_role_reply, on_hello, on_plain, on_extension, on_spoken, on_switch, on_restart, on_local, on_input, when_down, is_down, controller_work}
use Rattle.vr_core.proofs.Lasting.{tick_same}
use Rattle.std.proofs.lemmas.Bool.{cond_both, not-false}
use Rattle.list_facts.proofs.Elements.{in_append, in_filter, in_flat_map, in_map}
use Rattle.list_facts.specs.Lists.{IsIn}
use Rattle.controller_moves.specs.ControllerLaws.Moves.{Tells, member_input, IsProposed, IsSaid, Asks, Commands, Acks, Clears, Echoes, ControllerMove, Steps, Says, Saves, Begins, Proposes, Results, Notes, Receives, Processes}
use Rattle.controller_moves.proofs.ControllerLaws.MemberSteps.{step_keeps}

module _ (kinds : List ℕ) (setup : Setup) (x : ControllerInput) (P : Work → Type 0) (step : (w w' : Work) → ControllerMove kinds setup x w w' → P w → P w') where
  noted : (w : Work) (confirmed : List ℕ) (told : Option ℕ) (full : Option LogFull) → P w →
      P (leaving w (record w.state { marks = record w.state.marks { confirmed = confirmed }; last_told = told; full = full }))
  noted w confirmed told full h = step w _ (Notes confirmed told full refl) h

  said : (w : Work) (ls : List (Letter ControllerSays)) → ((l : Letter ControllerSays) → IsIn l ls → IsSaid kinds setup x w.state l) → P w → P (posting_work w ls)
  said w ls all h = step w _ (Says ls all refl) h

  commands_said : (c : ControllerState) (ns : List Issued) → leads c.vr ≡ true → ((n : Issued) → IsIn n ns → IsIn n (wanted kinds setup (committed c) c.marks)) →
      (l : Letter ControllerSays) → IsIn l (command_letters kinds setup c ns) → IsSaid kinds setup x c l
  commands_said c ns lead all l h =
      let r = in_map (λ (n : Issued). command_letter c.vr.view (numbered kinds setup (committed c) n)) ns l h in Commands r.0 lead (all r.0 r.1) r.2

  outstanding_are : (c : ControllerState) (n : Issued) → IsIn n (outstanding kinds setup (committed c) c.marks) → IsIn n (wanted kinds setup (committed c) c.marks)
  outstanding_are c n h = in_filter _ _ n h

  roles_said : (c : ControllerState) (ss : List ℕ) → leads c.vr ≡ true → (l : Letter ControllerSays) → IsIn l (map (role_letter c.vr.view) ss) → IsSaid kinds setup x c l
  roles_said c ss lead l h = let r = in_map (role_letter c.vr.view) ss l h in Asks r.0 lead r.2

  acks_said : (c : ControllerState) (o : Option Event) → leads c.vr ≡ true → (l : Letter ControllerSays) → IsIn l (map ack_letter (acknowledges_event (committed c) o)) → IsSaid kinds setup x c l
  acks_said c None lead = λ l h. absurd h
  acks_said c (Some e) lead =
      cond_both (has_ended e.switch e.life (received (committed c))) _ _ (λ ts. (l : Letter ControllerSays) → IsIn l (map ack_letter ts) → IsSaid kinds setup x c l)
      (λ _ l h. absurd h)
      (λ _ l h. elim h [ inl is ↦ Acks e.switch e.life lead is | inr none ↦ absurd none ])

  answers_said : (c : ControllerState) (j : ℕ) → leads c.vr ≡ true → (l : Letter ControllerSays) → IsIn l (answers_at kinds setup c j) → IsSaid kinds setup x c l
  answers_said c j lead l h =
      elim (in_append l (map ack_letter (acknowledges_at (committed c) j)) (map clear_letter (clears_at kinds setup (committed c) j)) h) [
        | inl a ↦ acks_said c (slice_get (received (committed c)) j) lead l a
        | inr b ↦
            let r = in_map clear_letter (clears_at kinds setup (committed c) j) l b in
            let q = in_map (λ (s : ℕ). record { switch = s; life = life_in s (received (committed c)); through = settled_commands kinds setup (committed c) s (life_in s (received (committed c))) }) _ r.0 r.1 in
            Clears q.0 (life_in q.0 (received (committed c))) lead (r.2 ∙ ap (λ (t : AckThrough). clear_letter t) q.2)
      ]

  answered : (before : ℕ) (w : Work) → leads w.state.vr ≡ true → P w → P (with_answers kinds setup before w)
  answered before w lead h =
      said w _ (λ l k. let r = in_flat_map (answers_at kinds setup w.state) (places_processed (drop before (committed w.state))) l k in answers_said w.state r.0 lead l r.2) h

  commanded : (w : Work) → leads w.state.vr ≡ true → P w → P (with_commands kinds setup w)
  commanded w lead h =
      cond_both (is_untold w.state) _ _ P
      (λ _. noted (posting_work w (command_letters kinds setup w.state (outstanding kinds setup (committed w.state) w.state.marks))) w.state.marks.confirmed (Some (processed (committed w.state))) w.state.full
      (said w _ (commands_said w.state _ lead (outstanding_are w.state)) h))
      (λ _. h)

  keeps_lead : (w : Work) → leads w.state.vr ≡ true → leads (with_commands kinds setup w).state.vr ≡ true
  keeps_lead w lead = cond_both (is_untold w.state) _ _ (λ (v : Work). leads v.state.vr ≡ true) (λ _. lead) (λ _. lead)

  -- an entry is proposed, and where it is committed at once, it is answered
  proposed : (w : Work) (entry : Entry) → leads w.state.vr ≡ true → IsProposed kinds setup x w.state entry → P w → P (after_proposal kinds setup w entry)
  proposed w entry lead may h =
      cond_both (is_past_limits w.state.vr.log entry) _ _ P
      (λ _. noted w w.state.marks.confirmed w.state.last_told _ h)
      (λ room.
      let k = step w (with_proposal w entry) (Proposes entry lead may room refl) h in
      cond_both (is_alone w.state) _ _ P
      (λ _. commanded (with_answers kinds setup w.state.vr.commit (with_proposal w entry)) lead (answered w.state.vr.commit (with_proposal w entry) lead k))
      (λ _. k))

  proposed_lead : (w : Work) (entry : Entry) → leads w.state.vr ≡ true → leads (after_proposal kinds setup w entry).state.vr ≡ true
  proposed_lead w entry lead =
      cond_both (is_past_limits w.state.vr.log entry) _ _ (λ (v : Work). leads v.state.vr ≡ true)
      (λ _. lead)
      (λ _. cond_both (is_alone w.state) _ _ (λ (v : Work). leads v.state.vr ≡ true) (λ _. keeps_lead (with_answers kinds setup w.state.vr.commit (with_proposal w entry)) lead) (λ _. lead))

  finished : (n : ℕ) (w : Work) → leads w.state.vr ≡ true → P w → P (finishing n kinds setup w)
  unfolding finishing
  finished zero w lead h = h
  finished (suc n) w lead h =
      let entry = processing w.state in
      cond_both (not (is_settled kinds setup w.state)) _ _ P
      (λ _. h)
      (λ ready.
      let k = proposed w entry lead (Processes (not-false _ ready) refl) h in
      cond_both (goes_on w.state entry) _ _ P (λ _. finished n (after_proposal kinds setup w entry) (proposed_lead w entry lead) k) (λ _. k))

  settled : (before : ℕ) (w : Work) → leads w.state.vr ≡ true → P w → P (settling kinds setup before w)
  unfolding settling
  settled before w lead h = finished _ _ (keeps_lead (with_answers kinds setup before w) lead) (commanded (with_answers kinds setup before w) lead (answered before w lead h))

  module _ (c : ControllerState) (h : P (resting c)) where
    -- a step of the member
    work_of : VrState → Option (ℕ × ℕ) → List VrLetter → Work
    work_of s save ls = record { state = record c { vr = s }; save = save; letters = to_members ls }

    stepped_keeps : P (stepped c (vr_step c.vr (member_input x)))
    unfolding work_of
    stepped_keeps =
        step_keeps (member_input x) (λ s ls. (save : Option (ℕ × ℕ)) → P (work_of s save ls))
        (λ s s' ls move k save. step (work_of s save ls) (work_of s' save ls) (Steps s' move refl) (k save))
        (λ s ls more all k save.
        let e : to_members (ls ++ more) ≡ to_members ls ++ to_members more = map-append to_member ls more in
        subst (λ (t : List (Letter ControllerSays)). P (record { state = record c { vr = s }; save = save; letters = t })) (sym e)
        (said (work_of s save ls) (to_members more) (λ l m. let r = in_map to_member more l m in Tells r.0 (all r.0 r.1) r.2) (k save)))
        c.vr (λ save. step (resting c) _ (Saves save refl) h) (option_map (λ promise. (promise, (vr_step c.vr (member_input x)).state.life)) (vr_step c.vr (member_input x)).promise)

    after_keeps : P (after_step kinds setup c (vr_step c.vr (member_input x)))
    unfolding after_step
    after_keeps =
        let w = stepped c (vr_step c.vr (member_input x)) in
        cond_both (has_started c.vr w.state.vr) _ _ P
        (λ starts.
        let lead = (and_parts (leads w.state.vr) _ starts).0 in
        settled _ (posting_work (leaving w (record w.state { marks = no_marks; last_told = None })) (map (role_letter w.state.vr.view) (switches setup))) lead
        (said (leaving w (record w.state { marks = no_marks; last_told = None })) _ (roles_said (record w.state { marks = no_marks; last_told = None }) (switches setup) lead)
        (step w _ (Begins lead refl) stepped_keeps)))
        (λ _. cond_both (leads w.state.vr && nat_lt c.vr.commit w.state.vr.commit) _ _ P
        (λ grows. settled c.vr.commit w (and_parts (leads w.state.vr) (nat_lt c.vr.commit w.state.vr.commit) grows).0 stepped_keeps)
        (λ _. stepped_keeps))

    tick_said : leads c.vr ≡ true → (l : Letter ControllerSays) → IsIn l (tick_letters kinds setup c) → IsSaid kinds setup x c l
    tick_said lead l k = elim (in_append l (map (role_letter c.vr.view) (unconfirmed setup c)) _ k) [
      | inl a ↦ roles_said c (unconfirmed setup c) lead l a
      | inr a ↦ commands_said c _ lead (outstanding_are c) l a
    ]

    tick_keeps : member_input x ≡ vr_input.Tick → P (on_tick kinds setup c)
    tick_keeps is =
        let w = stepped c (vr_step c.vr vr_input.Tick) in
        let k : P w = subst (λ (y : VrInput). P (stepped c (vr_step c.vr y))) is stepped_keeps in
        let same : c ≡ w.state = ap (λ (s : VrState). record c { vr = s }) (sym (tick_same c.vr)) in
        said w _ (cond_both (leads c.vr) _ _ (λ ls. (l : Letter ControllerSays) → IsIn l ls → IsSaid kinds setup x w.state l)
        (λ lead l m. subst (λ (d : ControllerState). IsSaid kinds setup x d l) same (tick_said lead l m)) (λ _ l m. absurd m)) k

    module _ (lead : leads c.vr ≡ true) where
      proposed_keeps : (entry : Entry) → IsProposed kinds setup x c entry → P (proposing kinds setup c entry)
      proposed_keeps entry may =
          let k = proposed (resting c) entry lead may h in
          cond_both (goes_on c entry) _ _ P (λ _. finished _ (after_proposal kinds setup (resting c) entry) (proposed_lead (resting c) entry lead) k) (λ _. k)

      event_keeps : (s xid life number : ℕ) (what : Happening) → x ≡ controller_input.Of s xid (spoken.Ravana (extension.Event life number what)) →
          P (on_event kinds setup c (record { switch = s; life = life; number = number; what = what }))
      event_keeps s xid life number what is =
          let e : Event = record { switch = s; life = life; number = number; what = what } in
          cond_both (may_be_received e (received c.vr.log)) _ _ (λ v. P (on_wish kinds setup c e v))
          (λ may. proposed_keeps (Received e) (Receives s xid life number what is may refl))
          (λ _. cond_both (is_done c.vr.log (committed c) e) _ _ (λ v. P (on_wish kinds setup c e v))
          (λ _. said (resting c) _ (λ l m. elim m [ inl k ↦ Acks s life lead k | inr k ↦ absurd k ]) h)
          (λ _. h))

      result_keeps : (s xid life number : ℕ) (outcome : Outcome) → x ≡ controller_input.Of s xid (spoken.Ravana (extension.CmdAck life number outcome)) → P (on_result kinds setup c s life number)
      result_keeps s xid life number outcome is =
          cond_both (is_pending kinds setup (committed c) s life number) _ _ P
          (λ waits. finished _ (resting (record c { marks = with_marked_result kinds setup (committed c) c.marks s life number })) lead (step (resting c) _ (Results s xid life number outcome is lead waits refl) h))
          (λ _. h)

      reply_keeps : (s role generation : ℕ) → P (on_role_reply kinds setup c s role generation)
      reply_keeps s role generation =
          let now : ControllerState = record c { marks = confirmed_by c.marks s } in
          cond_both (nat_eq role MASTER && nat_eq generation c.vr.view) _ _ P
          (λ _. said (resting now) _ (commands_said now _ lead (λ n k. outstanding_are now n (in_filter _ _ n k))) (noted (resting c) _ c.last_told c.full h))
          (λ _. h)

      hello_keeps : (s : ℕ) → P (on_hello c s)
      hello_keeps s = said (resting (record c { marks = off_role c.marks s })) _ (λ l m. elim m [ inl k ↦ Asks s lead k | inr k ↦ absurd k ]) (noted (resting c) _ c.last_told c.full h)

      plain_keeps : (s : ℕ) (what : OfMessage) → P (on_plain kinds setup c s what)
      plain_keeps s (plain.RoleReply role generation) = reply_keeps s role generation
      plain_keeps s plain.Hello = hello_keeps s
      plain_keeps s _ = h

      extension_keeps : (s xid : ℕ) (what : Extension) → x ≡ controller_input.Of s xid (spoken.Ravana what) → P (on_extension kinds setup c s what)
      extension_keeps s xid (extension.Event life number what) is = event_keeps s xid life number what is
      extension_keeps s xid (extension.CmdAck life number outcome) is = result_keeps s xid life number outcome is
      extension_keeps s xid _ is = h

      spoken_keeps : (s xid : ℕ) (what : Spoken) → x ≡ controller_input.Of s xid what → P (on_spoken kinds setup c s what)
      spoken_keeps s xid (spoken.Plain what) is = plain_keeps s what
      spoken_keeps s xid (spoken.Ravana what) is = extension_keeps s xid what is

    led_keeps : (s xid : ℕ) (what : Spoken) → x ≡ controller_input.Of s xid what → P (if leads c.vr then on_spoken kinds setup c s what else resting c)
    led_keeps s xid what is = cond_both (leads c.vr) _ _ P (λ lead. spoken_keeps lead s xid what is) (λ _. h)

    switch_keeps : (s xid : ℕ) (what : Spoken) → x ≡ controller_input.Of s xid what → P (on_switch kinds setup c s xid what)
    switch_keeps s xid (spoken.Plain (plain.EchoRequest body)) is =
        cond_both (is_up c.vr) _ _ P (λ _. said (resting c) _ (λ l m. elim m [ inl k ↦ Echoes s xid body is k | inr k ↦ absurd k ]) h) (λ _. h)
    switch_keeps s xid (spoken.Plain what) is = led_keeps s xid (spoken.Plain what) is
    switch_keeps s xid (spoken.Ravana what) is = led_keeps s xid (spoken.Ravana what) is

    local_keeps : (input : Local) → (input ≡ local.Crash → P (resting (down c c.vr.promise c.vr.life))) → x ≡ controller_input.Local input → P (on_local kinds setup c input)
    local_keeps local.Tick crash is = tick_keeps (ap (λ y. member_input y) is)
    local_keeps (local.Suspect view) crash is = subst (λ (y : VrInput). P (after_step kinds setup c (vr_step c.vr y))) (ap (λ y. member_input y) is) after_keeps
    local_keeps local.Crash crash is = crash refl
    local_keeps (local.Frame port bytes) crash is = h
    local_keeps (local.Port port up) crash is = h
    local_keeps local.Restart crash is = h

    input_keeps : (y : ControllerInput) → (y ≡ controller_input.Local local.Crash → P (resting (down c c.vr.promise c.vr.life))) → x ≡ y → P (on_input kinds setup c y)
    input_keeps (controller_input.Local what) crash is = local_keeps what (λ e. crash (ap (λ i. controller_input.Local i) e)) is
    input_keeps (controller_input.Of s xid what) crash is = switch_keeps s xid what is
    input_keeps (controller_input.Malformed sender) crash is = h
    input_keeps (controller_input.Vr from message) crash is = subst (λ (y : VrInput). P (after_step kinds setup c (vr_step c.vr y))) (ap (λ y. member_input y) is) after_keeps

  -- what holds at the start of a turn, of a controller that is not down, and is kept by each move, holds at its end
  pub turn_keeps : (c : ControllerState) → is_down c ≡ false → P (resting (with_no_met_limit c)) →
      (x ≡ controller_input.Local local.Crash → P (resting (down c c.vr.promise c.vr.life))) → P (controller_work kinds setup c x)
  unfolding controller_work
  turn_keeps c up h crash = rw up (input_keeps (with_no_met_limit c) h x crash refl)

-- one that is down rests, or begins its next life
pub down_keeps : (kinds : List ℕ) (setup : Setup) (c : ControllerState) (x : ControllerInput) (P : Work → Type 0) → is_down c ≡ true → P (resting c) →
    (x ≡ controller_input.Local local.Restart → nat_lt c.vr.life last_life ≡ true → P (on_restart c)) → P (controller_work kinds setup c x)
unfolding controller_work
down_keeps kinds setup c x P off h restart = rw off (by_input x refl)
  where
    by_local : (y : Local) → x ≡ controller_input.Local y → P (when_down c (controller_input.Local y))
    by_local local.Restart is = by_life (nat_lt c.vr.life last_life) refl
      where
        by_life : (b : Bool) → nat_lt c.vr.life last_life ≡ b → P (on_restart c)
        by_life true less = restart is less
        by_life false more = rw more h
    by_local local.Tick is = h
    by_local (local.Suspect view) is = h
    by_local local.Crash is = h
    by_local (local.Frame port bytes) is = h
    by_local (local.Port port up) is = h

    by_input : (y : ControllerInput) → x ≡ y → P (when_down c y)
    by_input (controller_input.Local y) is = by_local y is
    by_input (controller_input.Of s xid what) is = h
    by_input (controller_input.Malformed sender) is = h
    by_input (controller_input.Vr from message) is = h
