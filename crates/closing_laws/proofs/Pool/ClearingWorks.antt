-- The steps of a primary's work keep the words that results may go in front of what is pending: proposals, and Settle.
use Rattle.std.proofs.Common.{◌≡◌, ◌≤◌, ◌<◌, ◌⊎◌, inl, inr, ℕ, zero, suc, ◌+◌, Bool, true, false, List, [], ◌∷◌, ◌++◌, length, drop, flat_map, refl, sym, ◌∙◌, ap, subst, arith, append-nil, append_assoc, length-append, take_all}
use Rattle.std.specs.Prelude.{nat_eq, nat_le, not, if◌then◌else◌}
use Rattle.std.proofs.lemmas.Bool.{and_parts, cond_both, eqb-true, ltb-true}
use Rattle.std.proofs.lemmas.List.{map-append, nil_from_length}
use Rattle.list_facts.specs.Lists.{IsPrefix}
use Rattle.of_types.specs.declared.message.Event.{Event}
use Rattle.of_types.specs.declared.setup.Setup.{Setup}
use Rattle.of_types.specs.Lives.{life_in}
use Rattle.journal.specs.declared.journal.Actor.TheVariants as actor
use Rattle.journal.specs.declared.journal.Letter.{Letter}
use Rattle.vr_log.specs.declared.entry.Entry.{Entry}
use Rattle.vr_log.specs.declared.entry.Entry.TheVariants.{Received}
use Rattle.vr_log.specs.declared.message.VrMessage.TheVariants as vr
use Rattle.vr_log.specs.Log.{is_past_limits, is_processed, processed, received}
use Rattle.vr_log.specs.Steps.{to_others}
use Rattle.vr_log.proofs.Logs.{received-append}
use Rattle.two_stage_log.specs.Counts.{has_unprocessed}
use Rattle.app_core.specs.declared.issued.Issued.{Issued}
use Rattle.controller_moves.proofs.ControllerLaws.Logs.{processed-append}
use Rattle.dispatcher.specs.Folding.{numbered, places_processed}
use Rattle.dispatcher.specs.Marks.{Marks, is_finished, outstanding, wanted}
use Rattle.group_controller.specs.declared.messages.ControllerSays.{ControllerSays}
use Rattle.group_controller.specs.State.{ControllerState, Work, committed, posting_work, resting}
use Rattle.group_controller.specs.Settling.{after_finishing, after_proposal, answers_at, command_letter, command_letters, finishing, goes_on, is_alone, is_settled, is_untold, processing, proposing, settling, with_answers, with_commands}
use Rattle.run_spec.specs.States.{controller_message}
use Rattle.closing_laws.specs.Ways.{Sent, sent_by}
use Rattle.closing_laws.proofs.Pool.Broadcasts.{posted}
use Rattle.closing_laws.proofs.Pool.Clearing as clearing
use Rattle.closing_laws.proofs.Pool.Clearing.{clears_posted, held_answered, held_longer, held_more, reached_answered, reached_longer, reached_posted}
use Rattle.closing_laws.proofs.Pool.Rooms.{is_clear, waits}
use Rattle.closing_laws.proofs.Pool.Waiting.{members_none, posts_never}
use Rattle.closing_laws.proofs.Primary.Proposing.{committed_same, proposal, proposed_as, pushed, pushed_all, pushed_behind}

module _ (kinds : List ℕ) (setup : Setup) (p : ℕ) (life : ℕ → ℕ) (early : Type 0) (rest : List Sent) where
  -- what waits with what a work has posted
  abbrev pub waiting_of : Work → List Sent
  waiting_of work = rest ++ posted p work.letters

  abbrev Holds : List Entry → Marks → List Sent → Type 0
  Holds log marks waiting = clearing.Holds kinds setup p life early log marks waiting

  abbrev AreReached : List Entry → Marks → List Sent → Type 0
  AreReached log marks waiting = clearing.AreReached kinds setup p life log marks waiting

  -- the words are in front, by a log that is committed
  pub record AreInFront (log : List Entry) (marks : Marks) (waiting : List Sent) : Type 0 where
    pub holds : Holds log marks waiting
    pub reached : AreReached log marks waiting

  -- so they are at a work of a primary, which alone in its group commits all at once
  pub record IsClearing (work : Work) : Type 0 where
    pub front : AreInFront (committed work.state) work.state.marks (waiting_of work)
    pub within : work.state.vr.commit ≤ length work.state.vr.log
    pub whole : is_alone work.state ≡ true → work.state.vr.commit ≡ length work.state.vr.log
    pub late : is_alone work.state ≡ true → early → ⊥

  -- letters go behind
  posted_more : (work : Work) (letters : List (Letter ControllerSays)) → waiting_of (posting_work work letters) ≡ waiting_of work ++ posted p letters
  posted_more work letters =
      ap (λ (l : List Sent). rest ++ l) (map-append (sent_by controller_message (actor.Controller p)) work.letters letters) ∙ sym (append_assoc rest (posted p work.letters) (posted p letters))

  pub front_posted : (log : List Entry) (marks : Marks) (work : Work) (letters : List (Letter ControllerSays)) → clears_posted p letters ≡ 0 → AreInFront log marks (waiting_of work) →
      AreInFront log marks (waiting_of (posting_work work letters))
  front_posted log marks work letters silent f =
      subst (λ (l : List Sent). AreInFront log marks l) (sym (posted_more work letters)) (record {
        holds = held_more kinds setup p life early log marks (waiting_of work) (posted p letters) silent f.holds;
        reached = reached_posted kinds setup p life early log marks (waiting_of work) letters f.reached;
      })

  pub commands_silent : (c : ControllerState) (xs : List Issued) → clears_posted p (command_letters kinds setup c xs) ≡ 0
  commands_silent c xs = posts_never is_clear controller_message (actor.Controller p) (λ (x : Issued). command_letter c.vr.view (numbered kinds setup (committed c) x)) (λ x. refl) xs

  -- commands go out
  pub commands_clear : (work : Work) → IsClearing work → IsClearing (with_commands kinds setup work)
  commands_clear work h =
      cond_both (is_untold work.state) _ _ (λ (y : Work). IsClearing y)
      (λ _. record {
        front = front_posted (committed work.state) work.state.marks work (command_letters kinds setup work.state (outstanding kinds setup (committed work.state) work.state.marks))
            (commands_silent work.state (outstanding kinds setup (committed work.state) work.state.marks)) h.front;
        within = h.within;
        whole = h.whole;
        late = h.late;
      })
      (λ _. h)

  -- what is newly committed: nothing as processed, or one event that is finished
  pub data Commits (log : List Entry) (marks : Marks) (work : Work) (new : List Entry) : Type 0 where
    None_processed : places_processed new ≡ [] → Commits log marks work new
    One_processed : places_processed new ≡ processed log ∷ [] → processed log < processed (committed work.state) → (early → ⊥) → processed log < length (received log) →
        ((s : ℕ) → life_in s (received log) ≤ life_in s (received (committed work.state))) → (0 < waits is_clear (waiting_of work) → wanted kinds setup log marks ≡ []) → Commits log marks work new

  -- it is answered
  pub answers_clear : (log : List Entry) (marks : Marks) (work : Work) (before : ℕ) → IsPrefix log (committed work.state) → Commits log marks work (drop before (committed work.state)) → AreInFront log marks (waiting_of work) →
      AreInFront (committed work.state) marks (waiting_of (with_answers kinds setup before work))
  answers_clear log marks work before longer (None_processed none) f =
      subst (λ (places : List ℕ). AreInFront (committed work.state) marks (waiting_of (posting_work work (flat_map (answers_at kinds setup work.state) places)))) (sym none)
      (front_posted (committed work.state) marks work [] refl (record {
        holds = held_longer kinds setup p life early log marks (committed work.state) longer (waiting_of work) f.holds;
        reached = reached_longer kinds setup p life early log marks (committed work.state) longer (waiting_of work) f.reached;
      }))
  answers_clear log marks work before longer (One_processed one more late there grown finished) f =
      subst (λ (places : List ℕ). AreInFront (committed work.state) marks (waiting_of (posting_work work (flat_map (answers_at kinds setup work.state) places)))) (sym one)
      (subst (λ (letters : List (Letter ControllerSays)). AreInFront (committed work.state) marks (waiting_of (posting_work work letters))) (sym (append-nil (answers_at kinds setup work.state (processed log))))
      (subst (λ (l : List Sent). AreInFront (committed work.state) marks l) (sym (posted_more work (answers_at kinds setup work.state (processed log)))) (record {
        holds = held_answered kinds setup p life early log work.state marks (waiting_of work) longer more late there grown f.holds f.reached finished;
        reached = reached_answered kinds setup p life early log work.state marks (waiting_of work) longer more late there grown f.holds f.reached finished;
      })))

  -- an entry is proposed: an event, or the first unprocessed one as processed where it is finished
  abbrev IsPlain : Entry → Type 0
  IsPlain entry = (places_processed (entry ∷ []) ≡ []) × (is_processed entry ≡ false)

  abbrev IsNext : ControllerState → Entry → Type 0
  IsNext c entry = (entry ≡ processing c) × (is_settled kinds setup c ≡ true)

  module _ (work : Work) (entry : Entry) (h : IsClearing work) where
    abbrev c : ControllerState
    c = work.state

    abbrev c2 : ControllerState
    c2 = pushed c entry (length c.vr.log + 1)

    long : length (c.vr.log ++ entry ∷ []) ≡ length c.vr.log + 1
    long = length-append c.vr.log (entry ∷ [])

    proposal_silent : clears_posted p (proposal c entry) ≡ 0
    proposal_silent = members_none is_clear (λ x. refl) (actor.Controller p) (to_others c.vr (vr.Prepare c.vr.view (length c.vr.log + 1) c.vr.commit entry))

    proposed_front : AreInFront (committed c) c.marks (waiting_of (posting_work work (proposal c entry)))
    proposed_front = front_posted (committed c) c.marks work (proposal c entry) proposal_silent h.front

    -- in a group of several
    several_clear : is_alone c ≡ false → IsClearing (proposed_as false work entry)
    several_clear several = record {
      front = subst (λ (log : List Entry). AreInFront log c.marks (waiting_of (posting_work work (proposal c entry)))) (sym (committed_same c entry h.within)) proposed_front;
      within = let l = long in let w = h.within in omega (arith, l, w);
      whole = λ is. absurd (let other : is_alone c ≡ true = is in cc);
      late = h.late;
    }

    -- alone
    module _ (alone : is_alone c ≡ true) (kind : IsPlain entry ⊎ IsNext c entry) where
      all : committed c ≡ c.vr.log
      all = take_all c.vr.commit c.vr.log (let w = h.whole alone in omega (arith, w))

      one_more : committed c2 ≡ committed c ++ entry ∷ []
      one_more = pushed_all c entry ∙ ap (λ (l : List Entry). l ++ entry ∷ []) (sym all)

      longer : IsPrefix (committed c) (committed c2)
      longer = record { rest = entry ∷ []; joined = one_more }

      commits : Commits (committed c) c.marks (proposed_as true work entry) (drop c.vr.commit (committed c2))
      commits = subst (λ (new : List Entry). Commits (committed c) c.marks (proposed_as true work entry) new) (sym (pushed_behind c entry (h.whole alone))) (by_kind kind)
        where
          by_kind : IsPlain entry ⊎ IsNext c entry → Commits (committed c) c.marks (proposed_as true work entry) (entry ∷ [])
          by_kind (inl plain) = None_processed plain.0
          by_kind (inr (is, settled)) =
              let parts = and_parts (is_finished kinds setup (committed c) c.marks) (nat_le (processed c.vr.log) (processed (committed c))) settled in
              let finished = and_parts (has_unprocessed (committed c)) (nat_eq (length (wanted kinds setup (committed c) c.marks)) 0) parts.0 in
              let count = ap processed one_more ∙ processed-append (committed c) (entry ∷ []) ∙ ap (λ (e : Entry). processed (committed c) + processed (e ∷ [])) is in
              let events = ap received one_more ∙ received-append (committed c) (entry ∷ []) ∙ ap (λ (e : Entry). received (committed c) ++ received (e ∷ [])) is ∙ append-nil (received (committed c)) in
              One_processed (ap (λ (e : Entry). places_processed (e ∷ [])) is) (omega (arith, count)) (h.late alone)
              (ltb-true (processed (committed c)) (length (received (committed c))) finished.0)
              (λ s. let same = ap (λ (es : List Event). life_in s es) events in omega (arith, same))
              (λ some. nil_from_length (wanted kinds setup (committed c) c.marks) (eqb-true (length (wanted kinds setup (committed c) c.marks)) 0 finished.1))

      alone_clear : IsClearing (with_commands kinds setup (with_answers kinds setup c.vr.commit (proposed_as true work entry)))
      alone_clear = commands_clear (with_answers kinds setup c.vr.commit (proposed_as true work entry)) (record {
        front = answers_clear (committed c) c.marks (proposed_as true work entry) c.vr.commit longer commits proposed_front;
        within = let l = long in omega (arith, l);
        whole = λ is. sym long;
        late = h.late;
      })

    pub proposal_clear : IsPlain entry ⊎ IsNext c entry → IsClearing (after_proposal kinds setup work entry)
    proposal_clear kind =
        cond_both (is_past_limits c.vr.log entry) _ _ (λ (y : Work). IsClearing y)
        (λ _. record { front = h.front; within = h.within; whole = h.whole; late = h.late })
        (λ _. by_alone (is_alone c) refl)
      where
        by_alone : (a : Bool) → is_alone c ≡ a → IsClearing (if a then with_commands kinds setup (with_answers kinds setup c.vr.commit (proposed_as a work entry)) else proposed_as a work entry)
        by_alone true is = alone_clear is kind
        by_alone false is = several_clear is

  -- the first unprocessed event is proposed as processed, where it is finished
  finishing_clear : (fuel : ℕ) (work : Work) → IsClearing work → IsClearing (finishing fuel kinds setup work)
  unfolding finishing
  finishing_clear zero work h = h
  finishing_clear (suc fuel) work h = by_settled (is_settled kinds setup work.state) refl (λ h'. finishing_clear fuel next h')
    where
      next : Work
      next = after_proposal kinds setup work (processing work.state)

      by_settled : (b : Bool) → is_settled kinds setup work.state ≡ b → (IsClearing next → IsClearing (finishing fuel kinds setup next)) →
          IsClearing (if not b then work else if goes_on work.state (processing work.state) then finishing fuel kinds setup next else next)
      by_settled false is again = h
      by_settled true is again =
          let here = proposal_clear work (processing work.state) h (inr (refl, is)) in
          cond_both (goes_on work.state (processing work.state)) _ _ (λ (y : Work). IsClearing y) (λ _. again here) (λ _. here)

  pub finished_clear : (work : Work) → IsClearing work → IsClearing (after_finishing kinds setup work)
  finished_clear work h = finishing_clear (length (received work.state.vr.log)) work h

  -- Settle, once more is committed
  pub settling_clear : (before : ℕ) (work : Work) → IsClearing (with_answers kinds setup before work) → IsClearing (settling kinds setup before work)
  unfolding settling
  settling_clear before work h = finished_clear (with_commands kinds setup (with_answers kinds setup before work)) (commands_clear (with_answers kinds setup before work) h)

  -- an event is proposed
  pub proposing_clear : (c : ControllerState) (e : Event) → IsClearing (resting c) → IsClearing (proposing kinds setup c (Received e))
  proposing_clear c e h =
      let next = after_proposal kinds setup (resting c) (Received e) in
      let here = proposal_clear (resting c) (Received e) h (inl (refl, refl)) in
      cond_both (goes_on c (Received e)) _ _ (λ (y : Work). IsClearing y) (λ _. finished_clear next here) (λ _. here)
