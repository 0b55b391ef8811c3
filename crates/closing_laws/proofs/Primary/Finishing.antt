-- The third step of Settle: the first unprocessed event is proposed as processed where it is finished, and alone again and again.
use Rattle.std.proofs.Common.{◌≡◌, ◌≤◌, ℕ, ◌+◌, zero, suc, Bool, true, false, List, [], ◌∷◌, ◌++◌, length, take, refl, sym, ◌∙◌, ap, subst, arith, append-nil, length-append}
use Rattle.std.specs.Prelude.{nat_eq, nat_lt, nat_le, not, ◌&&◌, None, if◌then◌else◌}
use Rattle.std.proofs.lemmas.Bool.{and_from, and_left, and_parts, and_right, eq-eqb, le-ltb, leb-true, lt-leb, lt-ltb, ltb-true, true≢false}
use Rattle.std.proofs.lemmas.Option.{none-some}
use Rattle.std.proofs.lemmas.List.Sums.{sum_by-append}
use Rattle.list_facts.specs.Lists.{IsPrefix}
use Rattle.list_facts.proofs.Prefixes.{front_prefix, prefix_length, prefix_push, prefix_refl, prefix_trans, take_prefix}
use Rattle.of_types.specs.declared.setup.Setup.{Setup}
use Rattle.of_types.specs.Lives.{life_in}
use Rattle.vr_log.specs.declared.entry.Entry.{Entry}
use Rattle.vr_log.specs.declared.state.VrState.{VrState}
use Rattle.vr_log.specs.Log.{full_at, is_log, is_past_limits, is_processed, may_follow, processed, received}
use Rattle.vr_log.proofs.Logs.{received-append}
use Rattle.two_stage_log.specs.Counts.{has_unprocessed}
use Rattle.dispatcher.specs.Marks.{is_finished, wanted}
use Rattle.of_switch.specs.State.{SwitchState, life_of}
use Rattle.controller_moves.proofs.ControllerLaws.Logs.{processed_prefix, received_prefix}
use Rattle.group_controller.specs.State.{ControllerState, Work, committed, leaving, met_limit}
use Rattle.group_controller.specs.Settling.{after_proposal, finishing, is_alone, is_settled, processing, with_answers, with_commands}
use Rattle.run_spec.specs.declared.messages.Message.{Message}
use Rattle.closing_laws.specs.Serving.{AreFew, IsAttended}
use Rattle.closing_laws.proofs.Primary.Committing.{CommitsMore, more_committed}
use Rattle.closing_laws.proofs.Primary.Growth.{log_prefix, log_pushed}
use Rattle.closing_laws.proofs.Primary.Proposing.{Progress, Standing, commands_vr, committed_same, progress_none, progress_then, proposal_step, proposed_as, pushed, pushed_all}
use Rattle.closing_laws.proofs.Primary.Settled.{AreBounded, AreServed}
use Rattle.closing_laws.proofs.Primary.Telling.{told}

-- a member's log and what is committed of it grow
pub record Grows (old new : VrState) : Type 0 where
  pub log : IsPrefix old.log new.log
  pub commit : old.commit ≤ new.commit
  pub within : new.commit ≤ length new.log

pub grows_none : (v : VrState) → v.commit ≤ length v.log → Grows v v
grows_none v h = record { log = prefix_refl v.log; commit = omega arith; within = h }

pub grows_then : (u v w : VrState) → Grows u v → Grows v w → Grows u w
grows_then u v w p q = record { log = prefix_trans p.log q.log; commit = (let a = p.commit in let b = q.commit in omega (arith, a, b)); within = q.within }

pub grows_committed : (c c' : ControllerState) → Grows c.vr c'.vr → IsPrefix (committed c) (committed c')
grows_committed c c' g = take_prefix c.vr.commit c'.vr.commit g.commit g.log

module _ (kinds : List ℕ) (setup : Setup) where
  pub proposal_grows : (work : Work) (entry : Entry) → work.state.vr.commit ≤ length work.state.vr.log → Grows work.state.vr (after_proposal kinds setup work entry).state.vr
  proposal_grows work entry within = by_limits (is_past_limits work.state.vr.log entry) (is_alone work.state)
    where
      grown : (commit : ℕ) → work.state.vr.commit ≤ commit → commit ≤ length work.state.vr.log + 1 → Grows work.state.vr (pushed work.state entry commit).vr
      grown commit low high = let long = length-append work.state.vr.log (entry ∷ []) in record { log = prefix_push work.state.vr.log entry; commit = low; within = omega (arith, high, long) }

      by_limits : (p a : Bool) →
          Grows work.state.vr (if p then leaving work (met_limit work.state entry)
          else if a then with_commands kinds setup (with_answers kinds setup work.state.vr.commit (proposed_as a work entry)) else proposed_as a work entry).state.vr
      by_limits true a = grows_none work.state.vr within
      by_limits false true = subst (λ (v : VrState). Grows work.state.vr v) (sym (commands_vr kinds setup (with_answers kinds setup work.state.vr.commit (proposed_as true work entry))))
          (grown (length work.state.vr.log + 1) (omega (arith, within)) (omega arith))
      by_limits false false = grown work.state.vr.commit (omega arith) (omega (arith, within))

  -- an entry that is not past the limits joins the log
  pub proposal_is : (work : Work) (entry : Entry) → is_past_limits work.state.vr.log entry ≡ false →
      (after_proposal kinds setup work entry).state.vr ≡ (pushed work.state entry (if is_alone work.state then length work.state.vr.log + 1 else work.state.vr.commit)).vr
  proposal_is work entry short = by_limits (is_past_limits work.state.vr.log entry) short (is_alone work.state)
    where
      by_limits : (p : Bool) → p ≡ false → (a : Bool) →
          (if p then leaving work (met_limit work.state entry)
          else if a then with_commands kinds setup (with_answers kinds setup work.state.vr.commit (proposed_as a work entry)) else proposed_as a work entry).state.vr ≡
          (pushed work.state entry (if a then length work.state.vr.log + 1 else work.state.vr.commit)).vr
      by_limits true fine a = absurd (true≢false fine)
      by_limits false fine true = commands_vr kinds setup (with_answers kinds setup work.state.vr.commit (proposed_as true work entry))
      by_limits false fine false = refl

  -- and past them the limit is told
  pub limit_told : (work : Work) (entry : Entry) → is_past_limits work.state.vr.log entry ≡ true → (after_proposal kinds setup work entry).state.full ≡ None → ⊥
  limit_told work entry past full = by_limits (is_past_limits work.state.vr.log entry) past full
    where
      by_limits : (p : Bool) → p ≡ true →
          (if p then leaving work (met_limit work.state entry)
          else if is_alone work.state then with_commands kinds setup (with_answers kinds setup work.state.vr.commit (proposed_as (is_alone work.state) work entry))
          else proposed_as (is_alone work.state) work entry).state.full ≡ None → ⊥
      by_limits true is full = none-some (full_at work.state.vr.log entry) (sym full)
      by_limits false is full = true≢false (sym is)

  pub finishing_grows : (m : ℕ) (work : Work) → work.state.vr.commit ≤ length work.state.vr.log → Grows work.state.vr (finishing m kinds setup work).state.vr
  unfolding finishing
  finishing_grows zero work within = grows_none work.state.vr within
  finishing_grows (suc m) work within =
      by_cases (finishing_grows m next (proposal_grows work (processing work.state) within).within) (is_settled kinds setup work.state) (not (is_past_limits work.state.vr.log (processing work.state)) && is_alone work.state)
    where
      next : Work
      next = after_proposal kinds setup work (processing work.state)

      by_cases : Grows next.state.vr (finishing m kinds setup next).state.vr → (x g : Bool) → Grows work.state.vr (if not x then work else if g then finishing m kinds setup next else next).state.vr
      by_cases deeper false g = grows_none work.state.vr within
      by_cases deeper true true = grows_then work.state.vr next.state.vr (finishing m kinds setup next).state.vr (proposal_grows work (processing work.state) within) deeper
      by_cases deeper true false = proposal_grows work (processing work.state) within

module _ (kinds : List ℕ) (setup : Setup) (sw : ℕ → SwitchState) (in_ : ℕ → List Message) where
  -- it has come so far, and the first unprocessed event is not finished without being proposed as processed
  pub record Finished (out : ℕ → List Message) (old new : Work) : Type 0 where
    pub progress : Progress kinds setup sw in_ out old new
    pub settled : is_settled kinds setup new.state ≡ false

  -- each beginning of what is committed in the end is bounded
  abbrev pub AreBoundedTo : List Entry → Type 0
  AreBoundedTo log = (front : List Entry) → IsPrefix front log → AreBounded kinds setup sw in_ front

  module _ (work : Work) (s : Standing work.state) (ready : is_settled kinds setup work.state ≡ true) where
    abbrev entry : Entry
    entry = processing work.state

    unprocessed : has_unprocessed (committed work.state) ≡ true
    unprocessed =
        let a = and_parts (is_finished kinds setup (committed work.state) work.state.marks) (nat_le (processed work.state.vr.log) (processed (committed work.state))) ready in
        (and_parts (has_unprocessed (committed work.state)) (nat_eq (length (wanted kinds setup (committed work.state) work.state.marks)) 0) a.0).0

    same_place : processed (committed work.state) ≡ processed work.state.vr.log
    same_place =
        let a = and_parts (is_finished kinds setup (committed work.state) work.state.marks) (nat_le (processed work.state.vr.log) (processed (committed work.state))) ready in
        let low = processed_prefix (front_prefix work.state.vr.commit work.state.vr.log) in
        let high = leb-true (processed work.state.vr.log) (processed (committed work.state)) a.1 in
        omega (arith, low, high)

    follows : may_follow work.state.vr.log entry ≡ true
    follows =
        let long = prefix_length (received_prefix (front_prefix work.state.vr.commit work.state.vr.log)) in
        let less = ltb-true (processed (committed work.state)) (length (received (committed work.state))) unprocessed in
        and_from (nat_eq (processed (committed work.state)) (processed work.state.vr.log)) (nat_lt (processed (committed work.state)) (length (received work.state.vr.log)))
        (eq-eqb (processed (committed work.state)) (processed work.state.vr.log) same_place) (lt-ltb (processed (committed work.state)) (length (received work.state.vr.log)) (omega (arith, long, less)))

    count : processed (work.state.vr.log ++ entry ∷ []) ≡ processed (committed work.state) + 1
    count = let parts = sum_by-append (λ (x : Entry). if is_processed x then 1 else 0) work.state.vr.log (entry ∷ []) in let here = same_place in omega (arith, parts, here)

    events : received (work.state.vr.log ++ entry ∷ []) ≡ received work.state.vr.log
    events = received-append work.state.vr.log (entry ∷ []) ∙ append-nil (received work.state.vr.log)

    abbrev still : CommitsMore work.state (pushed work.state entry work.state.vr.commit)
    still = record {
      view = refl;
      me = refl;
      marks = refl;
      last_told = refl;
      events = events;
      more = [];
      committed_is = same ∙ sym (append-nil (committed work.state));
      one = ap is_log same ∙ log_prefix (front_prefix work.state.vr.commit work.state.vr.log) s.one;
      most = let p = ap processed same in omega (arith, p);
      unfinished = λ h. absurd (let p = ap processed same in omega (arith, p, h));
    }
      where
        same : committed (pushed work.state entry work.state.vr.commit) ≡ committed work.state
        same = committed_same work.state entry s.commit

    proposed_served : (out : ℕ → List Message) → AreBounded kinds setup sw in_ (committed work.state) → AreServed kinds setup sw in_ work.state out → AreServed kinds setup sw in_ (pushed work.state entry work.state.vr.commit) out
    proposed_served out bounds served t less =
        subst (λ (z : List Message). IsAttended kinds setup (pushed work.state entry work.state.vr.commit) t (sw t) z (in_ t)) (append-nil (out t))
        (more_committed kinds setup work.state (pushed work.state entry work.state.vr.commit) still t (sw t) s.told_all s.last
        (subst (λ (K : List Entry). life_in t (received K) ≤ life_of (sw t)) (sym (committed_same work.state entry s.commit)) (bounds t less).young) (out t) (in_ t) (served t less))

    module _ (few : AreFew kinds setup) (out : ℕ → List Message) (served : AreServed kinds setup sw in_ work.state out) where
      step : is_past_limits work.state.vr.log entry ≡ false → AreBounded kinds setup sw in_ (committed work.state) →
          AreBounded kinds setup sw in_ (committed (after_proposal kinds setup work entry).state) → Progress kinds setup sw in_ out work (after_proposal kinds setup work entry)
      step short before after = proposal_step kinds setup sw in_ few work entry out s (log_pushed work.state.vr.log entry s.one short follows) (proposed_served out before served)
          (let n = count in omega (arith, n)) (λ h. unprocessed) short after

    -- so many are left
    fewer : (m : ℕ) → is_past_limits work.state.vr.log entry ≡ false → is_alone work.state ≡ true → length (received work.state.vr.log) ≤ processed (committed work.state) + suc m →
        length (received (after_proposal kinds setup work entry).state.vr.log) ≤ processed (committed (after_proposal kinds setup work entry).state) + m
    fewer m short alone enough =
        let is = proposal_is kinds setup work entry short ∙ ap (λ (a : Bool). (pushed work.state entry (if a then length work.state.vr.log + 1 else work.state.vr.commit)).vr) alone in
        let a = ap (λ (v : VrState). length (received v.log)) is ∙ ap length events in
        let b = ap (λ (v : VrState). processed (take v.commit v.log)) is ∙ ap processed (pushed_all work.state entry) ∙ count in
        omega (arith, a, b, enough)

    -- in a group of several it is proposed now
    proposed_now : is_past_limits work.state.vr.log entry ≡ false → is_alone work.state ≡ false → is_settled kinds setup (after_proposal kinds setup work entry).state ≡ false
    proposed_now short several =
        let is = proposal_is kinds setup work entry short ∙ ap (λ (a : Bool). (pushed work.state entry (if a then length work.state.vr.log + 1 else work.state.vr.commit)).vr) several in
        let a = ap (λ (v : VrState). processed v.log) is ∙ count in
        let b = ap (λ (v : VrState). processed (take v.commit v.log)) is ∙ ap processed (committed_same work.state entry s.commit) in
        let c = (after_proposal kinds setup work entry).state in
        and_right (is_finished kinds setup (committed c) c.marks) (nat_le (processed c.vr.log) (processed (committed c))) (lt-leb (processed c.vr.log) (processed (committed c)) (omega (arith, a, b)))

  module _ (few : AreFew kinds setup) where
    pub finished : (m : ℕ) (work : Work) (out : ℕ → List Message) → Standing work.state → AreServed kinds setup sw in_ work.state out →
        AreBoundedTo (committed (finishing m kinds setup work).state) → (finishing m kinds setup work).state.full ≡ None →
        length (received work.state.vr.log) ≤ processed (committed work.state) + m → Finished out work (finishing m kinds setup work)
    unfolding finishing
    finished zero work out s served bounds full enough = record {
      progress = progress_none kinds setup sw in_ out work s served;
      settled =
          let long = prefix_length (received_prefix (front_prefix work.state.vr.commit work.state.vr.log)) in
          and_left (is_finished kinds setup (committed work.state) work.state.marks) (nat_le (processed work.state.vr.log) (processed (committed work.state)))
          (and_left (has_unprocessed (committed work.state)) (nat_eq (length (wanted kinds setup (committed work.state) work.state.marks)) 0)
          (le-ltb (processed (committed work.state)) (length (received (committed work.state))) (omega (arith, long, enough))));
    }
    finished (suc m) work out s served bounds full enough =
        by_cases (λ out' s' served' bounds' full' enough'. finished m (after_proposal kinds setup work (processing work.state)) out' s' served' bounds' full' enough')
        (is_settled kinds setup work.state) refl (is_past_limits work.state.vr.log (processing work.state)) refl (is_alone work.state) refl bounds full
      where
        next : Work
        next = after_proposal kinds setup work (processing work.state)

        grown : Grows work.state.vr next.state.vr
        grown = proposal_grows kinds setup work (processing work.state) s.commit

        by_cases : ((out' : ℕ → List Message) → Standing next.state → AreServed kinds setup sw in_ next.state out' → AreBoundedTo (committed (finishing m kinds setup next).state) →
            (finishing m kinds setup next).state.full ≡ None → length (received next.state.vr.log) ≤ processed (committed next.state) + m → Finished out' next (finishing m kinds setup next)) →
            (x : Bool) → is_settled kinds setup work.state ≡ x → (p : Bool) → is_past_limits work.state.vr.log (processing work.state) ≡ p → (a : Bool) → is_alone work.state ≡ a →
            AreBoundedTo (committed (if not x then work else if not p && a then finishing m kinds setup next else next).state) →
            (if not x then work else if not p && a then finishing m kinds setup next else next).state.full ≡ None →
            Finished out work (if not x then work else if not p && a then finishing m kinds setup next else next)
        by_cases deeper false is p past a alone bound none = record { progress = progress_none kinds setup sw in_ out work s served; settled = is }
        by_cases deeper true is true past a alone bound none = absurd (limit_told kinds setup work (processing work.state) past none)
        by_cases deeper true is false short true alone bound none =
            let over = finishing_grows kinds setup m next grown.within in
            let first = step work s is few out served short
            (bound (committed work.state) (grows_committed work.state (finishing m kinds setup next).state (grows_then work.state.vr next.state.vr (finishing m kinds setup next).state.vr grown over)))
            (bound (committed next.state) (grows_committed next.state (finishing m kinds setup next).state over)) in
            let rest = deeper (λ t. out t ++ told t first.letters) first.standing first.served bound none (fewer work s is m short alone enough) in
            record { progress = progress_then kinds setup sw in_ out work next (finishing m kinds setup next) first rest.progress; settled = rest.settled }
        by_cases deeper true is false short false several bound none =
            record {
              progress = step work s is few out served short (bound (committed work.state) (grows_committed work.state next.state grown)) (bound (committed next.state) (prefix_refl (committed next.state)));
              settled = proposed_now work s is short several;
            }
