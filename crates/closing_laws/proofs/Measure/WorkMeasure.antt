-- The steps of a primary's work by what they leave to do: proposals, and Settle.
use Rattle.std.proofs.Common.{◌≡◌, ◌≤◌, ◌⊎◌, inl, inr, ℕ, zero, suc, ◌+◌, ◌/◌, Bool, true, false, List, [], ◌∷◌, ◌++◌, length, drop, filter, refl, sym, ◌∙◌, ap, subst, arith, append-nil, append_assoc, length-append, take_all}
use Rattle.std.specs.Prelude.{nat_eq, nat_le, not, ◌&&◌, flat_map, Some, if◌then◌else◌}
use Rattle.std.specs.List.{range_with_len}
use Rattle.std.proofs.Math.Seq.{drop-append_seam}
use Rattle.std.proofs.lemmas.Bool.{and_parts, leb-true, true≢false}
use Rattle.std.proofs.lemmas.List.Sums.{sum_by-append}
use Rattle.list_facts.specs.Lists.{IsPrefix}
use Rattle.list_facts.proofs.Prefixes.{prefix_is, prefix_refl, prefix_trans}
use Rattle.of_types.specs.declared.message.Event.{Event}
use Rattle.of_types.specs.declared.setup.Setup.{Setup}
use Rattle.journal.specs.declared.journal.Letter.{Letter}
use Rattle.vr_log.specs.declared.entry.Entry.{Entry}
use Rattle.vr_log.specs.declared.state.VrState.{VrState}
use Rattle.vr_log.specs.Log.{is_log, is_past_limits, is_processed, processed, received}
use Rattle.vr_log.specs.Members.{others_below}
use Rattle.vr_log.proofs.Logs.{received-append}
use Rattle.two_stage_log.specs.Counts.{has_unprocessed}
use Rattle.dispatcher.specs.Folding.{places_processed}
use Rattle.dispatcher.specs.Marks.{is_finished, outstanding, wanted}
use Rattle.group_controller.specs.declared.messages.ControllerSays.{ControllerSays}
use Rattle.group_controller.specs.State.{ControllerState, Work, committed, leaving, met_limit}
use Rattle.group_controller.specs.Settling.{after_finishing, after_proposal, answers_at, command_letters, finishing, is_alone, is_settled, is_untold, processing, settling, with_answers, with_commands}
use Rattle.closing_laws.specs.Quorum.{has}
use Rattle.closing_laws.proofs.Measure.PieceMeasure.{Falls, IsAnswer, answered_falls, commands_fall, falls_none, falls_then, none_answered, processed_falls}
use Rattle.closing_laws.proofs.Primary.Finishing.{proposal_is}
use Rattle.closing_laws.proofs.Primary.Growth.{places_are}
use Rattle.closing_laws.proofs.Primary.Proposing.{commands_vr, committed_same, proposal, proposed_as, pushed, pushed_all, pushed_behind}

module _ (kinds : List ℕ) (setup : Setup) (quorum : List ℕ) (me f n : ℕ) (enough : length (filter (has quorum) (others_below me n)) ≡ f) where
  -- a work goes on from another: it logs these events, and what it says is worth no more than what it does and this
  pub record Descends (old new : Work) (more : List Event) (extra : ℕ) : Type 0 where
    pub letters : List (Letter ControllerSays)
    pub joined : new.letters ≡ old.letters ++ letters
    pub falls : Falls kinds setup quorum me f old.state new.state letters extra
    pub front : IsPrefix (committed old.state) (committed new.state)
    pub events : received new.state.vr.log ≡ received old.state.vr.log ++ more
    pub me_is : new.state.vr.me ≡ old.state.vr.me
    pub size_is : new.state.vr.controllers ≡ old.state.vr.controllers
    pub view_is : new.state.vr.view ≡ old.state.vr.view

  pub descends_none : (work : Work) → Descends work work [] 0
  descends_none work = record {
    letters = [];
    joined = sym (append-nil work.letters);
    falls = falls_none kinds setup quorum me f work.state work.state refl refl;
    front = prefix_refl (committed work.state);
    events = sym (append-nil (received work.state.vr.log));
    me_is = refl;
    size_is = refl;
    view_is = refl;
  }

  pub descends_then : (a b c : Work) (xs ys : List Event) (k l : ℕ) → Descends a b xs k → Descends b c ys l → Descends a c (xs ++ ys) (k + l)
  descends_then a b c xs ys k l p q = record {
    letters = p.letters ++ q.letters;
    joined = q.joined ∙ ap (λ (z : List (Letter ControllerSays)). z ++ q.letters) p.joined ∙ append_assoc a.letters p.letters q.letters;
    falls = falls_then kinds setup quorum me f a.state b.state c.state p.letters q.letters k l p.falls q.falls;
    front = prefix_trans p.front q.front;
    events = q.events ∙ ap (λ (z : List Event). z ++ ys) p.events ∙ append_assoc (received a.state.vr.log) xs ys;
    me_is = q.me_is ∙ p.me_is;
    size_is = q.size_is ∙ p.size_is;
    view_is = q.view_is ∙ p.view_is;
  }

  -- and nothing more is logged
  pub descends_on : (a b c : Work) (xs : List Event) (k : ℕ) → Descends a b xs k → Descends b c [] 0 → Descends a c xs k
  descends_on a b c xs k p q =
      let same : k + 0 ≡ k = omega arith in
      subst (λ (m : ℕ). Descends a c xs m) same (subst (λ (zs : List Event). Descends a c zs (k + 0)) (append-nil xs) (descends_then a b c xs [] k 0 p q))

  pub commands_descend : (work : Work) → Descends work (with_commands kinds setup work) [] 0
  commands_descend work = by_untold (is_untold work.state) refl
    where
      c : ControllerState
      c = work.state

      letters : List (Letter ControllerSays)
      letters = command_letters kinds setup c (outstanding kinds setup (committed c) c.marks)

      by_untold : (b : Bool) → is_untold work.state ≡ b →
          Descends work (if b then record { state = record c { last_told = Some (processed (committed c)) }; save = work.save; letters = work.letters ++ letters } else work) [] 0
      by_untold true is = record {
        letters = letters;
        joined = refl;
        falls = commands_fall kinds setup quorum me f c is;
        front = prefix_refl (committed c);
        events = sym (append-nil (received c.vr.log));
        me_is = refl;
        size_is = refl;
        view_is = refl;
      }
      by_untold false is = descends_none work

  -- a primary with room to propose
  pub record IsReady (c : ControllerState) : Type 0 where
    pub mine : c.vr.me ≡ me
    pub size : c.vr.controllers ≡ n
    pub within : c.vr.commit ≤ length c.vr.log
    pub whole : is_alone c ≡ true → c.vr.commit ≡ length c.vr.log

  -- an entry that tells of no processed event, or of the first that is not
  abbrev IsPlain : ControllerState → Entry → Type 0
  IsPlain c entry = (places_processed (entry ∷ []) ≡ []) × (is_processed entry ≡ false)

  abbrev IsNext : ControllerState → Entry → Type 0
  IsNext c entry = (places_processed (entry ∷ []) ≡ processed (committed c) ∷ []) × (is_processed entry ≡ true)

  module _ (work : Work) (entry : Entry) (extra : ℕ) (ready : IsReady work.state)
      (fall : Falls kinds setup quorum me f work.state (pushed work.state entry work.state.vr.commit) (proposal work.state entry) extra) where
    abbrev c : ControllerState
    c = work.state

    abbrev c1 : ControllerState
    c1 = pushed c entry c.vr.commit

    abbrev c2 : ControllerState
    c2 = pushed c entry (length c.vr.log + 1)

    events_now : received (c.vr.log ++ entry ∷ []) ≡ received c.vr.log ++ received (entry ∷ [])
    events_now = received-append c.vr.log (entry ∷ [])

    -- in a group of several
    told_descends : Descends work (proposed_as false work entry) (received (entry ∷ [])) extra
    told_descends = record {
      letters = proposal c entry;
      joined = refl;
      falls = fall;
      front = prefix_is (committed c) (committed c1) (committed_same c entry ready.within);
      events = events_now;
      me_is = refl;
      size_is = refl;
      view_is = refl;
    }

    -- alone
    module _ (alone : is_alone work.state ≡ true) (answer : IsPlain work.state entry ⊎ IsNext work.state entry) where
      whole : c.vr.commit ≡ length c.vr.log
      whole = ready.whole alone

      all : committed c ≡ c.vr.log
      all = take_all c.vr.commit c.vr.log (let w = whole in omega (arith, w))

      one : committed c1 ≡ c.vr.log
      one = committed_same c entry ready.within ∙ all

      front : IsPrefix (committed c1) (committed c2)
      front = record { rest = entry ∷ []; joined = pushed_all c entry ∙ ap (λ (l : List Entry). l ++ entry ∷ []) (sym one) }

      count : processed (committed c2) ≡ processed (committed c1) + (if is_processed entry then 1 else 0)
      count =
          let h = sum_by-append (λ (x : Entry). if is_processed x then 1 else 0) c.vr.log (entry ∷ []) in
          let a = ap processed (pushed_all c entry) in
          let b = ap processed one in
          omega (arith, h, a, b)

      is_answer : IsPlain c entry ⊎ IsNext c entry → IsAnswer kinds setup quorum me f c1 c2 refl refl refl front (places_processed (entry ∷ []))
      is_answer (inl h) = let k = count in let z = ap {B = ℕ} (λ (b : Bool). if b then 1 else 0) h.1 in inl (h.0, omega (arith, k, z))
      is_answer (inr h) =
          let k = count in
          let z = ap {B = ℕ} (λ (b : Bool). if b then 1 else 0) h.1 in
          inr (h.0 ∙ ap (λ (m : ℕ). m ∷ []) (ap processed (sym (committed_same c entry ready.within))), omega (arith, k, z))

      abbrev answers : List (Letter ControllerSays)
      answers = flat_map (answers_at kinds setup c2) (places_processed (drop c.vr.commit (committed c2)))

      answers_fall : Falls kinds setup quorum me f c1 c2 answers 0
      answers_fall =
          subst (λ (l : List Entry). Falls kinds setup quorum me f c1 c2 (flat_map (answers_at kinds setup c2) (places_processed l)) 0) (sym (pushed_behind c entry whole))
          (answered_falls kinds setup quorum me f c1 c2 refl refl refl front (places_processed (entry ∷ [])) (is_answer answer))

      answered_descends : Descends work (with_answers kinds setup c.vr.commit (proposed_as true work entry)) (received (entry ∷ [])) extra
      answered_descends =
          let same : extra + 0 ≡ extra = omega arith in
          record {
            letters = proposal c entry ++ answers;
            joined = append_assoc work.letters (proposal c entry) answers;
            falls = subst (λ (k : ℕ). Falls kinds setup quorum me f c c2 (proposal c entry ++ answers) k) same (falls_then kinds setup quorum me f c c1 c2 (proposal c entry) answers extra 0 fall answers_fall);
            front = prefix_trans (prefix_is (committed c) (committed c1) (committed_same c entry ready.within)) front;
            events = events_now;
            me_is = refl;
            size_is = refl;
            view_is = refl;
          }

      alone_descends : Descends work (with_commands kinds setup (with_answers kinds setup c.vr.commit (proposed_as true work entry))) (received (entry ∷ [])) extra
      alone_descends =
          let answered = with_answers kinds setup c.vr.commit (proposed_as true work entry) in
          descends_on work answered (with_commands kinds setup answered) (received (entry ∷ [])) extra answered_descends (commands_descend answered)

    -- an entry that fits
    pub short_descends : is_past_limits work.state.vr.log entry ≡ false → IsPlain work.state entry ⊎ IsNext work.state entry → Descends work (after_proposal kinds setup work entry) (received (entry ∷ [])) extra
    short_descends short answer = by_limits (is_past_limits work.state.vr.log entry) short (is_alone work.state) refl
      where
        by_limits : (p : Bool) → p ≡ false → (a : Bool) → is_alone work.state ≡ a →
            Descends work (if p then leaving work (met_limit work.state entry)
            else if a then with_commands kinds setup (with_answers kinds setup work.state.vr.commit (proposed_as a work entry)) else proposed_as a work entry) (received (entry ∷ [])) extra
        by_limits true fine a is = absurd (true≢false fine)
        by_limits false fine true is = alone_descends is answer
        by_limits false fine false is = told_descends

    -- it has room then to propose more
    pub short_ready : is_past_limits work.state.vr.log entry ≡ false → Descends work (after_proposal kinds setup work entry) (received (entry ∷ [])) extra → IsReady (after_proposal kinds setup work entry).state
    short_ready short d = record {
      mine = d.me_is ∙ ready.mine;
      size = d.size_is ∙ ready.size;
      within = subst (λ (v : VrState). v.commit ≤ length v.log) (sym vr_is) (by_alone (is_alone c));
      whole = λ h. ap (λ (v : VrState). v.commit) vr_is ∙ ap (λ (b : Bool). if b then length c.vr.log + 1 else c.vr.commit) (sym (ap (λ (v : VrState). nat_eq (v.controllers / 2) 0) vr_is) ∙ h) ∙ sym long ∙ ap (λ (v : VrState). length v.log) (sym vr_is);
    }
      where
        vr_is : (after_proposal kinds setup work entry).state.vr ≡ (pushed c entry (if is_alone c then length c.vr.log + 1 else c.vr.commit)).vr
        vr_is = proposal_is kinds setup work entry short

        long : length (c.vr.log ++ entry ∷ []) ≡ length c.vr.log + 1
        long = length-append c.vr.log (entry ∷ [])

        by_alone : (b : Bool) → (if b then length c.vr.log + 1 else c.vr.commit) ≤ length (c.vr.log ++ entry ∷ [])
        by_alone true = let l = long in omega (arith, l)
        by_alone false = let l = long in let w = ready.within in omega (arith, l, w)

  -- past the limits nothing is logged
  pub past_descends : (work : Work) (entry : Entry) → is_past_limits work.state.vr.log entry ≡ true → Descends work (after_proposal kinds setup work entry) [] 0
  past_descends work entry past = by_limits (is_past_limits work.state.vr.log entry) past
    where
      by_limits : (p : Bool) → p ≡ true →
          Descends work (if p then leaving work (met_limit work.state entry)
          else if is_alone work.state then with_commands kinds setup (with_answers kinds setup work.state.vr.commit (proposed_as (is_alone work.state) work entry))
          else proposed_as (is_alone work.state) work entry) [] 0
      by_limits true is = record {
        letters = [];
        joined = sym (append-nil work.letters);
        falls = falls_none kinds setup quorum me f work.state (met_limit work.state entry) refl refl;
        front = prefix_refl (committed work.state);
        events = sym (append-nil (received work.state.vr.log));
        me_is = refl;
        size_is = refl;
        view_is = refl;
      }
      by_limits false is = absurd (true≢false (sym is))

  -- the first unprocessed event is proposed as processed where it is finished
  module _ (work : Work) (ready : IsReady work.state) (due : is_settled kinds setup work.state ≡ true) where
    parts : (is_finished kinds setup (committed work.state) work.state.marks ≡ true) × (nat_le (processed work.state.vr.log) (processed (committed work.state)) ≡ true)
    parts = and_parts (is_finished kinds setup (committed work.state) work.state.marks) (nat_le (processed work.state.vr.log) (processed (committed work.state))) due

    there : has_unprocessed (committed work.state) ≡ true
    there = (and_parts (has_unprocessed (committed work.state)) (nat_eq (length (wanted kinds setup (committed work.state) work.state.marks)) 0) parts.0).0

    processing_falls : Falls kinds setup quorum me f work.state (pushed work.state (processing work.state) work.state.vr.commit) (proposal work.state (processing work.state)) 0
    processing_falls = processed_falls kinds setup quorum me f n enough work.state ready.mine ready.size ready.within (processed (committed work.state)) there
        (leb-true (processed work.state.vr.log) (processed (committed work.state)) parts.1)

    processing_descends : is_past_limits work.state.vr.log (processing work.state) ≡ false → Descends work (after_proposal kinds setup work (processing work.state)) [] 0
    processing_descends short = short_descends work (processing work.state) 0 ready processing_falls short (inr (refl, refl))

    processing_ready : is_past_limits work.state.vr.log (processing work.state) ≡ false → IsReady (after_proposal kinds setup work (processing work.state)).state
    processing_ready short = short_ready work (processing work.state) 0 ready processing_falls short (processing_descends short)

  pub finishing_descends : (fuel : ℕ) (work : Work) → IsReady work.state → Descends work (finishing fuel kinds setup work) [] 0
  unfolding finishing
  finishing_descends zero work ready = descends_none work
  finishing_descends (suc m) work ready =
      by_cases (λ r. finishing_descends m next r) (is_settled kinds setup work.state) refl (is_past_limits work.state.vr.log (processing work.state)) refl (is_alone work.state)
    where
      next : Work
      next = after_proposal kinds setup work (processing work.state)

      by_cases : (IsReady next.state → Descends next (finishing m kinds setup next) [] 0) → (x : Bool) → is_settled kinds setup work.state ≡ x → (p : Bool) → is_past_limits work.state.vr.log (processing work.state) ≡ p → (a : Bool) →
          Descends work (if not x then work else if not p && a then finishing m kinds setup next else next) [] 0
      by_cases deeper false is p past a = descends_none work
      by_cases deeper true is true past a = past_descends work (processing work.state) past
      by_cases deeper true is false short true =
          descends_on work next (finishing m kinds setup next) [] 0 (processing_descends work ready is short) (deeper (processing_ready work ready is short))
      by_cases deeper true is false short false = processing_descends work ready is short

  pub finished_descends : (work : Work) → IsReady work.state → Descends work (after_finishing kinds setup work) [] 0
  finished_descends work ready = finishing_descends (length (received work.state.vr.log)) work ready

  -- Settle, once more is committed
  module _ (start : ControllerState) (work : Work) (log : work.state.vr.log ≡ start.vr.log) (marks : work.state.marks ≡ start.marks) (last : work.state.last_told ≡ start.last_told)
      (me_is : work.state.vr.me ≡ start.vr.me) (size_is : work.state.vr.controllers ≡ start.vr.controllers) (view_is : work.state.vr.view ≡ start.vr.view)
      (front : IsPrefix (committed start) (committed work.state)) (one : is_log (committed work.state) ≡ true) (most : processed (committed work.state) ≤ processed (committed start) + 1) where
    same_events : received work.state.vr.log ≡ received start.vr.log ++ []
    same_events = ap received log ∙ sym (append-nil (received start.vr.log))

    -- nothing is said
    pub silent_descends : processed (committed work.state) ≡ processed (committed start) → Descends (leaving work start) work [] 0
    silent_descends same = record {
      letters = [];
      joined = sym (append-nil work.letters);
      falls = none_answered kinds setup quorum me f start work.state log marks last front same;
      front = front;
      events = same_events;
      me_is = me_is;
      size_is = size_is;
      view_is = view_is;
    }

    counted : processed (committed work.state) ≡ processed (committed start) + processed front.rest
    counted = ap processed front.joined ∙ sum_by-append (λ (x : Entry). if is_processed x then 1 else 0) (committed start) front.rest

    places : places_processed front.rest ≡ range_with_len (processed (committed start)) (processed front.rest)
    places = places_are (committed start) front.rest (sym (ap is_log front.joined) ∙ one)

    are_answers : (m : ℕ) → processed front.rest ≡ m → m ≤ 1 → IsAnswer kinds setup quorum me f start work.state log marks last front (places_processed front.rest)
    are_answers zero e small = let k = counted in inl (places ∙ ap (range_with_len (processed (committed start))) e, omega (arith, k, e))
    are_answers (suc zero) e small = let k = counted in inr (places ∙ ap (range_with_len (processed (committed start))) e, omega (arith, k, e))
    are_answers (suc (suc m)) e small = absurd (omega (arith, small))

    module _ (before : ℕ) (is : before ≡ length (committed start)) where
      rest_behind : drop before (committed work.state) ≡ front.rest
      rest_behind = ap (λ (k : ℕ). drop k (committed work.state)) is ∙ ap (drop (length (committed start))) front.joined ∙ drop-append_seam (committed start) front.rest

      settled_answers : Descends (leaving work start) (with_answers kinds setup before work) [] 0
      settled_answers = record {
        letters = flat_map (answers_at kinds setup work.state) (places_processed (drop before (committed work.state)));
        joined = refl;
        falls = subst (λ (l : List Entry). Falls kinds setup quorum me f start work.state (flat_map (answers_at kinds setup work.state) (places_processed l)) 0) (sym rest_behind)
            (answered_falls kinds setup quorum me f start work.state log marks last front (places_processed front.rest) (are_answers (processed front.rest) refl (let k = counted in omega (arith, k, most))));
        front = front;
        events = same_events;
        me_is = me_is;
        size_is = size_is;
        view_is = view_is;
      }

      pub settling_descends : IsReady work.state → Descends (leaving work start) (settling kinds setup before work) [] 0
      unfolding settling
      settling_descends ready =
          let answered = with_answers kinds setup before work in
          let told = with_commands kinds setup answered in
          let some = commands_descend answered in
          descends_on (leaving work start) told (after_finishing kinds setup told) [] 0 (descends_on (leaving work start) answered told [] 0 settled_answers some)
          (finished_descends told (record {
            mine = some.me_is ∙ ready.mine;
            size = some.size_is ∙ ready.size;
            within = subst (λ (v : VrState). v.commit ≤ length v.log) (sym (commands_vr kinds setup answered)) ready.within;
            whole = λ h. subst (λ (v : VrState). v.commit ≡ length v.log) (sym (commands_vr kinds setup answered)) (ready.whole (sym (ap (λ (v : VrState). nat_eq (v.controllers / 2) 0) (commands_vr kinds setup answered)) ∙ h));
          }))
