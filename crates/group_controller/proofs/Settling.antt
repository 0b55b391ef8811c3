-- Settle, and the start of a view.
use Rattle.std.proofs.Common.{inl, inr, ◌⊎◌, ◌≡◌, ◌≤◌, ℕ, ◌+◌, ◌-◌, Bool, true, false, not, ◌&&◌, List, length, map, drop, refl, sym, ap, subst, ◌∙◌, arith}
use Rattle.std.specs.Prelude.{Option, None, flat_map, if◌then◌else◌}
use Rattle.of_types.specs.declared.setup.Setup.{Setup}
use Rattle.journal.specs.declared.journal.Letter.{Letter}
use Rattle.vr_log.specs.declared.entry.Entry.{Entry}
use Rattle.vr_log.specs.Log.{is_past_limits, processed}
use Rattle.vr_log.specs.Steps.{later_of}
use Rattle.vr_log.specs.declared.entry.Entry.TheVariants.{Processed}
use Rattle.vr_normal.specs.Proposing.{proposed}
use Rattle.vr_core.specs.Lasting.{Lasts}
use Rattle.vr_core.proofs.Keeping.{lasts_on, lasts_same}
use Rattle.vr_core.proofs.Lasting.{later_of_three}
use Rattle.app_core.specs.Law.{AppLaw}
use Rattle.dispatcher.specs.declared.answers.HandledEvent.{HandledEvent}
use Rattle.dispatcher.specs.Folding.{places_processed}
use Rattle.dispatcher.specs.Ledger.{Dispatching, ForEachLog, StandsFor}
use Rattle.dispatcher.specs.Marks.{Marks, no_marks}
use Rattle.group_controller.specs.declared.messages.ControllerSays.{ControllerSays}
use Rattle.group_controller.specs.Acting.{Acting, Acts, ActsUpTo, answers_to, AreNewlyHandled, posts_letters, with_state, Works}
use Rattle.group_controller.specs.Rules.{starting_view, switches, unconfirmed}
use Rattle.group_controller.specs.Settling.{after_finishing, finishing, is_settled, processing, settling, after_proposal, answers_at, goes_on, is_alone, with_answers, role_letter, with_commands, with_proposal}
use Rattle.group_controller.specs.State.{ControllerState, Work, committed, met_limit, posting_work, leaving}
use Rattle.group_controller.proofs.Acting.{Proposing, does_as, posts_does, stays, then_does}
use Rattle.group_controller.proofs.Answering.{answers_new}
use Rattle.group_controller.proofs.Finishing.{filter_all, finishing_last, finishing_more, finishing_none, finishing_rests}

module _ {A : Type 0} (law : AppLaw A) (kinds : List ℕ) (setup : Setup) where
  abbrev IsActing : Acting A → Type 0
  IsActing a = Acts law a kinds setup

  abbrev Does : Acting A → Work → Acting A → Type 0
  Does a work b = Works law kinds setup a work b

  -- the dispatcher followed: the turn is as it was
  pub refolded : (a f : Acting A) → IsActing f → f.work ≡ a.work → f.promise ≡ a.promise → Does a a.work f
  refolded a f h work promise =
      record { acts = h; work_is = work; saved = None; lasts = subst (λ (w : Work). Lasts a.work.state.vr None w.state.vr) (sym work) (lasts_same a.work.state.vr); promise_is = promise }

  -- events that are newly processed were answered
  pub answers_do : (f b : Acting A) (before : ℕ) (list : List HandledEvent) → IsActing f → AreNewlyHandled kinds setup f.work.state before list → b ≡ posts_letters f (flat_map (answers_to kinds setup f.work.state) list) →
      Does f (with_answers kinds setup before f.work) b
  answers_do f b before list h new is =
      posts_does law kinds setup f b (flat_map (answers_at kinds setup f.work.state) (places_processed (drop before (committed f.work.state)))) h
      (is ∙ ap (λ (l : List (Letter ControllerSays)). posts_letters f l) (answers_new kinds setup f.work.state before list new))

  pub follow_does : (a f b n : Acting A) (before : ℕ) → Does a a.work f → Does f (with_answers kinds setup before f.work) b → Does b (with_commands kinds setup b.work) n →
      Does a (with_commands kinds setup (with_answers kinds setup before a.work)) n
  follow_does a f b n before first second third =
      let answered_is = second.work_is ∙ ap (λ (w : Work). with_answers kinds setup before w) first.work_is in
      does_as law kinds setup a n (with_commands kinds setup b.work) (with_commands kinds setup (with_answers kinds setup before a.work)) (ap (λ (w : Work). with_commands kinds setup w) answered_is)
      (then_does law kinds setup a f n a.work (with_commands kinds setup b.work) first (then_does law kinds setup f b n (with_answers kinds setup before f.work) (with_commands kinds setup b.work) second third))

  -- what a proposal left: the entry joined the log, or met its limit
  pub data Proposed (a m : Acting A) (entry : Entry) : Type 0 where
    Joined : is_past_limits a.work.state.vr.log entry ≡ false → Proposing law kinds setup a m entry → Proposed a m entry
    Full : is_past_limits a.work.state.vr.log entry ≡ true → m ≡ with_state a (met_limit a.work.state entry) → Proposed a m entry

  alone_grows : (c : ControllerState) (entry : Entry) → c.vr.commit ≤ length c.vr.log → is_alone c ≡ true → (proposed c.vr entry).state.commit ≡ c.vr.commit → ⊥
  alone_grows c entry reach alone same =
      let e : (proposed c.vr entry).state.commit ≡ length c.vr.log + 1 = ap (λ (b : Bool). if b then length c.vr.log + 1 else c.vr.commit) alone in
      let z = sym e ∙ same in omega (arith, z, reach)

  pub proposed_same : (a m : Acting A) (entry : Entry) → IsActing a → Proposed a m entry → m.work.state.vr.commit ≡ a.work.state.vr.commit →
      (false ≡ goes_on a.work.state entry) × Does a (after_proposal kinds setup a.work entry) m
  proposed_same a m entry h (Full past is) same =
      let c = a.work.state in
      let off : goes_on c entry ≡ false = ap (λ (b : Bool). not b && is_alone c) past in
      let rest = if is_alone c then with_commands kinds setup (with_answers kinds setup c.vr.commit (with_proposal a.work entry)) else with_proposal a.work entry in
      let rule : after_proposal kinds setup a.work entry ≡ leaving a.work (met_limit c entry) = ap (λ (b : Bool). if b then leaving a.work (met_limit c entry) else rest) past in (
        sym off,
        subst (λ (x : Acting A). Does a (after_proposal kinds setup a.work entry) x) (sym is)
            (record {
              acts = record { valid = h.valid; own = h.own; reach = h.reach; stands = h.stands; marks = h.marks; saves = h.saves };
              work_is = sym rule;
              saved = None;
              lasts = lasts_same c.vr;
              promise_is = refl;
            }),
      )
  proposed_same a m entry h (Joined within p) same =
      let c = a.work.state in
      let grown : (proposed c.vr entry).state.commit ≡ c.vr.commit = ap (λ (w : Work). w.state.vr.commit) (sym p.work_is) ∙ same in
      by_alone (is_alone c) refl grown
    where
      by_alone : (b : Bool) → is_alone a.work.state ≡ b → (proposed a.work.state.vr entry).state.commit ≡ a.work.state.vr.commit → (false ≡ goes_on a.work.state entry) × Does a (after_proposal kinds setup a.work entry) m
      by_alone true alone grown = absurd (alone_grows a.work.state entry h.valid.commit alone grown)
      by_alone false alone grown =
          let c = a.work.state in
          let off : goes_on c entry ≡ false = ap (λ (b : Bool). not b && is_alone c) within ∙ alone in
          let on = with_commands kinds setup (with_answers kinds setup c.vr.commit (with_proposal a.work entry)) in
          let rule : after_proposal kinds setup a.work entry ≡ with_proposal a.work entry =
          ap (λ (b : Bool). if b then leaving a.work (met_limit c entry) else if is_alone c then on else with_proposal a.work entry) within ∙ ap (λ (b : Bool). if b then on else with_proposal a.work entry) alone in
          let e : a.work.state.vr.commit ≡ m.work.state.vr.commit = sym same in (
            sym off,
            record {
              acts = subst (λ (n : ℕ). ActsUpTo law n m kinds setup) e p.acts;
              work_is = p.work_is ∙ sym rule;
              saved = None;
              lasts = p.lasts;
              promise_is = p.promise_is;
            },
          )

  pub proposed_grows : (a m n : Acting A) (entry : Entry) (before : ℕ) → Proposed a m entry → before ≡ a.work.state.vr.commit → (m.work.state.vr.commit ≡ a.work.state.vr.commit → ⊥) →
      (ActsUpTo law before m kinds setup → Does m (with_commands kinds setup (with_answers kinds setup before m.work)) n) →
      (true ≡ goes_on a.work.state entry) × Does a (after_proposal kinds setup a.work entry) n
  proposed_grows a m n entry before (Full past is) at grows follow = absurd (grows (ap (λ (x : Acting A). x.work.state.vr.commit) is))
  proposed_grows a m n entry before (Joined within p) at grows follow = by_alone (is_alone a.work.state) refl
    where
      by_alone : (b : Bool) → is_alone a.work.state ≡ b → (true ≡ goes_on a.work.state entry) × Does a (after_proposal kinds setup a.work entry) n
      by_alone false alone =
          let c = a.work.state in
          absurd (grows (ap (λ (w : Work). w.state.vr.commit) p.work_is ∙ ap (λ (b : Bool). if b then length c.vr.log + 1 else c.vr.commit) alone))
      by_alone true alone =
          let c = a.work.state in
          let yes_on : goes_on c entry ≡ true = ap (λ (b : Bool). not b && is_alone c) within ∙ alone in
          let on = with_commands kinds setup (with_answers kinds setup c.vr.commit (with_proposal a.work entry)) in
          let rule : after_proposal kinds setup a.work entry ≡ on =
          ap (λ (b : Bool). if b then leaving a.work (met_limit c entry) else if is_alone c then on else with_proposal a.work entry) within ∙ ap (λ (b : Bool). if b then on else with_proposal a.work entry) alone in
          let f = follow (subst (λ (k : ℕ). ActsUpTo law k m kinds setup) (sym at) p.acts) in (
            sym yes_on,
            record {
              acts = f.acts;
              work_is = f.work_is ∙ ap (λ (w : Work). with_commands kinds setup (with_answers kinds setup before w)) p.work_is ∙ ap (λ (k : ℕ). with_commands kinds setup (with_answers kinds setup k (with_proposal a.work entry))) at ∙ sym rule;
              saved = later_of None f.saved;
              lasts = lasts_on a.work.state.vr m.work.state.vr n.work.state.vr None f.saved p.lasts f.lasts;
              promise_is = f.promise_is ∙ ap (λ (q : Option ℕ). later_of q f.saved) p.promise_is ∙ later_of_three a.promise None f.saved;
            },
          )

  -- Settle, third step
  pub finish_rests : (a : Acting A) (more : ℕ) → IsActing a → (more ≡ 0) ⊎ (is_settled kinds setup a.work.state ≡ false) → Does a (finishing more kinds setup a.work) a
  finish_rests a more h (inl none) = does_as law kinds setup a a a.work (finishing more kinds setup a.work) (sym (finishing_none kinds setup more a.work none)) (stays law kinds setup a h)
  finish_rests a more h (inr off) = does_as law kinds setup a a a.work (finishing more kinds setup a.work) (sym (finishing_rests kinds setup more a.work off)) (stays law kinds setup a h)

  pub finish_more : (a b n : Acting A) (more place : ℕ) → place ≡ processed (committed a.work.state) → (more ≡ 0 → ⊥) → is_settled kinds setup a.work.state ≡ true → goes_on a.work.state (Processed place) ≡ true →
      Does a (after_proposal kinds setup a.work (Processed place)) b → Does b (finishing (more - 1) kinds setup b.work) n → Does a (finishing more kinds setup a.work) n
  finish_more a b n more place at some on again first rest =
      let entry : Processed place ≡ processing a.work.state = ap (λ (k : ℕ). Processed k) at in
      let left = first.work_is ∙ ap (λ (e : Entry). after_proposal kinds setup a.work e) entry in
      does_as law kinds setup a n (finishing (more - 1) kinds setup b.work) (finishing more kinds setup a.work)
      (ap (λ (w : Work). finishing (more - 1) kinds setup w) left ∙ sym (finishing_more kinds setup more a.work some on (ap (λ (e : Entry). goes_on a.work.state e) (sym entry) ∙ again)))
      (then_does law kinds setup a b n (after_proposal kinds setup a.work (Processed place)) (finishing (more - 1) kinds setup b.work) first rest)

  pub finish_last : (a b : Acting A) (more place : ℕ) → place ≡ processed (committed a.work.state) → (more ≡ 0 → ⊥) → is_settled kinds setup a.work.state ≡ true → goes_on a.work.state (Processed place) ≡ false →
      Does a (after_proposal kinds setup a.work (Processed place)) b → Does a (finishing more kinds setup a.work) b
  finish_last a b more place at some on again first =
      let entry : Processed place ≡ processing a.work.state = ap (λ (k : ℕ). Processed k) at in
      does_as law kinds setup a b (after_proposal kinds setup a.work (Processed place)) (finishing more kinds setup a.work)
      (ap (λ (e : Entry). after_proposal kinds setup a.work e) entry ∙ sym (finishing_last kinds setup more a.work some on (ap (λ (e : Entry). goes_on a.work.state e) (sym entry) ∙ again))) first

  -- Settle
  pub settle_does : (a b c n : Acting A) (before : ℕ) → Does a (with_answers kinds setup before a.work) b → Does b (with_commands kinds setup b.work) c → Does c (after_finishing kinds setup c.work) n →
      Does a (settling kinds setup before a.work) n
  unfolding settling
  settle_does a b c n before first second third =
      let w = with_answers kinds setup before a.work in
      let told : c.work ≡ with_commands kinds setup w = second.work_is ∙ ap (λ (x : Work). with_commands kinds setup x) first.work_is in
      does_as law kinds setup a n (after_finishing kinds setup c.work) (settling kinds setup before a.work) (ap (λ (x : Work). after_finishing kinds setup x) told)
      (then_does law kinds setup a b n w (after_finishing kinds setup c.work) first (then_does law kinds setup b c n (with_commands kinds setup b.work) (after_finishing kinds setup c.work) second third))

  -- a view starts
  pub begin_does : (a b c n : Acting A) (d : Dispatching A) → IsActing a → d.marks ≡ no_marks → ForEachLog (StandsFor law a.dispatcher) (StandsFor law d) →
      b ≡ record a { work = record a.work { state = record a.work.state { marks = d.marks; last_told = None } }; dispatcher = d } →
      c ≡ posts_letters b (map (role_letter b.work.state.vr.view) (unconfirmed setup b.work.state)) → Does c (settling kinds setup c.work.state.vr.commit c.work) n → Does a (starting_view kinds setup a.work) n
  begin_does a b c n d h marks still is asked settled =
      let s : ControllerState = record a.work.state { marks = no_marks; last_told = None } in
      let first : Acting A = record a { work = leaving a.work s; dispatcher = d } in
      let begins : b ≡ first = is ∙ ap (λ (m : Marks). record a { work = leaving a.work (record a.work.state { marks = m; last_told = None }); dispatcher = d }) marks in
      let acts : IsActing first = record { valid = h.valid; own = h.own; reach = h.reach; stands = still kinds setup (committed a.work.state) h.stands; marks = sym marks; saves = h.saves } in
      let letters = map (role_letter a.work.state.vr.view) (switches setup) in
      let all : c ≡ posts_letters first letters =
      asked ∙ ap (λ (x : Acting A). posts_letters x (map (role_letter x.work.state.vr.view) (unconfirmed setup x.work.state))) begins
      ∙ ap (λ (l : List ℕ). posts_letters first (map (role_letter a.work.state.vr.view) l)) (filter_all (switches setup)) in
      let second = posts_does law kinds setup first c letters acts all in
      let left : Does a (leaving a.work s) first = record { acts = acts; work_is = refl; saved = None; lasts = lasts_same a.work.state.vr; promise_is = refl } in
      does_as law kinds setup a n (settling kinds setup c.work.state.vr.commit c.work) (starting_view kinds setup a.work)
      (ap (λ (w : Work). settling kinds setup w.state.vr.commit w) second.work_is)
      (then_does law kinds setup a first n (leaving a.work s) (settling kinds setup c.work.state.vr.commit c.work) left (then_does law kinds setup first c n (posting_work first.work letters) (settling kinds setup c.work.state.vr.commit c.work) second settled))

  pub begun_acts : (a b : Acting A) (d : Dispatching A) → IsActing a → ForEachLog (StandsFor law a.dispatcher) (StandsFor law d) →
      b ≡ record a { work = record a.work { state = record a.work.state { marks = d.marks; last_told = None } }; dispatcher = d } → IsActing b
  begun_acts a b d h still is =
      subst (λ (x : Acting A). IsActing x) (sym is)
      (record { valid = h.valid; own = h.own; reach = h.reach; stands = still kinds setup (committed a.work.state) h.stands; marks = refl; saves = h.saves })
