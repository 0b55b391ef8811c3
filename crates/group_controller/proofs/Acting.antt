-- How a turn goes on: letters, steps of the member, proposals.
use Rattle.std.proofs.Common.{◌≡◌, ◌≤◌, ◌<◌, ℕ, ◌+◌, get_or, Bool, true, false, not, ◌&&◌, List, [], ◌∷◌, ◌++◌, length, map, take, drop, refl, sym, ap, subst, ◌∙◌, arith, append-nil, append_assoc}
use Rattle.std.specs.Prelude.{nat_eq, Option, Some, None, Result, Ok, Err, filter, flat_map, if◌then◌else◌}
use Rattle.std.proofs.lemmas.Bool.{and_parts, eq-eqb}
use Rattle.std.proofs.lemmas.List.{take_more}
use Rattle.std.specs.List.{range_with_len}
use Rattle.of_types.specs.declared.numbers.TheConstants.{MASTER}
use Rattle.std.proofs.lemmas.Grind.{flat_map-append}
use Rattle.of_types.specs.declared.setup.Setup.{Setup}
use Rattle.journal.specs.declared.journal.Letter.{Letter}
use Rattle.vr_log.specs.declared.entry.Entry.{Entry}
use Rattle.vr_log.specs.declared.state.VrState.{VrState}
use Rattle.vr_log.specs.declared.message.VrLetter.{VrLetter}
use Rattle.vr_log.specs.declared.state.VrOut.{VrOut}
use Rattle.vr_log.specs.declared.entry.LogFull.{LogFull}
use Rattle.vr_log.specs.Log.{full_at, is_past_limits, processed}
use Rattle.vr_log.specs.Members.{is_normal, is_primary, leads}
use Rattle.vr_log.specs.Valid.{IsValidState}
use Rattle.vr_log.specs.Steps.{VrStep, later_of}
use Rattle.vr_normal.specs.declared.normal.ProposeFault.{ProposeFault}
use Rattle.vr_normal.specs.declared.normal.ProposeFault.TheVariants as fault
use Rattle.vr_normal.specs.Proposing.{proposed}
use Rattle.vr_core.specs.declared.input.VrInput.{VrInput}
use Rattle.vr_core.specs.declared.input.VrInput.TheVariants as vr_input
use Rattle.vr_core.specs.Lasting.{CollectsItsOwn, Lasts}
use Rattle.vr_core.specs.Step.{Stepped, vr_step}
use Rattle.vr_core.proofs.Keeping.{lasts_on, lasts_same, later_than_none}
use Rattle.vr_core.proofs.Lasting.{later_of_three, proposal_stays, step_stays, tick_same}
use Rattle.two_stage_log.specs.Counts.{has_unprocessed}
use Rattle.app_core.specs.Law.{AppLaw}
use Rattle.dispatcher.specs.declared.answers.HandledEvent.{HandledEvent}
use Rattle.dispatcher.specs.declared.numbered.NumberedOrder.{NumberedOrder}
use Rattle.dispatcher.specs.Folding.{numbered}
use Rattle.dispatcher.specs.Ledger.{Dispatching, ForEachLog, StandsFor}
use Rattle.dispatcher.specs.Marks.{Marks, confirmed_by, is_confirmed, outstanding, pending_alone}
use Rattle.group_controller.specs.declared.messages.ControllerSays.{ControllerSays}
use Rattle.group_controller.specs.Acting.{Acting, Acts, ActsUpTo, BeginsTurn, Offers, pair_with, posts_letters, TakesStep, with_out, with_state, Works}
use Rattle.group_controller.specs.Rules.{commands_for, on_master, on_role_reply, on_tick, tick_letters, unconfirmed}
use Rattle.group_controller.specs.Settling.{role_letter, command_letter, command_letters, is_some_of, is_untold, with_commands, with_proposal}
use Rattle.group_controller.specs.State.{ControllerState, Work, committed, with_settled_forgotten, met_limit, posting_work, leaving, resting, stepped, to_members}
use Rattle.group_controller.proofs.Answering.{asked_more, letters_are, parts_join}

module _ {A : Type 0} where
  pub posts_twice : (a : Acting A) (xs ys : List (Letter ControllerSays)) → posts_letters (posts_letters a xs) ys ≡ posts_letters a (xs ++ ys)
  posts_twice a xs ys = ap (λ (l : List (Letter ControllerSays)). record a { work = record a.work { letters = l } }) (append_assoc a.work.letters xs ys)

  -- an offer that was taken, and one that met the limit
  pub offer_joins : (a b : Acting A) (entry : Entry) (r : Result (Unit {0}) ProposeFault) (done : Unit {0}) → Offers a entry r b → r ≡ Ok done →
      (is_past_limits a.work.state.vr.log entry ≡ false) × TakesStep a (proposed a.work.state.vr entry) b
  offer_joins a b entry r done offers is = subst (λ x. Offers a entry x b) is offers

  pub offer_full : (a b : Acting A) (entry : Entry) (r : Result (Unit {0}) ProposeFault) (full : LogFull) → Offers a entry r b → r ≡ Err (fault.LogFull full) →
      (is_past_limits a.work.state.vr.log entry ≡ true) × (full ≡ full_at a.work.state.vr.log entry) × (b ≡ a)
  offer_full a b entry r full offers is = subst (λ x. Offers a entry x b) is offers

  pub full_noted : (a b m : Acting A) (entry : Entry) (full : LogFull) → full ≡ full_at a.work.state.vr.log entry → b ≡ a →
      m ≡ with_state b (record b.work.state { full = Some full }) → m ≡ with_state a (met_limit a.work.state entry)
  full_noted a b m entry full at same is =
      is ∙ ap (λ (x : Acting A). with_state x (record x.work.state { full = Some full })) same ∙ ap (λ (f : LogFull). with_state a (record a.work.state { full = Some f })) at

  pub asked_yes : (p : ℕ → Bool) (start now new : Acting A) (view n : ℕ) → p n ≡ true → now ≡ posts_letters start (map (role_letter view) (filter p (range_with_len 0 n))) → new ≡ posts_letters now (role_letter view n ∷ []) →
      new ≡ posts_letters start (map (role_letter view) (filter p (range_with_len 0 (n + 1))))
  asked_yes p start now new view n yes_n before this =
      let asked = map (role_letter view) (filter p (range_with_len 0 n)) in
      let more = asked_more p view n ∙ ap (λ (b : Bool). asked ++ map (role_letter view) (if b then n ∷ [] else [])) yes_n in
      this ∙ ap (λ (x : Acting A). posts_letters x (role_letter view n ∷ [])) before ∙ posts_twice start asked (role_letter view n ∷ []) ∙ ap (λ (l : List (Letter ControllerSays)). posts_letters start l) (sym more)

  pub asked_no : (p : ℕ → Bool) (start now : Acting A) (view n : ℕ) → p n ≡ false → now ≡ posts_letters start (map (role_letter view) (filter p (range_with_len 0 n))) →
      now ≡ posts_letters start (map (role_letter view) (filter p (range_with_len 0 (n + 1))))
  asked_no p start now view n no_n before =
      let asked = map (role_letter view) (filter p (range_with_len 0 n)) in
      let more = asked_more p view n ∙ ap (λ (b : Bool). asked ++ map (role_letter view) (if b then n ∷ [] else [])) no_n ∙ append-nil asked in
      before ∙ ap (λ (l : List (Letter ControllerSays)). posts_letters start l) (sym more)

module _ {A : Type 0} (law : AppLaw A) (kinds : List ℕ) (setup : Setup) where
  abbrev IsActing : Acting A → Type 0
  IsActing a = Acts law a kinds setup

  abbrev Does : Acting A → Work → Acting A → Type 0
  Does a work b = Works law kinds setup a work b

  -- the dispatcher takes what was committed behind a place
  pub folded_acts : (a b : Acting A) (place : ℕ) → ActsUpTo law place a kinds setup → b.work ≡ a.work → b.promise ≡ a.promise → b.dispatcher.marks ≡ a.dispatcher.marks →
      StandsFor law b.dispatcher kinds setup (take place a.work.state.vr.log ++ drop place (take a.work.state.vr.commit a.work.state.vr.log)) → IsActing b
  folded_acts a b place h work promise marks stands =
      let joined = subst (λ (l : List Entry). StandsFor law b.dispatcher kinds setup l) (parts_join place a.work.state.vr.commit a.work.state.vr.log h.reach) stands in
      let base : IsActing (record a { dispatcher = b.dispatcher }) =
      record { valid = h.valid; own = h.own; reach = omega arith; stands = joined; marks = h.marks ∙ sym marks; saves = h.saves } in
      subst (λ (x : Acting A). IsActing x) (sym (same_parts b a work promise)) base
    where
      same_parts : (b a : Acting A) → b.work ≡ a.work → b.promise ≡ a.promise → b ≡ record a { dispatcher = b.dispatcher }
      same_parts b a w p = ap (λ (x : Work). record b { work = x }) w ∙ ap (λ (x : Option ℕ). record b { work = a.work; promise = x }) p

  pub stays : (a : Acting A) → IsActing a → Does a a.work a
  stays a h = record { acts = h; work_is = refl; saved = None; lasts = lasts_same a.work.state.vr; promise_is = refl }

  pub posts_does : (a b : Acting A) (letters : List (Letter ControllerSays)) → IsActing a → b ≡ posts_letters a letters → Does a (posting_work a.work letters) b
  posts_does a b letters h is =
      subst (λ (x : Acting A). Does a (posting_work a.work letters) x) (sym is)
      (record {
        acts = record { valid = h.valid; own = h.own; reach = h.reach; stands = h.stands; marks = h.marks; saves = h.saves };
        work_is = refl;
        saved = None;
        lasts = lasts_same a.work.state.vr;
        promise_is = refl;
      })

  -- one rule, and then another
  pub then_does : (a b c : Acting A) (work next : Work) → Does a work b → Does b next c → Does a next c
  then_does a b c work next f g =
      record {
        acts = g.acts;
        work_is = g.work_is;
        saved = later_of f.saved g.saved;
        lasts = lasts_on a.work.state.vr b.work.state.vr c.work.state.vr f.saved g.saved f.lasts g.lasts;
        promise_is = g.promise_is ∙ ap (λ (p : Option ℕ). later_of p g.saved) f.promise_is ∙ later_of_three a.promise f.saved g.saved;
      }

  pub does_as : (a b : Acting A) (work next : Work) → work ≡ next → Does a work b → Does a next b
  does_as a b work next is f = subst (λ (w : Work). Does a w b) is f

  pub posts_none : (a : Acting A) → a ≡ posts_letters a []
  posts_none a = ap (λ (l : List (Letter ControllerSays)). record a { work = record a.work { letters = l } }) (sym (append-nil a.work.letters))

  pub posts_acts : (a b : Acting A) (letters : List (Letter ControllerSays)) → IsActing a → b ≡ posts_letters a letters → IsActing b
  posts_acts a b letters h is = (posts_does a b letters h is).acts

  -- one event more was answered
  pub answered : (f : HandledEvent → List (Letter ControllerSays)) (start now new : Acting A) (list : List HandledEvent) (i : ℕ) (h : HandledEvent) → i < length list → h ≡ get_or list i h →
      now ≡ posts_letters start (flat_map f (take i list)) → new ≡ posts_letters now (f h) → new ≡ posts_letters start (flat_map f (take (i + 1) list))
  answered f start now new list i h low at before this =
      let more : take (i + 1) list ≡ take i list ++ h ∷ [] = take_more list i h low ∙ ap (λ (y : HandledEvent). take i list ++ y ∷ []) (sym at) in
      let grown : flat_map f (take (i + 1) list) ≡ flat_map f (take i list) ++ f h =
      ap (λ (l : List HandledEvent). flat_map f l) more ∙ flat_map-append f (take i list) (h ∷ []) ∙ ap (λ (l : List (Letter ControllerSays)). flat_map f (take i list) ++ l) (append-nil (f h)) in
      this ∙ ap (λ (x : Acting A). posts_letters x (f h)) before ∙ posts_twice start (flat_map f (take i list)) (f h) ∙ ap (λ (l : List (Letter ControllerSays)). posts_letters start l) (sym grown)

  -- the commands of the first unprocessed event went out
  pub untold : (c : ControllerState) (has told : Bool) (place : ℕ) → has ≡ has_unprocessed (committed c) → has ≡ true → told ≡ is_some_of place c.last_told → told ≡ false → place ≡ processed (committed c) →
      is_untold c ≡ true
  untold c has told place a yes_a b no_b is =
      let x : has_unprocessed (committed c) ≡ true = sym a ∙ yes_a in
      let y : not (is_some_of (processed (committed c)) c.last_told) ≡ true = ap (λ (n : ℕ). not (is_some_of n c.last_told)) (sym is) ∙ ap not (sym b ∙ no_b) in
      rw (x, y) refl

  pub untold_does : (a b : Acting A) (place : ℕ) (commands : List NumberedOrder) → IsActing a → is_untold a.work.state ≡ true → place ≡ processed (committed a.work.state) →
      commands ≡ map (numbered kinds setup (committed a.work.state)) (outstanding kinds setup (committed a.work.state) a.work.state.marks) → b ≡ posts_letters a (map (command_letter a.work.state.vr.view) commands) →
      Does a (with_commands kinds setup a.work) (record b { work = record b.work { state = record b.work.state { last_told = Some place } } })
  untold_does a b place commands h is at are posted =
      let c = a.work.state in
      let letters = command_letters kinds setup c (outstanding kinds setup (committed c) c.marks) in
      let sent = posted ∙ ap (λ (l : List (Letter ControllerSays)). posts_letters a l) (ap (λ (l : List NumberedOrder). map (command_letter c.vr.view) l) are ∙ letters_are kinds setup c (outstanding kinds setup (committed c) c.marks)) in
      let work : Work = leaving (posting_work a.work letters) (record c { last_told = Some (processed (committed c)) }) in
      let rule : with_commands kinds setup a.work ≡ work = ap (λ (b : Bool). if b then work else a.work) is in
      subst (λ (x : Acting A). Does a (with_commands kinds setup a.work) (record x { work = record x.work { state = record x.work.state { last_told = Some place } } })) (sym sent)
      (does_as a (record a { work = record (posting_work a.work letters) { state = record c { last_told = Some place } } }) (record (posting_work a.work letters) { state = record c { last_told = Some place } }) (with_commands kinds setup a.work)
      (ap (λ (n : ℕ). leaving (posting_work a.work letters) (record c { last_told = Some n })) at ∙ sym rule)
      (record {
        acts = record { valid = h.valid; own = h.own; reach = h.reach; stands = h.stands; marks = h.marks; saves = h.saves };
        work_is = refl;
        saved = None;
        lasts = lasts_same c.vr;
        promise_is = refl;
      }))

  pub told_does : (a : Acting A) → IsActing a → is_untold a.work.state ≡ false → Does a (with_commands kinds setup a.work) a
  told_does a h off =
      let work : Work = leaving (posting_work a.work (command_letters kinds setup a.work.state (outstanding kinds setup (committed a.work.state) a.work.state.marks))) (record a.work.state { last_told = Some (processed (committed a.work.state)) }) in
      does_as a a a.work (with_commands kinds setup a.work) (sym (ap (λ (b : Bool). if b then work else a.work) off)) (stays a h)

  -- a step of the member
  pub record Stepping (a b : Acting A) (step : VrStep) : Type 0 where
    pub acts : ActsUpTo law a.work.state.vr.commit b kinds setup
    pub work_is : b.work ≡ stepped a.work.state step
    pub lasts : Lasts a.work.state.vr step.promise b.work.state.vr
    pub promise_is : b.promise ≡ later_of a.promise step.promise

  pub steps : (a b : Acting A) (x : VrInput) (r : VrState) (out : VrOut) → BeginsTurn law a kinds setup → IsValidState r → Stepped (vr_step a.work.state.vr x) r out →
      b ≡ with_out (with_state a (record a.work.state { vr = r })) out → Stepping a b (vr_step a.work.state.vr x)
  steps a b x r out h valid did is =
      let c = a.work.state in
      let step = vr_step c.vr x in
      let s = step_stays c.vr x h.acts.valid h.acts.own in
      let promise : later_of a.promise out.promise ≡ step.promise = ap (λ (q : Option ℕ). later_of q out.promise) h.unsaved ∙ later_than_none out.promise ∙ did.promise_is in
      let letters : a.work.letters ++ to_members out.letters ≡ to_members step.letters =
      ap (λ (w : Work). w.letters ++ to_members out.letters) h.rests ∙ ap (λ (l : List VrLetter). to_members l) did.letters_are in
      subst (λ (y : Acting A). Stepping a y step) (sym is)
      (record {
        acts = record {
          valid = valid;
          own = subst (λ (v : VrState). CollectsItsOwn v) (sym did.state_is) s.own;
          reach = subst (λ (v : VrState). c.vr.commit ≤ v.commit) (sym did.state_is) s.lasts.rises;
          stands = subst (λ (v : VrState). StandsFor law a.dispatcher kinds setup (take c.vr.commit v.log)) (sym did.state_is)
              (subst (λ (l : List Entry). StandsFor law a.dispatcher kinds setup l) (sym s.lasts.stays) h.acts.stands);
          marks = h.acts.marks;
          saves = refl;
        };
        work_is = ap (λ (v : VrState). record { state = record c { vr = v }; save = pair_with v.life (later_of a.promise out.promise); letters = a.work.letters ++ to_members out.letters }) did.state_is
            ∙ ap (λ (p : Option ℕ). record { state = record c { vr = step.state }; save = pair_with step.state.life p; letters = a.work.letters ++ to_members out.letters }) promise
            ∙ ap (λ (l : List (Letter ControllerSays)). record { state = record c { vr = step.state }; save = pair_with step.state.life step.promise; letters = l }) letters;
        lasts = subst (λ (v : VrState). Lasts c.vr step.promise v) (sym did.state_is) s.lasts;
        promise_is = ap (λ (p : Option ℕ). later_of a.promise p) did.promise_is;
      })

  -- once the dispatcher took what the step committed
  pub folded_does : (a b d : Acting A) (step : VrStep) → Stepping a b step → IsActing d → d.work ≡ b.work → d.promise ≡ b.promise → Does a (stepped a.work.state step) d
  folded_does a b d step s acts work promise =
      record {
        acts = acts;
        work_is = work ∙ s.work_is;
        saved = step.promise;
        lasts = subst (λ (w : Work). Lasts a.work.state.vr step.promise w.state.vr) (sym work) s.lasts;
        promise_is = promise ∙ s.promise_is;
      }

  -- a step that commits nothing needs no folding
  pub still_acts : (a b : Acting A) (step : VrStep) → Stepping a b step → step.state ≡ a.work.state.vr → IsActing b
  still_acts a b step s same =
      let e : a.work.state.vr.commit ≡ b.work.state.vr.commit = ap (λ (v : VrState). v.commit) (sym same) ∙ ap (λ (w : Work). w.state.vr.commit) (sym s.work_is) in
      subst (λ (n : ℕ). ActsUpTo law n b kinds setup) e s.acts

  -- an entry was proposed
  pub record Proposing (a b : Acting A) (entry : Entry) : Type 0 where
    pub acts : ActsUpTo law a.work.state.vr.commit b kinds setup
    pub work_is : b.work ≡ with_proposal a.work entry
    pub lasts : Lasts a.work.state.vr None b.work.state.vr
    pub promise_is : b.promise ≡ a.promise

  pub proposes : (a b : Acting A) (entry : Entry) (r : VrState) (out : VrOut) → IsActing a → leads a.work.state.vr ≡ true → IsValidState r → Stepped (proposed a.work.state.vr entry) r out →
      b ≡ with_out (with_state a (record a.work.state { vr = r })) out → Proposing a b entry
  proposes a b entry r out h leading valid did is =
      let c = a.work.state in
      let step = proposed c.vr entry in
      let s = proposal_stays c.vr entry h.valid h.own (and_parts (is_normal c.vr) (is_primary c.vr) leading).0 in
      let promise : later_of a.promise out.promise ≡ a.promise = ap (λ (q : Option ℕ). later_of a.promise q) did.promise_is in
      let save : pair_with c.vr.life (later_of a.promise out.promise) ≡ a.work.save = ap (λ (p : Option ℕ). pair_with c.vr.life p) promise ∙ sym h.saves in
      subst (λ (y : Acting A). Proposing a y entry) (sym is)
      (record {
        acts = record {
          valid = valid;
          own = subst (λ (v : VrState). CollectsItsOwn v) (sym did.state_is) s.own;
          reach = subst (λ (v : VrState). c.vr.commit ≤ v.commit) (sym did.state_is) s.lasts.rises;
          stands = subst (λ (v : VrState). StandsFor law a.dispatcher kinds setup (take c.vr.commit v.log)) (sym did.state_is)
              (subst (λ (l : List Entry). StandsFor law a.dispatcher kinds setup l) (sym s.lasts.stays) h.stands);
          marks = h.marks;
          saves = refl;
        };
        work_is = ap (λ (v : VrState). record { state = record c { vr = v }; save = pair_with v.life (later_of a.promise out.promise); letters = a.work.letters ++ to_members out.letters }) did.state_is
            ∙ ap (λ (p : Option (ℕ × ℕ)). record { state = record c { vr = step.state }; save = p; letters = a.work.letters ++ to_members out.letters }) save
            ∙ ap (λ (l : List VrLetter). record { state = record c { vr = step.state }; save = a.work.save; letters = a.work.letters ++ to_members l }) did.letters_are;
        lasts = subst (λ (v : VrState). Lasts c.vr None v) (sym did.state_is) s.lasts;
        promise_is = promise;
      })

  pub asked_all : (start now : Acting A) (n : ℕ) → IsActing start → n ≡ start.dispatcher.switches → now ≡ posts_letters start (map (role_letter start.work.state.vr.view) (filter (λ s. not (is_confirmed start.dispatcher.marks s)) (range_with_len 0 n))) →
      now ≡ posts_letters start (map (role_letter start.work.state.vr.view) (unconfirmed setup start.work.state))
  asked_all start now n h size is =
      is ∙ ap (λ (k : ℕ). posts_letters start (map (role_letter start.work.state.vr.view) (filter (λ s. not (is_confirmed start.dispatcher.marks s)) (range_with_len 0 k)))) (size ∙ h.stands.size)
      ∙ ap (λ (m : Marks). posts_letters start (map (role_letter start.work.state.vr.view) (filter (λ s. not (is_confirmed m s)) (range_with_len 0 (length setup.ports))))) (sym h.marks)

  -- a switch takes this controller as master
  pub master_does : (a b : Acting A) (d : Dispatching A) (switch role generation : ℕ) (commands : List NumberedOrder) → BeginsTurn law a kinds setup →
      role ≡ MASTER → generation ≡ a.work.state.vr.view → d ≡ record a.dispatcher { marks = confirmed_by a.dispatcher.marks switch } →
      ForEachLog (StandsFor law a.dispatcher) (StandsFor law d) →
      commands ≡ map (numbered kinds setup (committed a.work.state)) (filter (λ x. nat_eq x.switch switch) (outstanding kinds setup (committed a.work.state) d.marks)) →
      b ≡ posts_letters (record a { work = record a.work { state = record a.work.state { marks = d.marks } }; dispatcher = d }) (map (command_letter a.work.state.vr.view) commands) →
      Does a (on_role_reply kinds setup a.work.state switch role generation) b
  master_does a b d switch role generation commands h role_is view_is marked still are is =
      let c = a.work.state in
      let takes : (nat_eq role MASTER && nat_eq generation c.vr.view) ≡ true = rw (eq-eqb role MASTER role_is, eq-eqb generation c.vr.view view_is) refl in
      let now : ControllerState = record c { marks = confirmed_by c.marks switch } in
      let letters = commands_for kinds setup now switch in
      let marks : d.marks ≡ now.marks = ap (λ (x : Dispatching A). x.marks) marked ∙ ap (λ (m : Marks). confirmed_by m switch) (sym h.acts.marks) in
      let sent : map (command_letter c.vr.view) commands ≡ letters =
      ap (λ (l : List NumberedOrder). map (command_letter c.vr.view) l) (are ∙ ap (λ (m : Marks). map (numbered kinds setup (committed c)) (filter (λ x. nat_eq x.switch switch) (outstanding kinds setup (committed c) m))) marks)
      ∙ letters_are kinds setup now (filter (λ x. nat_eq x.switch switch) (outstanding kinds setup (committed c) now.marks)) in
      let base : Acting A = record a { work = record a.work { state = record c { marks = d.marks } }; dispatcher = d } in
      let acts : IsActing base = record {
        valid = h.acts.valid;
        own = h.acts.own;
        reach = h.acts.reach;
        stands = still kinds setup (committed c) h.acts.stands;
        marks = refl;
        saves = h.acts.saves;
      } in
      let done = posts_does base b (map (command_letter c.vr.view) commands) acts is in
      does_as a b (posting_work base.work (map (command_letter c.vr.view) commands)) (on_role_reply kinds setup c switch role generation)
      (ap (λ (w : Work). record { state = record c { marks = d.marks }; save = w.save; letters = w.letters ++ map (command_letter c.vr.view) commands }) h.rests
      ∙ ap (λ (m : Marks). record { state = record c { marks = m }; save = None; letters = map (command_letter c.vr.view) commands }) marks
      ∙ ap (λ (l : List (Letter ControllerSays)). record { state = now; save = None; letters = l }) sent
      ∙ sym (ap (λ (b : Bool). if b then on_master kinds setup c switch else resting c) takes))
      (record { acts = done.acts; work_is = done.work_is; saved = done.saved; lasts = done.lasts; promise_is = done.promise_is })

  -- time passes
  pub tick_does : (a b n1 n2 : Acting A) (commands : List NumberedOrder) → Stepping a b (vr_step a.work.state.vr vr_input.Tick) → leads b.work.state.vr ≡ true →
      n1 ≡ posts_letters b (map (role_letter b.work.state.vr.view) (unconfirmed setup b.work.state)) →
      commands ≡ map (numbered kinds setup (committed b.work.state)) (outstanding kinds setup (committed b.work.state) b.work.state.marks) →
      n2 ≡ posts_letters n1 (map (command_letter b.work.state.vr.view) commands) → Does a (on_tick kinds setup a.work.state) n2
  tick_does a b n1 n2 commands s leading asked are sent =
      let c = a.work.state in
      let step = vr_step c.vr vr_input.Tick in
      let state : b.work.state ≡ c = ap (λ (w : Work). w.state) s.work_is ∙ ap (λ (v : VrState). record c { vr = v }) (tick_same c.vr) in
      let acts = still_acts a b step s (tick_same c.vr) in
      let first = folded_does a b b step s acts refl refl in
      let d = b.work.state in
      let letters = tick_letters kinds setup d in
      let all : n2 ≡ posts_letters b letters =
      sent ∙ ap (λ (x : Acting A). posts_letters x (map (command_letter d.vr.view) commands)) asked ∙ posts_twice b (map (role_letter d.vr.view) (unconfirmed setup d)) (map (command_letter d.vr.view) commands)
      ∙ ap (λ (l : List (Letter ControllerSays)). posts_letters b (map (role_letter d.vr.view) (unconfirmed setup d) ++ l))
      (ap (λ (l : List NumberedOrder). map (command_letter d.vr.view) l) are ∙ letters_are kinds setup d (outstanding kinds setup (committed d) d.marks)) in
      does_as a n2 (posting_work b.work letters) (on_tick kinds setup c)
      (ap (λ (w : Work). posting_work w letters) s.work_is ∙ ap (λ (x : ControllerState). posting_work (stepped c step) (tick_letters kinds setup x)) state
      ∙ ap (λ (b : Bool). posting_work (stepped c step) (if b then tick_letters kinds setup c else [])) (sym leading ∙ ap (λ (x : ControllerState). leads x.vr) state))
      (then_does a b n2 (stepped c step) (posting_work b.work letters) first (posts_does b n2 letters acts all))

  pub tick_rests : (a b : Acting A) → Stepping a b (vr_step a.work.state.vr vr_input.Tick) → leads b.work.state.vr ≡ false → Does a (on_tick kinds setup a.work.state) b
  tick_rests a b s off =
      let c = a.work.state in
      let step = vr_step c.vr vr_input.Tick in
      let state : b.work.state ≡ c = ap (λ (w : Work). w.state) s.work_is ∙ ap (λ (v : VrState). record c { vr = v }) (tick_same c.vr) in
      let none : leads c.vr ≡ false = ap (λ (x : ControllerState). leads x.vr) (sym state) ∙ off in
      does_as a b (stepped c step) (on_tick kinds setup c)
      (ap (λ (l : List (Letter ControllerSays)). record (stepped c step) { letters = l }) (sym (append-nil (stepped c step).letters))
      ∙ sym (ap (λ (b : Bool). posting_work (stepped c step) (if b then tick_letters kinds setup c else [])) none))
      (folded_does a b b step s (still_acts a b step s (tick_same c.vr)) refl refl)

  -- the results of commands that are settled are forgotten
  pub forgets_state : (a : Acting A) (d : Dispatching A) → IsActing a → ForEachLog (StandsFor law a.dispatcher) (λ kinds setup log. d.marks ≡ pending_alone kinds setup log a.dispatcher.marks) →
      record a.work.state { marks = d.marks } ≡ with_settled_forgotten kinds setup a.work.state
  forgets_state a d h forgets =
      ap (λ (m : Marks). record a.work.state { marks = m })
      (forgets kinds setup (committed a.work.state) h.stands ∙ ap (λ (m : Marks). pending_alone kinds setup (committed a.work.state) m) (sym h.marks))

  pub forgets_begins : (a : Acting A) (d : Dispatching A) → BeginsTurn law a kinds setup → ForEachLog (StandsFor law a.dispatcher) (StandsFor law d) →
      BeginsTurn law (record a { work = record a.work { state = record a.work.state { marks = d.marks } }; dispatcher = d }) kinds setup
  forgets_begins a d h still =
      record {
        acts = record {
          valid = h.acts.valid;
          own = h.acts.own;
          reach = h.acts.reach;
          stands = still kinds setup (committed a.work.state) h.acts.stands;
          marks = refl;
          saves = h.acts.saves;
        };
        rests = ap (λ (w : Work). record w { state = record a.work.state { marks = d.marks } }) h.rests;
        unsaved = h.unsaved;
      }
