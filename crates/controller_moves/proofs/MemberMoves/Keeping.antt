-- What no step of a member changes: its name, the size of its group, its life, and how many counts it keeps. No promise falls.
use Rattle.std.proofs.Common.{◌≡◌, ℕ, ◌+◌, ◌≤◌, max, Bool, true, cond, not, nat_eq, nat_lt, nat_le, ◌&&◌, Option, Some, None, List, [], ◌∷◌, length, slice_index, refl, sym, ap, ◌∙◌, arith, length-set}
use Rattle.std.proofs.lemmas.List.{length-replicate}
use Rattle.std.proofs.lemmas.Bool.{and_parts, cond_both, ltb-true}
use Rattle.vr_log.specs.declared.entry.Entry.{Entry}
use Rattle.vr_log.specs.declared.message.Filled.{Filled}
use Rattle.vr_log.specs.declared.message.VrMessage.{VrMessage}
use Rattle.vr_log.specs.declared.message.VrMessage.TheVariants as message
use Rattle.vr_log.specs.declared.state.Collected.{Collected}
use Rattle.vr_log.specs.declared.state.Status.{Status}
use Rattle.vr_log.specs.declared.state.Status.TheVariants as status
use Rattle.vr_log.specs.declared.state.VrState.{VrState}
use Rattle.vr_log.specs.Log.{fits, follows}
use Rattle.vr_log.specs.Members as member
use Rattle.vr_log.specs.Choosing as choosing
use Rattle.vr_log.specs.Steps as steps
use Rattle.vr_log.specs.Steps.{VrStep}
use Rattle.vr_normal.specs.Cases as normal_case
use Rattle.vr_normal.specs.Ticks as tick
use Rattle.view_change.specs.Adopting as adopting
use Rattle.view_change.specs.Entering as entering
use Rattle.view_change.specs.Cases as change
use Rattle.vr_recovery.specs.Cases as transfer
use Rattle.vr_recovery.specs.Recovering as recovering
use Rattle.vr_core.specs.declared.input.VrInput.{VrInput}
use Rattle.vr_core.specs.declared.input.VrInput.TheVariants as vr_input
use Rattle.vr_core.specs.Step.{on_vr, vr_step}
use Rattle.controller_moves.proofs.MemberMoves.Changing.{up_normal}

-- a promise that is to be saved is not below the stable one
abbrev pub PromiseRises : VrState → Option ℕ → Type 0
PromiseRises s None = Unit {0}
PromiseRises s (Some promise) = s.promise ≤ promise

pub record KeepsMember (s : VrState) (st : VrStep) : Type 0 where
  pub me : st.state.me ≡ s.me
  pub controllers : st.state.controllers ≡ s.controllers
  pub life : st.state.life ≡ s.life
  pub acked : length s.acked ≡ s.controllers → length st.state.acked ≡ s.controllers
  pub rises : (member.is_up s ≡ true → s.promise ≤ s.view) → PromiseRises s st.promise

-- the same of a state that a step goes on from
pub record SameMember (s t : VrState) : Type 0 where
  pub me : t.me ≡ s.me
  pub controllers : t.controllers ≡ s.controllers
  pub life : t.life ≡ s.life
  pub acked : length s.acked ≡ s.controllers → length t.acked ≡ s.controllers

later_rises : (s : VrState) (a b : Option ℕ) → PromiseRises s a → PromiseRises s b → PromiseRises s (steps.later_of a b)
later_rises s a None x y = x
later_rises s a (Some p) x y = y

quiet_keeps : (s : VrState) → KeepsMember s (steps.quiet s)
quiet_keeps s = record { me = refl; controllers = refl; life = refl; acked = λ z. z; rises = λ u. tt }

same_keeps : (s t : VrState) → SameMember s t → KeepsMember s (steps.quiet t)
same_keeps s t l = record { me = l.me; controllers = l.controllers; life = l.life; acked = l.acked; rises = λ u. tt }

same_self : (s : VrState) → SameMember s s
same_self s = record { me = refl; controllers = refl; life = refl; acked = λ z. z }

-- a second step that promises nothing
pub record PromisesNothing (s : VrState) (st : VrStep) : Type 0 where
  pub left : SameMember s st.state
  pub nothing : st.promise ≡ None

nothing_quiet : (s t : VrState) → SameMember s t → PromisesNothing s (steps.quiet t)
nothing_quiet s t l = record { left = l; nothing = refl }

nothing_keeps : (s t : VrState) (st : VrStep) → SameMember s t → PromisesNothing t st → KeepsMember s st
nothing_keeps s t st l p = record {
  me = p.left.me ∙ l.me;
  controllers = p.left.controllers ∙ l.controllers;
  life = p.left.life ∙ l.life;
  acked = λ z. p.left.acked (l.acked z ∙ sym l.controllers) ∙ l.controllers;
  rises = λ u. rising st.promise p.nothing;
}
  where
    rising : (q : Option ℕ) → q ≡ None → PromiseRises s q
    rising None z = tt
    rising (Some x) z = absurd cc

then_keeps : (s : VrState) (st : VrStep) (next : VrState → VrStep) → KeepsMember s st → PromisesNothing st.state (next st.state) → KeepsMember s (steps.then_step st next)
then_keeps s st next w p = record {
  me = p.left.me ∙ w.me;
  controllers = p.left.controllers ∙ w.controllers;
  life = p.left.life ∙ w.life;
  acked = λ z. p.left.acked (w.acked z ∙ sym w.controllers) ∙ w.controllers;
  rises = λ u. later_rises s st.promise (next st.state).promise (w.rises u) (rising (next st.state).promise p.nothing);
}
  where
    rising : (q : Option ℕ) → q ≡ None → PromiseRises s q
    rising None z = tt
    rising (Some x) z = absurd cc

-- votes, and the start of a view
module _ (s : VrState) where
  collects_same : (c : Collected) → SameMember s (entering.collects s c)
  collects_same c = cond_both (choosing.has_collected s c.from) _ _ (SameMember s) (λ a. same_self s) (λ a. record { me = refl; controllers = refl; life = refl; acked = λ z. z })

  votes_nothing : PromisesNothing s (entering.votes s)
  votes_nothing = cond_both (nat_le (member.most_failures s) (length s.votes) && not s.sent) _ _ (PromisesNothing s)
      (λ a. cond_both (member.is_primary s) _ _ (PromisesNothing s)
      (λ own. let l = collects_same (entering.own_log s) in record { left = record { me = l.me; controllers = l.controllers; life = l.life; acked = l.acked }; nothing = refl })
      (λ own. record { left = record { me = refl; controllers = refl; life = refl; acked = λ z. z }; nothing = refl }))
      (λ a. nothing_quiet s s (same_self s))

  chooses_from_nothing : (all : List Collected) → PromisesNothing s (entering.chooses_from s all)
  chooses_from_nothing [] = nothing_quiet s s (same_self s)
  chooses_from_nothing (x ∷ xs) = cond_both (choosing.reaches s (choosing.best_of x xs)) _ _ (PromisesNothing s)
      (λ a. record { left = record { me = refl; controllers = refl; life = refl; acked = λ z. length-replicate s.controllers 0 }; nothing = refl })
      (λ a. record { left = same_self s; nothing = refl })

  chooses_nothing : PromisesNothing s (entering.chooses s)
  chooses_nothing = cond_both (choosing.may_choose s) _ _ (PromisesNothing s) (λ a. chooses_from_nothing s.collected) (λ a. nothing_quiet s s (same_self s))

same_trans : (s t u : VrState) → SameMember s t → SameMember t u → SameMember s u
same_trans s t u a b = record { me = b.me ∙ a.me; controllers = b.controllers ∙ a.controllers; life = b.life ∙ a.life; acked = λ z. b.acked (a.acked z ∙ sym a.controllers) ∙ a.controllers }

check_nothing : (s : VrState) → PromisesNothing s (entering.check s)
check_nothing s =
    let t : VrState = (entering.votes s).state in
    let a = votes_nothing s in
    let b = chooses_nothing t in
    record { left = same_trans s t (entering.chooses t).state a.left b.left; nothing = none (entering.votes s).promise (entering.chooses t).promise a.nothing b.nothing }
  where
    none : (a b : Option ℕ) → a ≡ None → b ≡ None → steps.later_of a b ≡ None
    none a None x y = x
    none a (Some p) x y = absurd cc

nothing_trans : (s t : VrState) (st : VrStep) → SameMember s t → PromisesNothing t st → PromisesNothing s st
nothing_trans s t st l p = record { left = same_trans s t st.state l p.left; nothing = p.nothing }

module _ (s : VrState) where
  guarded_keeps : (st : VrStep) → KeepsMember s st → KeepsMember s (steps.guarded s st)
  guarded_keeps st w = cond_both (steps.is_sound s st.state) _ _ (KeepsMember s) (λ ok. w) (λ ok. quiet_keeps s)

  other_keeps : (from : ℕ) (st : VrStep) → KeepsMember s st → KeepsMember s (cond (member.is_other s from) st (steps.quiet s))
  other_keeps from st w = cond_both (member.is_other s from) _ _ (KeepsMember s) (λ other. w) (λ own. quiet_keeps s)

  tells_keeps : (to : ℕ) (x : VrMessage) → KeepsMember s (steps.tells s to x)
  tells_keeps to x = record { me = refl; controllers = refl; life = refl; acked = λ z. z; rises = λ u. tt }

  asks_keeps : (view : ℕ) → KeepsMember s (normal_case.asks_later s view)
  asks_keeps view = cond_both (member.is_later s view) _ _ (KeepsMember s) (λ ok. record { me = refl; controllers = refl; life = refl; acked = λ z. z; rises = λ u. tt }) (λ ok. quiet_keeps s)

  primary_keeps : (from view : ℕ) (st : VrStep) → KeepsMember s st → KeepsMember s (normal_case.from_primary s from view st)
  primary_keeps from view st w = other_keeps from _ (cond_both (member.is_primary_of s from view) _ _ (KeepsMember s) (λ a. cond_both (member.is_here s view) _ _ (KeepsMember s) (λ b. w) (λ b. asks_keeps view)) (λ a. quiet_keeps s))

  prepare_keeps : (from view op commit : ℕ) (entry : Entry) → KeepsMember s (normal_case.prepare s from view op commit entry)
  prepare_keeps from view op commit entry = primary_keeps from view (normal_case.prepares s op commit entry)
      (cond_both (nat_le op (length s.log)) _ _ (KeepsMember s) (λ x. record { me = refl; controllers = refl; life = refl; acked = λ z. z; rises = λ u. tt })
      (λ x. cond_both (nat_eq op (length s.log + 1)) _ _ (KeepsMember s) (λ y. cond_both (fits s.log entry) _ _ (KeepsMember s) (λ q. record { me = refl; controllers = refl; life = refl; acked = λ z. z; rises = λ u. tt }) (λ q. quiet_keeps s))
      (λ y. record { me = refl; controllers = refl; life = refl; acked = λ z. z; rises = λ u. tt })))

  commit_keeps : (from view commit : ℕ) → KeepsMember s (normal_case.commit_told s from view commit)
  commit_keeps from view commit = primary_keeps from view (normal_case.commits s commit) (cond_both (nat_le commit (length s.log)) _ _ (KeepsMember s) (λ x. record { me = refl; controllers = refl; life = refl; acked = λ z. z; rises = λ u. tt }) (λ x. record { me = refl; controllers = refl; life = refl; acked = λ z. z; rises = λ u. tt }))

  prepare_ok_keeps : (from view op : ℕ) → KeepsMember s (normal_case.prepare_ok s from view op)
  prepare_ok_keeps from view op = other_keeps from _ (cond_both (normal_case.is_counted s view op) _ _ (KeepsMember s)
      (λ a. record { me = refl; controllers = refl; life = refl; acked = λ z. length-set s.acked from (max op (slice_index s.acked from)) ∙ z; rises = λ u. tt })
      (λ a. quiet_keeps s))

  get_keeps : (from view op : ℕ) → KeepsMember s (transfer.get_state s from view op)
  get_keeps from view op = other_keeps from _ (cond_both (transfer.is_answered s view op) _ _ (KeepsMember s) (λ a. record { me = refl; controllers = refl; life = refl; acked = λ z. z; rises = λ u. tt }) (λ a. quiet_keeps s))

  fetch_keeps : (from view op : ℕ) → KeepsMember s (change.fetch s from view op)
  fetch_keeps from view op = other_keeps from _ (cond_both (change.is_change s view && nat_le op s.commit) _ _ (KeepsMember s) (λ a. record { me = refl; controllers = refl; life = refl; acked = λ z. z; rises = λ u. tt }) (λ a. quiet_keeps s))

  above_rises : (view : ℕ) → PromiseRises s (cond (nat_lt s.promise view) (Some view) None)
  above_rises view = cond_both (nat_lt s.promise view) _ _ (λ q. PromiseRises s q) (λ ok. let l = ltb-true s.promise view ok in omega arith) (λ ok. tt)

  adopt_keeps : (view first commit : ℕ) (log : List Entry) → KeepsMember s (adopting.adopt s view first commit log)
  adopt_keeps view first commit log = cond_both (nat_lt s.commit first) _ _ (KeepsMember s) (λ a. record { me = refl; controllers = refl; life = refl; acked = λ z. z; rises = λ u. tt }) (λ a. record { me = refl; controllers = refl; life = refl; acked = λ z. z; rises = λ u. above_rises view })

  start_view_keeps : (from view first commit : ℕ) (log : List Entry) → KeepsMember s (change.start_view s from view first commit log)
  start_view_keeps from view first commit log = other_keeps from _ (cond_both (member.is_primary_of s from view && member.is_newer s view) _ _ (KeepsMember s)
      (λ a. guarded_keeps (adopting.adopt s view first commit log) (adopt_keeps view first commit log)) (λ a. quiet_keeps s))

  new_state_keeps : (from view first commit : ℕ) (log : List Entry) → KeepsMember s (transfer.new_state s from view first commit log)
  new_state_keeps from view first commit log = other_keeps from _ (cond_both (transfer.is_longer s view first log) _ _ (KeepsMember s)
      (λ a. cond_both (follows s.log (transfer.lacking s first log)) _ _ (KeepsMember s) (λ x. record { me = refl; controllers = refl; life = refl; acked = λ z. z; rises = λ u. tt }) (λ x. quiet_keeps s))
      (λ a. cond_both (transfer.is_adopted s view first) _ _ (KeepsMember s) (λ x. guarded_keeps (adopting.adopt s view first commit log) (adopt_keeps view first commit log)) (λ x. quiet_keeps s)))

  enter_keeps : (view : ℕ) → member.is_later s view ≡ true → KeepsMember s (entering.enter s view)
  enter_keeps view z =
      let x = and_parts (member.is_up s) (nat_lt s.view view) z in
      let l = ltb-true s.view view x.1 in
      record { me = refl; controllers = refl; life = refl; acked = λ q. q; rises = λ u. let p = u x.0 in omega arith }

  enters_keeps : (view : ℕ) → member.is_later s view ≡ true → KeepsMember s (steps.guarded s (change.enters s view))
  enters_keeps view z = guarded_keeps (change.enters s view) (then_keeps s (entering.enter s view) entering.check (enter_keeps view z) (check_nothing (entering.entered_view s view)))

  pub suspect_keeps : (view : ℕ) → KeepsMember s (change.suspect s view)
  suspect_keeps view = cond_both (member.is_later s view) _ _ (KeepsMember s) (λ a. enters_keeps view a) (λ a. quiet_keeps s)

  vote_here_keeps : (from : ℕ) → KeepsMember s (change.vote_here s from)
  vote_here_keeps from = cond_both (member.is_changing s) _ _ (KeepsMember s)
      (λ a. guarded_keeps (entering.check (entering.voted s from)) (nothing_keeps s (entering.voted s from) _ (record { me = refl; controllers = refl; life = refl; acked = λ z. z }) (check_nothing (entering.voted s from))))
      (λ a. cond_both (member.leads s) _ _ (KeepsMember s) (λ b. record { me = refl; controllers = refl; life = refl; acked = λ z. z; rises = λ u. tt }) (λ b. quiet_keeps s))

  start_view_change_keeps : (from view : ℕ) → KeepsMember s (change.start_view_change s from view)
  start_view_change_keeps from view = other_keeps from _ (cond_both (member.is_later s view) _ _ (KeepsMember s)
      (λ later.
      let t : VrState = entering.entered_view s view in
      guarded_keeps (steps.then_step (entering.enter s view) (λ next. entering.check (entering.voted next from)))
      (then_keeps s (entering.enter s view) (λ next. entering.check (entering.voted next from)) (enter_keeps view later) (nothing_trans t (entering.voted t from) _ (record { me = refl; controllers = refl; life = refl; acked = λ z. z }) (check_nothing (entering.voted t from)))))
      (λ later. cond_both (nat_eq view s.view) _ _ (KeepsMember s) (λ b. vote_here_keeps from) (λ b. quiet_keeps s)))

  collect_keeps : (view : ℕ) (c : Collected) → KeepsMember s (change.collect s view c)
  collect_keeps view c = cond_both (member.is_later s view) _ _ (KeepsMember s)
      (λ later.
      let t : VrState = entering.entered_view s view in
      guarded_keeps (steps.then_step (entering.enter s view) (λ next. entering.check (entering.collects next c)))
      (then_keeps s (entering.enter s view) (λ next. entering.check (entering.collects next c)) (enter_keeps view later) (nothing_trans t (entering.collects t c) _ (collects_same t c) (check_nothing (entering.collects t c)))))
      (λ later. cond_both (nat_eq view s.view && member.is_changing s) _ _ (KeepsMember s)
      (λ b. guarded_keeps (entering.check (entering.collects s c)) (nothing_keeps s (entering.collects s c) _ (collects_same s c) (check_nothing (entering.collects s c)))) (λ b. quiet_keeps s))

  do_view_change_keeps : (from view normal commit : ℕ) (log : List Entry) → KeepsMember s (change.do_view_change s from view normal commit log)
  do_view_change_keeps from view normal commit log = other_keeps from _ (cond_both (member.is_primary_of s s.me view) _ _ (KeepsMember s)
      (λ a. collect_keeps view (record { from = from; normal = normal; commit = commit; log = log })) (λ a. quiet_keeps s))

  supply_keeps : (from view first : ℕ) (log : List Entry) → KeepsMember s (change.supply s from view first log)
  supply_keeps from view first log =
      let t : VrState = change.supplied s first log in
      other_keeps from _ (cond_both (change.is_message_wanted s view first log) _ _ (KeepsMember s)
      (λ a. guarded_keeps (entering.check t) (nothing_keeps s t _ (record { me = refl; controllers = refl; life = refl; acked = λ z. z }) (check_nothing t))) (λ a. quiet_keeps s))

  recovery_keeps : (from nonce promise : ℕ) → KeepsMember s (recovering.recovery s from nonce promise)
  recovery_keeps from nonce promise = other_keeps from _ (cond_both (member.is_normal s) _ _ (KeepsMember s)
      (λ a. cond_both (nat_lt s.view promise) _ _ (KeepsMember s)
      (λ later. enters_keeps promise (ap (λ (t : Bool). t && nat_lt s.view promise) (up_normal s.status a) ∙ later)) (λ b. record { me = refl; controllers = refl; life = refl; acked = λ z. z; rises = λ u. tt }))
      (λ a. quiet_keeps s))

  ends_keeps : (t : VrState) → SameMember s t → t.promise ≡ s.promise → (view : ℕ) (q : Option Filled) → KeepsMember s (recovering.ends_with t view q)
  ends_keeps t l p view None = same_keeps s t l
  ends_keeps t l p view (Some f) =
      cond_both (nat_lt t.commit 0) _ _ (KeepsMember s) (λ a. record { me = l.me; controllers = l.controllers; life = l.life; acked = l.acked; rises = λ u. tt })
      (λ a. record { me = l.me; controllers = l.controllers; life = l.life; acked = l.acked; rises = λ u. cond_both (nat_lt t.promise view) _ _ (λ q. PromiseRises s q) (λ ok. let x = ltb-true t.promise view ok in omega arith) (λ ok. tt) })

  response_keeps : (from view nonce : ℕ) (filled : Option Filled) → KeepsMember s (recovering.response s from view nonce filled)
  response_keeps from view nonce filled =
      let t : VrState = recovering.responded s (record { from = from; view = view; filled = filled }) in
      let l : SameMember s t = record { me = refl; controllers = refl; life = refl; acked = λ z. z } in
      other_keeps from _ (cond_both (member.is_recovering s && nat_eq nonce s.life) _ _ (KeepsMember s)
      (λ a. guarded_keeps (recovering.recovers t) (ends_keeps t l refl (recovering.greatest_view_told t.responses) (recovering.ending t)))
      (λ a. quiet_keeps s))

  pub on_vr_keeps : (from : ℕ) (x : VrMessage) → KeepsMember s (on_vr s from x)
  unfolding on_vr
  on_vr_keeps from (message.Prepare view op commit entry) = prepare_keeps from view op commit entry
  on_vr_keeps from (message.PrepareOk view op) = prepare_ok_keeps from view op
  on_vr_keeps from (message.Commit view commit) = commit_keeps from view commit
  on_vr_keeps from (message.StartViewChange view) = start_view_change_keeps from view
  on_vr_keeps from (message.DoViewChange view normal commit log) = do_view_change_keeps from view normal commit log
  on_vr_keeps from (message.StartView view first commit log) = start_view_keeps from view first commit log
  on_vr_keeps from (message.Recovery nonce promise) = recovery_keeps from nonce promise
  on_vr_keeps from (message.RecoveryResponse view nonce filled) = response_keeps from view nonce filled
  on_vr_keeps from (message.GetState view op) = get_keeps from view op
  on_vr_keeps from (message.NewState view first commit log) = new_state_keeps from view first commit log
  on_vr_keeps from (message.Fetch view op) = fetch_keeps from view op
  on_vr_keeps from (message.Supply view first log) = supply_keeps from view first log

  pub ticked_keeps : KeepsMember s (tick.ticked s)
  ticked_keeps = by s.status
    where
      by : (x : Status) → KeepsMember s (elim x [
        | status.Normal ↦ cond (member.is_primary s) (tick.tick_primary s) (steps.quiet s)
        | status.ViewChange ↦ tick.tick_changing s
        | status.Recovering ↦ tick.tick_recovering s
        | status.Down ↦ steps.quiet s
      ])
      by status.Normal = cond_both (member.is_primary s) _ _ (KeepsMember s) (λ own. record { me = refl; controllers = refl; life = refl; acked = λ z. z; rises = λ u. tt }) (λ own. quiet_keeps s)
      by status.ViewChange = record { me = refl; controllers = refl; life = refl; acked = λ z. z; rises = λ u. tt }
      by status.Recovering = record { me = refl; controllers = refl; life = refl; acked = λ z. z; rises = λ u. tt }
      by status.Down = quiet_keeps s

pub step_keeps : (s : VrState) (input : VrInput) → KeepsMember s (vr_step s input)
step_keeps s (vr_input.From from x) = on_vr_keeps s from x
step_keeps s (vr_input.Suspect view) = suspect_keeps s view
step_keeps s vr_input.Tick = ticked_keeps s
