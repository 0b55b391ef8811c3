-- In a group of one a log only goes on.
use Rattle.std.proofs.Common.{◌≡◌, ℕ, ◌<◌, true, cond, not, nat_le, ◌&&◌, Option, None, List, [], ◌∷◌, ◌++◌, length, take, drop, refl, sym, ap, ◌∙◌, subst, arith, take-take, take-append-drop}
use Rattle.std.proofs.lemmas.Bool.{cond_both}
use Rattle.agreement.specs.History.{Group, size}
use Rattle.agreement.specs.Invariant.{is_up_status}
use Rattle.agreement.specs.Journals.{GoesOn}
use Rattle.list_facts.proofs.Prefixes.{prefix_refl}
use Rattle.list_facts.specs.Lists.{IsPrefix}
use Rattle.vr_log.specs.declared.entry.Entry.{Entry}
use Rattle.vr_log.specs.declared.message.VrMessage.{VrMessage}
use Rattle.vr_log.specs.declared.message.VrMessage.TheVariants as message
use Rattle.vr_log.specs.declared.state.Collected.{Collected}
use Rattle.vr_log.specs.declared.state.Status.{Status}
use Rattle.vr_log.specs.declared.state.Status.TheVariants as status
use Rattle.vr_log.specs.declared.state.Supplied.{Supplied}
use Rattle.vr_log.specs.declared.state.VrState.{VrState}
use Rattle.vr_log.specs.Members as member
use Rattle.vr_log.specs.Choosing as choosing
use Rattle.vr_log.specs.Steps as steps
use Rattle.vr_log.specs.Steps.{VrStep}
use Rattle.vr_normal.specs.Ticks as tick
use Rattle.view_change.specs.Entering as entering
use Rattle.view_change.specs.Cases as change
use Rattle.vr_core.specs.declared.input.VrInput.{VrInput}
use Rattle.vr_core.specs.declared.input.VrInput.TheVariants as vr_input
use Rattle.vr_core.specs.Step.{on_vr, vr_step}
use Rattle.controller_moves.specs.MemberMoves.Projection.{member_state_of}
use Rattle.controller_moves.proofs.MemberMoves.Members.{IsMemberOf, later_of, other_not_me, other_below}

-- what a step leaves up was up before, and its log goes on
abbrev pub GoesOnBy : VrState → VrStep → Type 0
GoesOnBy s st = is_up_status (member_state_of st.state).status ≡ true → GoesOn (member_state_of s) (member_state_of st.state)

no_other : {g : Group Entry} {c : ℕ} {s : VrState} → IsMemberOf g c s → g.most_failures ≡ 0 → c < size g → (from : ℕ) → member.is_other s from ≡ true → ⊥
unfolding size
no_other {s = s} fine o b from z =
    let l = other_below s from z in
    let ne = other_not_me s from z in
    let all = fine.controllers in
    let me = fine.me in
    ne (omega arith)

chooses_none : (s : VrState) → s.collected ≡ [] → IsPrefix s.log (entering.chooses s).state.log
chooses_none s z = cond_both (choosing.may_choose s) _ _ (λ (q : VrStep). IsPrefix s.log q.state.log)
    (λ ok. subst (λ (all : List Collected). IsPrefix s.log (entering.chooses_from s all).state.log) (sym z) (prefix_refl s.log)) (λ ok. prefix_refl s.log)

chooses_own : (s : VrState) → s.supply ≡ None → s.collected ≡ entering.own_log s ∷ [] → IsPrefix s.log (entering.chooses s).state.log
chooses_own s none z = cond_both (choosing.may_choose s) _ _ (λ (q : VrStep). IsPrefix s.log q.state.log)
    (λ ok. subst (λ (all : List Collected). IsPrefix s.log (entering.chooses_from s all).state.log) (sym z)
    (cond_both (choosing.reaches s (entering.own_log s)) _ _ (λ (q : VrStep). IsPrefix s.log q.state.log)
    (λ long.
    let log : List Entry = take s.commit (choosing.front s) ++ drop s.commit s.log in
    let same : log ≡ s.log = ap (λ (q : Option Supplied). take s.commit (choosing.front_with s q) ++ drop s.commit s.log) none ∙ ap (λ (l : List Entry). l ++ drop s.commit s.log) (take-take s.commit s.commit s.log (omega arith)) ∙ take-append-drop s.commit s.log in
    subst (λ (l : List Entry). IsPrefix s.log l) (sym same) (prefix_refl s.log))
    (λ short. prefix_refl s.log)))
    (λ ok. prefix_refl s.log)

checks_on : (s : VrState) (view : ℕ) → IsPrefix s.log (change.enters s view).state.log
checks_on s view =
    let t : VrState = entering.entered_view s view in
    cond_both (nat_le (member.most_failures t) (length t.votes) && not t.sent) (entering.sends_log t) (steps.quiet t) (λ (q : VrStep). IsPrefix s.log (entering.chooses q.state).state.log)
    (λ ok. cond_both (member.is_primary t) _ _ (λ (q : VrStep). IsPrefix s.log (entering.chooses q.state).state.log)
    (λ own. chooses_own (record (entering.collects t (entering.own_log t)) { sent = true }) refl refl)
    (λ own. chooses_none (record t { sent = true }) refl))
    (λ ok. chooses_none t refl)

same_on : (s : VrState) (st : VrStep) → st.state ≡ s → GoesOnBy s st
same_on s st z u = record { up = subst (λ (t : VrState). is_up_status (member_state_of t).status ≡ true) z u; longer = subst (λ (t : VrState). IsPrefix s.log t.log) (sym z) (prefix_refl s.log) }

pub suspect_on : (s : VrState) (view : ℕ) → GoesOnBy s (change.suspect s view)
suspect_on s view = cond_both (member.is_later s view) _ _ (GoesOnBy s)
    (λ ok. cond_both (steps.is_sound s (change.enters s view).state) _ _ (GoesOnBy s)
    (λ sound u. record { up = (later_of s view ok).0; longer = checks_on s view })
    (λ sound. same_on s (steps.quiet s) refl))
    (λ ok. same_on s (steps.quiet s) refl)

pub ticked_on : (s : VrState) → GoesOnBy s (tick.ticked s)
ticked_on s = by s.status
  where
    by : (x : Status) → GoesOnBy s (elim x [
      | status.Normal ↦ cond (member.is_primary s) (tick.tick_primary s) (steps.quiet s)
      | status.ViewChange ↦ tick.tick_changing s
      | status.Recovering ↦ tick.tick_recovering s
      | status.Down ↦ steps.quiet s
    ])
    by status.Normal = cond_both (member.is_primary s) _ _ (GoesOnBy s) (λ own. same_on s (tick.tick_primary s) refl) (λ own. same_on s (steps.quiet s) refl)
    by status.ViewChange = same_on s (tick.tick_changing s) refl
    by status.Recovering = same_on s (tick.tick_recovering s) refl
    by status.Down = same_on s (steps.quiet s) refl

module _ {g : Group Entry} {c : ℕ} {s : VrState} (fine : IsMemberOf g c s) (o : g.most_failures ≡ 0) (b : c < size g) where
  -- there is no other member, so a message does nothing
  alone : (from : ℕ) (st : VrStep) → GoesOnBy s (cond (member.is_other s from) st (steps.quiet s))
  alone from st = cond_both (member.is_other s from) _ _ (GoesOnBy s) (λ other. absurd (no_other fine o b from other)) (λ own. same_on s (steps.quiet s) refl)

  pub on_vr_on : (from : ℕ) (x : VrMessage) → GoesOnBy s (on_vr s from x)
  unfolding on_vr
  on_vr_on from (message.Prepare view op commit entry) = alone from _
  on_vr_on from (message.PrepareOk view op) = alone from _
  on_vr_on from (message.Commit view commit) = alone from _
  on_vr_on from (message.StartViewChange view) = alone from _
  on_vr_on from (message.DoViewChange view normal commit log) = alone from _
  on_vr_on from (message.StartView view first commit log) = alone from _
  on_vr_on from (message.Recovery nonce promise) = alone from _
  on_vr_on from (message.RecoveryResponse view nonce filled) = alone from _
  on_vr_on from (message.GetState view op) = alone from _
  on_vr_on from (message.NewState view first commit log) = alone from _
  on_vr_on from (message.Fetch view op) = alone from _
  on_vr_on from (message.Supply view first log) = alone from _

  pub step_on : (input : VrInput) → GoesOnBy s (vr_step s input)
  step_on (vr_input.From from x) = on_vr_on from x
  step_on (vr_input.Suspect view) = suspect_on s view
  step_on vr_input.Tick = ticked_on s
