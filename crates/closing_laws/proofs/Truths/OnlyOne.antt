-- A controller that is alone in its group never comes back from a crash, so that its view grows while it is up.
use Rattle.std.proofs.Common.{◌≡◌, ℕ, ◌+◌, ◌*◌, ◌≤◌, inl, inr, Bool, true, false, List, [], ◌∷◌, ◌++◌, refl, sym, ap, ◌∙◌, subst, arith, le_refl, le_trans}
use Rattle.std.specs.Prelude.{Option, Some, None}
use Rattle.std.proofs.lemmas.Bool.{false≢true}
use Rattle.of_types.specs.declared.setup.Setup.{Setup}
use Rattle.journal.specs.declared.journal.Actor.TheVariants as actor
use Rattle.journal.specs.declared.journal.JournalEntry.{JournalEntry}
use Rattle.journal.specs.declared.journal.SaveResult.{SaveResult}
use Rattle.journal.specs.Part.{part, drawn}
use Rattle.journal.specs.declared.journal.Packet.{Packet}
use Rattle.agreement.specs.History.{Group, size}
use Rattle.agreement.specs.Invariant as invariant
use Rattle.vr_log.specs.declared.entry.Entry.{Entry}
use Rattle.vr_log.specs.declared.state.Status.{Status}
use Rattle.vr_log.specs.declared.state.Status.TheVariants as status
use Rattle.vr_log.specs.declared.state.VrState.{VrState}
use Rattle.vr_log.specs.Members.{is_up}
use Rattle.vr_core.specs.declared.input.VrInput.{VrInput}
use Rattle.controller_moves.specs.MemberMoves.Projection.{group_of, member_status_of, is_member}
use Rattle.controller_moves.proofs.MemberMoves.Members.{up_of, newer_of}
use Rattle.group_controller.specs.declared.messages.ControllerInput.{ControllerInput}
use Rattle.group_controller.specs.State.{ControllerState, Work}
use Rattle.group_controller.specs.Rules.{is_down, controller_work}
use Rattle.controller_moves.specs.ControllerLaws.Moves.{Chain, Start, Then, ControllerMove, Steps, Says, Saves, Begins, Proposes, Results, Notes, member_input}
use Rattle.controller_moves.specs.ControllerLaws.MemberMoves.{MemberMove, Enters, Tallies, Collects, Stocks, Starts, Adopts, Recovers, Appends, Commits, Keeps}
use Rattle.controller_moves.specs.ControllerLaws.Turns.{beginning}
use Rattle.controller_moves.proofs.ControllerLaws.Reached.{turn_chain}
use Rattle.controller_moves.specs.Projection.{input_of}
use Rattle.controller_moves.specs.Rules.{SavingController, done}
use Rattle.controller_moves.proofs.Following.{follow_law}
use Rattle.run_spec.specs.States.{Scene, controller_at}
use Rattle.run_spec.specs.Legal.{results_of}
use Rattle.run_spec.specs.Committed.{controller_state}
use Rattle.run_spec.proofs.Entries.{ControllerGoes, Turns, Falls, Stays, Own, Other, controller_after}
use Rattle.run_laws.specs.RunAgreement.Projection.{taken_by}
use Rattle.run_laws.proofs.RunAgreement.Inputs.{same_input}
use Rattle.run_laws.proofs.RunAgreement.Reading.{IsReadPast, read_before}
use Rattle.run_laws.proofs.Members.{move_up}
use Rattle.closing_laws.proofs.Truths.Backed.{member_at}

-- one that is up doesn't recover, and isn't down
not_both : (x : Status) → (elim x as (λ _. Bool) [ status.Normal ↦ true | status.ViewChange ↦ true | status.Recovering ↦ false | status.Down ↦ false ]) ≡ true →
    (elim x as (λ _. Bool) [ status.Normal ↦ false | status.ViewChange ↦ false | status.Recovering ↦ true | status.Down ↦ false ]) ≡ true → ⊥
not_both status.Normal up other = false≢true other
not_both status.ViewChange up other = false≢true other
not_both status.Recovering up other = false≢true up
not_both status.Down up other = false≢true up

not_down : (x : Status) → (elim x as (λ _. Bool) [ status.Normal ↦ true | status.ViewChange ↦ true | status.Recovering ↦ false | status.Down ↦ false ]) ≡ true →
    (elim x as (λ _. Bool) [ status.Normal ↦ false | status.ViewChange ↦ false | status.Recovering ↦ false | status.Down ↦ true ]) ≡ true → ⊥
not_down status.Normal up other = false≢true other
not_down status.ViewChange up other = false≢true other
not_down status.Recovering up other = false≢true up
not_down status.Down up other = false≢true up

up_again : (x : Status) → invariant.is_up_status (member_status_of x) ≡ true → (elim x as (λ _. Bool) [ status.Normal ↦ true | status.ViewChange ↦ true | status.Recovering ↦ false | status.Down ↦ false ]) ≡ true
up_again status.Normal up = refl
up_again status.ViewChange up = refl
up_again status.Recovering up = absurd (false≢true up)
up_again status.Down up = absurd (false≢true up)

-- a member that is up goes to no earlier view
member_rises : (x : VrInput) (s s' : VrState) → MemberMove x s s' → is_up s ≡ true → s.view ≤ s'.view
member_rises x s s' (Enters view l v is) up = let e = ap (λ (z : VrState). z.view) is in omega (arith, l, e)
member_rises x s s' (Tallies votes sent acked is) up = let e = ap (λ (z : VrState). z.view) is in omega (arith, e)
member_rises x s s' (Collects c from is) up = let e = ap (λ (z : VrState). z.view) is in omega (arith, e)
member_rises x s s' (Stocks from view first log asks l is) up = let e = ap (λ (z : VrState). z.view) is in omega (arith, e)
member_rises x s s' (Starts c cs cl may long sound is) up = let e = ap (λ (z : VrState). z.view) is in omega (arith, e)
member_rises x s s' (Adopts view first commit log shows newer l sound is) up =
    let e = ap (λ (z : VrState). z.view) is in
    elim (newer_of s view newer).1 [
      | inl less ↦ omega (arith, e, less)
      | inr same ↦ let q = same.0 in omega (arith, e, q)
    ]
member_rises x s s' (Recovers view r told k v f rec sound is) up = absurd (not_both s.status up rec)
member_rises x s s' (Appends commit more normal fol brings is) up = let e = ap (λ (z : VrState). z.view) is in omega (arith, e)
member_rises x s s' (Commits k normal low high is) up = let e = ap (λ (z : VrState). z.view) is in omega (arith, e)
member_rises x s s' (Keeps r nonce asks is) up = let e = ap (λ (z : VrState). z.view) is in omega (arith, e)

module _ (kinds : List ℕ) (setup : Setup) (x : ControllerInput) where
  move_rises : (w w' : Work) → ControllerMove kinds setup x w w' → is_up w.state.vr ≡ true → w.state.vr.view ≤ w'.state.vr.view
  move_rises w w' (Steps s m is) up = let e = ap (λ (z : Work). z.state.vr.view) is in let l = member_rises (member_input x) w.state.vr s m up in omega (arith, e, l)
  move_rises w w' (Says ls all is) up = let e = ap (λ (z : Work). z.state.vr.view) is in omega (arith, e)
  move_rises w w' (Saves save is) up = let e = ap (λ (z : Work). z.state.vr.view) is in omega (arith, e)
  move_rises w w' (Begins l is) up = let e = ap (λ (z : Work). z.state.vr.view) is in omega (arith, e)
  move_rises w w' (Proposes entry l p room is) up = let e = ap (λ (z : Work). z.state.vr.view) is in omega (arith, e)
  move_rises w w' (Results s xid life number outcome asks l pending is) up = let e = ap (λ (z : Work). z.state.vr.view) is in omega (arith, e)
  move_rises w w' (Notes confirmed told full is) up = let e = ap (λ (z : Work). z.state.vr.view) is in omega (arith, e)

  chain_rises : (c : ControllerState) (w : Work) → is_up c.vr ≡ true → Chain kinds setup x (beginning c) w → (is_up w.state.vr ≡ true) × (c.vr.view ≤ w.state.vr.view)
  chain_rises c w up Start = (up, le_refl c.vr.view)
  chain_rises c w up (Then mid w2 chain move) =
      let h = chain_rises c mid up chain in
      (move_up kinds setup x mid w move h.0, le_trans h.1 (move_rises mid w move h.0))

  -- a turn from one that is up to one that is
  turn_rises : (c : ControllerState) → is_up c.vr ≡ true → is_up (controller_work kinds setup c x).state.vr ≡ true → c.vr.view ≤ (controller_work kinds setup c x).state.vr.view
  turn_rises c up after = by_down (is_down c) refl
    where
      by_down : (b : Bool) → is_down c ≡ b → c.vr.view ≤ (controller_work kinds setup c x).state.vr.view
      by_down true off = absurd (not_down c.vr.status up off)
      by_down false on = elim (turn_chain kinds setup x c on) [
        | inl chain ↦ (chain_rises c (controller_work kinds setup c x) up chain).1
        | inr crash ↦ absurd (false≢true (ap (λ (w : Work). is_up w.state.vr) (sym crash.1) ∙ after))
      ]

  abbrev alone : Group Entry
  alone = group_of 0

  done_state : (a : SavingController) (w : Work) (save : Option (ℕ × ℕ)) → (done [] a w save).0.state ≡ w.state
  done_state a w None = refl
  done_state a w (Some pair) = refl

  -- one that is alone was up before
  up_before : (c : ControllerState) → is_member alone 0 c.vr ≡ true → is_up (controller_work kinds setup c x).state.vr ≡ true → is_up c.vr ≡ true
  unfolding size
  up_before c valid after =
      let a : SavingController = record { state = c; saves = 0 } in
      let took : Work = controller_work kinds setup c (input_of (taken_by 0 x)) in
      let same : (done [] a took took.save).0.state ≡ (controller_work kinds setup c x).state = done_state a took took.save ∙ ap (λ (y : ControllerInput). (controller_work kinds setup c y).state) (same_input 0 x) in
      let goes = (follow_law kinds setup 0 (λ _. [])).alone refl 0 a (taken_by 0 x) (omega arith) valid
      (ap (λ (z : ControllerState). invariant.is_up_status (member_status_of z.vr.status)) same ∙ up_of (controller_work kinds setup c x).state.vr.status after) in
      up_again c.vr.status goes.up

module _ {B : Type 0} (scene : Scene B) (results : List (List SaveResult)) (n : scene.setup.controllers ≡ 1) where
  whole : scene.setup.controllers ≡ 2 * 0 + 1
  whole = n

  abbrev state : List (JournalEntry B) → VrState
  state past = (controller_state scene results 0 past).vr

  -- one that is up was up before
  record WasUp (s s' : VrState) : Type 0 where
    pub up : is_up s ≡ true
    pub view : s.view ≤ s'.view

  same_up : (s s' : VrState) → s' ≡ s → is_up s' ≡ true → WasUp s s'
  same_up s s' same up =
      record {
        up = ap (λ (z : VrState). is_up z) (sym same) ∙ up;
        view = (let v = ap (λ (z : VrState). z.view) same in omega (arith, v));
      }

  module _ (e : JournalEntry B) (past : List (JournalEntry B)) (k : IsReadPast scene results (e ∷ past)) (up : is_up (state (e ∷ past)) ≡ true) where
    by_goes : ControllerGoes scene e (drawn e past) (controller_at scene (results_of results 0) 0 (part (actor.Controller 0) past)) (controller_at scene (results_of results 0) 0 (part (actor.Controller 0) (e ∷ past))) →
        WasUp (state past) (state (e ∷ past))
    by_goes (Turns x heard now owed) =
        let c : ControllerState = controller_state scene results 0 past in
        let after : is_up (controller_work scene.kinds scene.setup c x).state.vr ≡ true = ap (λ (z : ControllerState). is_up z.vr) (sym now) ∙ up in
        let was = up_before scene.kinds scene.setup x c (member_at scene results 0 whole past (read_before scene results e past k) 0 (omega (arith, n))) after in
        let rises = turn_rises scene.kinds scene.setup x c was after in
        subst (λ (z : ControllerState). WasUp (state past) z.vr) (sym now) (record { up = was; view = rises })
    by_goes (Falls c promise life now owed) = absurd (false≢true (ap (λ (z : ControllerState). is_up z.vr) (sym now) ∙ up))
    by_goes (Stays now owed) = same_up (state past) (state (e ∷ past)) (ap (λ (z : ControllerState). z.vr) now) up

    one_rises : WasUp (state past) (state (e ∷ past))
    one_rises = elim (controller_after scene (results_of results 0) 0 e past) [
      | Own same is goes ↦ by_goes goes
      | Other other is ↦ same_up (state past) (state (e ∷ past)) (ap (λ (ps : List (JournalEntry B × Option (Packet B))). (controller_at scene (results_of results 0) 0 ps).now.vr) is) up
    ]

  pub alone_rises : (more before : List (JournalEntry B)) → IsReadPast scene results (more ++ before) → is_up (state (more ++ before)) ≡ true → (is_up (state before) ≡ true) × ((state before).view ≤ (state (more ++ before)).view)
  alone_rises [] before k up = (up, le_refl (state before).view)
  alone_rises (e ∷ more) before k up =
      let last = one_rises e (more ++ before) k up in
      let first = alone_rises more before (read_before scene results e (more ++ before) k) last.up in
      (first.0, le_trans first.1 last.view)
