-- Commit numbers that a controller holds or says are its own, or came.
use Rattle.std.proofs.Common.{inl, inr, ◌≡◌, ℕ, ◌+◌, List, [], ◌∷◌, ◌++◌, length, refl, sym, ap, subst, ◌∙◌, arith, append-nil}
use Rattle.std.specs.Prelude.{Option, Some, None}
use Rattle.std.proofs.lemmas.Bool.{cond_both}
use Rattle.std.proofs.lemmas.List.{length-take}
use Rattle.of_types.specs.declared.setup.Setup.{Setup}
use Rattle.journal.specs.declared.journal.Letter.{Letter}
use Rattle.journal.specs.declared.journal.Local.TheVariants as local
use Rattle.vr_log.specs.declared.message.Filled.{Filled}
use Rattle.vr_log.specs.declared.message.VrLetter.{VrLetter}
use Rattle.vr_log.specs.declared.message.VrMessage.{VrMessage}
use Rattle.vr_log.specs.declared.message.VrMessage.TheVariants as message
use Rattle.vr_log.specs.declared.state.Collected.{Collected}
use Rattle.vr_log.specs.declared.state.Response.{Response}
use Rattle.vr_log.specs.declared.state.VrState.{VrState}
use Rattle.vr_log.specs.Members.{is_primary, others}
use Rattle.vr_log.specs.Steps.{letter, to_others}
use Rattle.vr_core.specs.declared.input.VrInput.{VrInput}
use Rattle.vr_core.specs.declared.input.VrInput.TheVariants as vr_input
use Rattle.group_controller.specs.declared.messages.ControllerInput.{ControllerInput}
use Rattle.group_controller.specs.declared.messages.ControllerInput.TheVariants as controller_input
use Rattle.group_controller.specs.declared.messages.ControllerSays.{ControllerSays}
use Rattle.controller_moves.specs.ControllerLaws.MemberMoves as moves
use Rattle.group_controller.specs.State.{ControllerState, Work, committed, to_member, to_members}
use Rattle.controller_moves.specs.ControllerLaws.CommitNumbers.{StateCommits, FilledCommits, MessageCommits, SaysCommits, InputCommits, IsKnownCommit, Below, OfCollected, OfResponse, OfInput, WorkCommits}
use Rattle.controller_moves.specs.ControllerLaws.Entries.{IsConsistent}
use Rattle.list_facts.proofs.Elements.{in_append, in_map}
use Rattle.list_facts.proofs.Prefixes.{prefix_length, prefix_trans}
use Rattle.list_facts.specs.Lists.{IsIn, IsPrefix}
use Rattle.controller_moves.specs.ControllerLaws.MemberMoves.{MemberMove, IsSaidByMember}
use Rattle.controller_moves.specs.ControllerLaws.Moves.{Tells, member_input, IsSaid, Prepares, Asks, Commands, Acks, Clears, Echoes, ControllerMove, Steps, Says, Saves, Begins, Proposes, Results, Notes, Chain, Start, Then}
use Rattle.controller_moves.specs.ControllerLaws.Turns.{beginning, IsReached}
use Rattle.controller_moves.proofs.ControllerLaws.MemberEntries.{response_among}
use Rattle.controller_moves.proofs.ControllerLaws.Reached.{move_grows, chain_reaches}

-- the commit numbers that an input of a member tells
abbrev MemberInputCommits : (ℕ → Type 0) → VrInput → Type 0
MemberInputCommits IsCommit (vr_input.From from m) = MessageCommits IsCommit m
MemberInputCommits IsCommit _ = Unit {0}

module _ (IsCommit : ℕ → Type 0) where
  filled_is : (o : Option Filled) (told : Filled) → o ≡ Some told → FilledCommits IsCommit o → IsCommit told.commit
  filled_is o told is h = subst (λ (q : Option Filled). FilledCommits IsCommit q) is h

  moved_commits : (x : VrInput) (s s' : VrState) → MemberInputCommits IsCommit x → IsCommit s.commit → MemberMove x s s' → StateCommits IsCommit s → StateCommits IsCommit s'
  moved_commits x s s' input own (moves.Enters view less has is) h = subst (λ (t : VrState). StateCommits IsCommit t) (sym is) (record { collected = λ c k. absurd k; responses = h.responses })
  moved_commits x s s' input own (moves.Tallies votes sent acked is) h = subst (λ (t : VrState). StateCommits IsCommit t) (sym is) (record { collected = h.collected; responses = h.responses })
  moved_commits x s s' input own (moves.Collects c from is) h =
      subst (λ (t : VrState). StateCommits IsCommit t) (sym is)
      (record {
        collected = λ d k. elim (in_append d s.collected (c ∷ []) k) [
          | inl old ↦ h.collected d old
          | inr new ↦ elim new [
            | inl same ↦ subst (λ (y : Collected). IsCommit y.commit) (sym same)
                (elim from [
                  | inl mine ↦ subst (λ (y : Collected). IsCommit y.commit) (sym mine) own
                  | inr told ↦ subst (λ (y : VrInput). MemberInputCommits IsCommit y) told.2 input
                ])
            | inr none ↦ absurd none
          ]
        ];
        responses = h.responses;
      })
  moved_commits x s s' input own (moves.Stocks from view first log asks low is) h = subst (λ (t : VrState). StateCommits IsCommit t) (sym is) (record { collected = h.collected; responses = h.responses })
  moved_commits x s s' input own (moves.Starts c cs collected may long right is) h = subst (λ (t : VrState). StateCommits IsCommit t) (sym is) (record { collected = h.collected; responses = h.responses })
  moved_commits x s s' input own (moves.Adopts view first commit log shows newer low sound is) h = subst (λ (t : VrState). StateCommits IsCommit t) (sym is) (record { collected = h.collected; responses = h.responses })
  moved_commits x s s' input own (moves.Recovers view r told among view_is filled_is off sound is) h =
      subst (λ (t : VrState). StateCommits IsCommit t) (sym is) (record { collected = h.collected; responses = λ q k. absurd k })
  moved_commits x s s' input own (moves.Appends commit more normal fit brings is) h = subst (λ (t : VrState). StateCommits IsCommit t) (sym is) (record { collected = h.collected; responses = h.responses })
  moved_commits x s s' input own (moves.Commits k normal low high is) h = subst (λ (t : VrState). StateCommits IsCommit t) (sym is) (record { collected = h.collected; responses = h.responses })
  moved_commits x s s' input own (moves.Keeps r nonce asks is) h =
      subst (λ (t : VrState). StateCommits IsCommit t) (sym is)
      (record {
        collected = h.collected;
        responses = λ q k told e. elim (response_among s.responses r q k) [
          | inl same ↦ filled_is r.filled told (ap (λ (z : Response). z.filled) (sym same) ∙ e) (subst (λ (y : VrInput). MemberInputCommits IsCommit y) asks input)
          | inr old ↦ h.responses q old told e
        ];
      })

  told_commits : (s : VrState) (l : VrLetter) → IsCommit s.commit → IsSaidByMember s l → MessageCommits IsCommit l.message
  told_commits s l own (moves.AsksVote to is) = subst (λ (m : VrLetter). MessageCommits IsCommit m.message) (sym is) tt
  told_commits s l own (moves.SendsLog to is) = subst (λ (m : VrLetter). MessageCommits IsCommit m.message) (sym is) own
  told_commits s l own (moves.TellsStart to is) = subst (λ (m : VrLetter). MessageCommits IsCommit m.message) (sym is) own
  told_commits s l own (moves.Repeats to n entry at low is) = subst (λ (m : VrLetter). MessageCommits IsCommit m.message) (sym is) own
  told_commits s l own (moves.TellsCommit to is) = subst (λ (m : VrLetter). MessageCommits IsCommit m.message) (sym is) own
  told_commits s l own (moves.Acknowledges to is) = subst (λ (m : VrLetter). MessageCommits IsCommit m.message) (sym is) tt
  told_commits s l own (moves.AsksLog to view op is) = subst (λ (m : VrLetter). MessageCommits IsCommit m.message) (sym is) tt
  told_commits s l own (moves.AsksAll to is) = subst (λ (m : VrLetter). MessageCommits IsCommit m.message) (sym is) tt
  told_commits s l own (moves.Answers to nonce is) =
      subst (λ (m : VrLetter). MessageCommits IsCommit m.message) (sym is)
      (cond_both (is_primary s) (Some (record { commit = s.commit; log = s.log })) None (λ (o : Option Filled). FilledCommits IsCommit o) (λ _. own) (λ _. tt))
  told_commits s l own (moves.TellsLog to op low is) = subst (λ (m : VrLetter). MessageCommits IsCommit m.message) (sym is) own
  told_commits s l own (moves.AsksFront to is) = subst (λ (m : VrLetter). MessageCommits IsCommit m.message) (sym is) tt
  told_commits s l own (moves.TellsFront to op low is) = subst (λ (m : VrLetter). MessageCommits IsCommit m.message) (sym is) tt

  member_commits : (y : ControllerInput) → InputCommits IsCommit y → MemberInputCommits IsCommit (member_input y)
  member_commits (controller_input.Vr from m) h = h
  member_commits (controller_input.Local (local.Suspect view)) h = tt
  member_commits (controller_input.Local local.Tick) h = tt
  member_commits (controller_input.Local local.Crash) h = tt
  member_commits (controller_input.Local (local.Frame port bytes)) h = tt
  member_commits (controller_input.Local (local.Port port up)) h = tt
  member_commits (controller_input.Local local.Restart) h = tt
  member_commits (controller_input.Of s xid m) h = tt
  member_commits (controller_input.Malformed from) h = tt

  module _ (kinds : List ℕ) (setup : Setup) (x : ControllerInput) (c last : ControllerState) (input : InputCommits IsCommit x)
      (own : (w : Work) → IsReached kinds setup x c w → IsPrefix (committed w.state) (committed last) → IsCommit w.state.vr.commit) where
    say_commits : (w : Work) (l : Letter ControllerSays) → IsCommit w.state.vr.commit → IsSaid kinds setup x w.state l → SaysCommits IsCommit l.body
    say_commits w l k (Tells m said is) = subst (λ (z : Letter ControllerSays). SaysCommits IsCommit z.body) (sym is) (told_commits w.state.vr m k said)
    say_commits w l k (Prepares to entry lead proposed is) = subst (λ (z : Letter ControllerSays). SaysCommits IsCommit z.body) (sym is) k
    say_commits w l k (Asks s lead is) = subst (λ (z : Letter ControllerSays). SaysCommits IsCommit z.body) (sym is) tt
    say_commits w l k (Commands n lead among is) = subst (λ (z : Letter ControllerSays). SaysCommits IsCommit z.body) (sym is) tt
    say_commits w l k (Acks s life lead is) = subst (λ (z : Letter ControllerSays). SaysCommits IsCommit z.body) (sym is) tt
    say_commits w l k (Clears s life lead is) = subst (λ (z : Letter ControllerSays). SaysCommits IsCommit z.body) (sym is) tt
    say_commits w l k (Echoes s xid body asks is) = subst (λ (z : Letter ControllerSays). SaysCommits IsCommit z.body) (sym is) tt

    more_commits : (w : Work) (more : List (Letter ControllerSays)) → IsCommit w.state.vr.commit → WorkCommits IsCommit w → ((l : Letter ControllerSays) → IsIn l more → IsSaid kinds setup x w.state l) →
        (l : Letter ControllerSays) → IsIn l (w.letters ++ more) → SaysCommits IsCommit l.body
    more_commits w more k h says l a = elim (in_append l w.letters more a) [ inl old ↦ h.letters l old | inr new ↦ say_commits w l k (says l new) ]

    step_commits : (w w' : Work) → ControllerMove kinds setup x w w' → IsCommit w.state.vr.commit → WorkCommits IsCommit w → WorkCommits IsCommit w'
    step_commits w w' (Steps s move is) k h =
        subst (λ (v : Work). WorkCommits IsCommit v) (sym is) (record { state = moved_commits (member_input x) w.state.vr s (member_commits x input) k move h.state; letters = h.letters })
    step_commits w w' (Says ls all is) k h = subst (λ (v : Work). WorkCommits IsCommit v) (sym is) (record { state = h.state; letters = more_commits w ls k h all })
    step_commits w w' (Saves save is) k h = subst (λ (v : Work). WorkCommits IsCommit v) (sym is) (record { state = h.state; letters = h.letters })
    step_commits w w' (Begins lead is) k h = subst (λ (v : Work). WorkCommits IsCommit v) (sym is) (record { state = h.state; letters = h.letters })
    step_commits w w' (Proposes entry lead proposed room is) k h =
        let s = w.state.vr in
        subst (λ (v : Work). WorkCommits IsCommit v) (sym is)
        (record {
          state = record { collected = h.state.collected; responses = h.state.responses };
          letters = more_commits w (to_members (to_others s (message.Prepare s.view (length s.log + 1) s.commit entry))) k h
              (λ l q.
              let a = in_map to_member (to_others s (message.Prepare s.view (length s.log + 1) s.commit entry)) l q in
              let b = in_map (letter (message.Prepare s.view (length s.log + 1) s.commit entry)) (others s) a.0 a.1 in
              Prepares b.0 entry lead proposed (a.2 ∙ ap (λ (m : VrLetter). to_member m) b.2));
        })
    step_commits w w' (Results s xid life number outcome asks lead waits is) k h = subst (λ (v : Work). WorkCommits IsCommit v) (sym is) (record { state = h.state; letters = h.letters })
    step_commits w w' (Notes confirmed told full is) k h = subst (λ (v : Work). WorkCommits IsCommit v) (sym is) (record { state = h.state; letters = h.letters })

    pub chain_commits : IsConsistent c.vr → StateCommits IsCommit c.vr → (w : Work) → Chain kinds setup x (beginning c) w → IsPrefix (committed w.state) (committed last) → WorkCommits IsCommit w
    chain_commits kept h w Start front = record { state = h; letters = λ l k. absurd k }
    chain_commits kept h w (Then v v' chain move) front =
        let r = chain_reaches kinds setup x c kept v chain in
        let before = prefix_trans (move_grows kinds setup x c v w move r.consistent) front in
        step_commits v w move (own v r before) (chain_commits kept h v chain before)

module _ (kinds : List ℕ) (setup : Setup) (x : ControllerInput) (c : ControllerState) where
  told_by : (from : ℕ) (m : VrMessage) (last : ControllerState) → x ≡ controller_input.Vr from m → MessageCommits (λ k. IsKnownCommit x c last k) m
  told_by from (message.Prepare view op commit entry) last is = OfInput from (message.Prepare view op commit entry) is refl
  told_by from (message.Commit view commit) last is = OfInput from (message.Commit view commit) is refl
  told_by from (message.DoViewChange view normal commit log) last is = OfInput from (message.DoViewChange view normal commit log) is refl
  told_by from (message.StartView view first commit log) last is = OfInput from (message.StartView view first commit log) is refl
  told_by from (message.RecoveryResponse view nonce None) last is = tt
  told_by from (message.RecoveryResponse view nonce (Some told)) last is = OfInput from (message.RecoveryResponse view nonce (Some told)) is refl
  told_by from (message.NewState view first commit log) last is = OfInput from (message.NewState view first commit log) is refl
  told_by from (message.PrepareOk view op) last is = tt
  told_by from (message.StartViewChange view) last is = tt
  told_by from (message.Recovery nonce promise) last is = tt
  told_by from (message.GetState view op) last is = tt
  told_by from (message.Fetch view op) last is = tt
  told_by from (message.Supply view first log) last is = tt

  input_by : (y : ControllerInput) (last : ControllerState) → x ≡ y → InputCommits (λ k. IsKnownCommit x c last k) y
  input_by (controller_input.Vr from m) last is = told_by from m last is
  input_by (controller_input.Local what) last is = tt
  input_by (controller_input.Of s xid m) last is = tt
  input_by (controller_input.Malformed from) last is = tt

  pub commits_from : (w : Work) → IsConsistent c.vr → Chain kinds setup x (beginning c) w → WorkCommits (λ k. IsKnownCommit x c w.state k) w
  commits_from w kept chain =
      chain_commits (λ k. IsKnownCommit x c w.state k) kinds setup x c w.state (input_by x w.state refl)
      (λ v r front. Below (let a = prefix_length front in let b = r.consistent.commit in omega (arith, a, b, length-take v.state.vr.commit v.state.vr.log, length-take w.state.vr.commit w.state.vr.log)))
      kept
      (record { collected = λ d k. OfCollected d k refl; responses = λ r k told is. OfResponse r told k is refl })
      w chain (record { rest = []; joined = sym (append-nil (committed w.state)) })
