-- Where the entries come from that a controller holds and says.
use Rattle.std.proofs.Common.{◌≡◌, ◌≤◌, ℕ, ◌+◌, List, [], ◌∷◌, suc, refl, subst, arith}
use Rattle.std.specs.Prelude.{slice_get, Option, Some, None}
use Rattle.of_types.specs.declared.setup.Setup.{Setup}
use Rattle.vr_log.specs.declared.entry.Entry.{Entry}
use Rattle.vr_log.specs.declared.message.Filled.{Filled}
use Rattle.vr_log.specs.declared.message.VrMessage.{VrMessage}
use Rattle.vr_log.specs.declared.message.VrMessage.TheVariants as message
use Rattle.group_controller.specs.declared.messages.ControllerInput.{ControllerInput}
use Rattle.group_controller.specs.declared.messages.ControllerInput.TheVariants as controller_input
use Rattle.group_controller.specs.State.{ControllerState, Work, committed}
use Rattle.controller_moves.specs.ControllerLaws.Entries.{EachFrom, IsGoodBeside, StateHolds, FilledHolds, MessageHolds, IsConsistent, InputHolds, WorkHolds}
use Rattle.list_facts.specs.Lists.{IsPrefix}
use Rattle.controller_moves.specs.ControllerLaws.Moves.{Chain}
use Rattle.controller_moves.specs.ControllerLaws.Sources.{IsHeld, InLog, InCollected, InResponse, InSupply, IsTold, InPrepare, InLogOf, InStart, InAnswer, InState, InSupplying, ComesFrom, FromState, FromSupply, FromInput, FromSupplying, FromProposal, StoodBeside, ByState, ByInput, ByProposal}
use Rattle.controller_moves.specs.ControllerLaws.Turns.{beginning}
use Rattle.controller_moves.proofs.ControllerLaws.WorkEntries.{chain_holds}

-- each of the entries at its place
stands_from : (P : ℕ → Entry → Type 0) (n : ℕ) (xs : List Entry) → ((i : ℕ) (e : Entry) → slice_get xs i ≡ Some e → P (n + i) e) → EachFrom P n xs
stands_from P n [] all = tt
stands_from P n (x ∷ xs) all =
    let here : n + 0 ≡ n = omega arith in
    (subst (λ (k : ℕ). P k x) here (all 0 x refl), stands_from P (suc n) xs (λ i e h. let there : n + suc i ≡ suc n + i = omega arith in subst (λ (k : ℕ). P k e) there (all (suc i) e h)))

module _ (kinds : List ℕ) (setup : Setup) (x : ControllerInput) (c last : ControllerState) where
  abbrev From : ℕ → Entry → Type 0
  From n e = ComesFrom kinds setup x c last n e

  abbrev By : ℕ → ℕ → Entry → Type 0
  By k n e = StoodBeside kinds setup x c last k n e

  grows : (k k' n : ℕ) (e : Entry) → k ≤ k' → k' ≤ n → By k n e → By k' n e
  grows k k' n e low far (ByState commit less held) = ByState commit (omega (arith, low, less)) held
  grows k k' n e low far (ByInput from commit m less is taken) = ByInput from commit m (omega (arith, low, less)) is taken
  grows k k' n e low far (ByProposal mid less r front proposed place) = ByProposal mid (omega (arith, low, less)) r front proposed place

  of_state : (commit n : ℕ) (e : Entry) → IsHeld c.vr commit n e → IsGoodBeside From By commit n e
  of_state commit n e held = (FromState commit held, λ _. ByState commit (omega arith) held)

  of_input : (from : ℕ) (m : VrMessage) → x ≡ controller_input.Vr from m → (commit n : ℕ) (e : Entry) → IsTold m commit n e → IsGoodBeside From By commit n e
  of_input from m is commit n e taken = (FromInput from commit m is taken, λ _. ByInput from commit m (omega arith) is taken)

  state_holds : StateHolds From By c.vr
  state_holds =
      record {
        log = stands_from (IsGoodBeside From By c.vr.commit) 0 c.vr.log (λ i e h. of_state c.vr.commit (0 + i) e (InLog refl (at_zero c.vr.log i e h)));
        collected = λ d k. stands_from (IsGoodBeside From By d.commit) d.commit d.log (λ i e h. of_state d.commit (d.commit + i) e (InCollected d i k refl refl h));
        responses = λ r k told is. stands_from (IsGoodBeside From By told.commit) 0 told.log (λ i e h. of_state told.commit (0 + i) e (InResponse r told k is refl (at_zero told.log i e h)));
        supply = λ p is. stands_from From p.first p.log (λ i e h. FromSupply (InSupply p i is refl h));
      }
    where
      at_zero : (xs : List Entry) (i : ℕ) (e : Entry) → slice_get xs i ≡ Some e → slice_get xs (0 + i) ≡ Some e
      at_zero xs i e h = let z : i ≡ 0 + i = omega arith in subst (λ (k : ℕ). slice_get xs k ≡ Some e) z h

  filled_holds : (from view nonce : ℕ) (o : Option Filled) → x ≡ controller_input.Vr from (message.RecoveryResponse view nonce o) → FilledHolds From By o
  filled_holds from view nonce None is = tt
  filled_holds from view nonce (Some told) is =
      stands_from (IsGoodBeside From By told.commit) 0 told.log (λ i e h. let z : i ≡ 0 + i = omega arith in
      of_input from (message.RecoveryResponse view nonce (Some told)) is told.commit (0 + i) e (InAnswer view nonce told refl refl (subst (λ (k : ℕ). slice_get told.log k ≡ Some e) z h)))

  message_holds : (from : ℕ) (m : VrMessage) → x ≡ controller_input.Vr from m → MessageHolds From By m
  message_holds from (message.Prepare view op commit entry) is = λ n e. of_input from (message.Prepare view op commit entry) is commit n entry (InPrepare view op refl e)
  message_holds from (message.DoViewChange view normal commit log) is =
      stands_from (IsGoodBeside From By commit) commit log (λ i e h. of_input from (message.DoViewChange view normal commit log) is commit (commit + i) e (InLogOf view normal i log refl refl h))
  message_holds from (message.StartView view first commit log) is =
      stands_from (IsGoodBeside From By commit) first log (λ i e h. of_input from (message.StartView view first commit log) is commit (first + i) e (InStart view first i log refl refl h))
  message_holds from (message.RecoveryResponse view nonce o) is = filled_holds from view nonce o is
  message_holds from (message.NewState view first commit log) is =
      stands_from (IsGoodBeside From By commit) first log (λ i e h. of_input from (message.NewState view first commit log) is commit (first + i) e (InState view first i log refl refl h))
  message_holds from (message.Supply view first log) is = stands_from From first log (λ i e h. FromSupplying from (message.Supply view first log) is (InSupplying view first i log refl refl h))
  message_holds from (message.PrepareOk view op) is = tt
  message_holds from (message.Commit view commit) is = tt
  message_holds from (message.StartViewChange view) is = tt
  message_holds from (message.Recovery nonce promise) is = tt
  message_holds from (message.GetState view op) is = tt
  message_holds from (message.Fetch view op) is = tt

  input_holds : (y : ControllerInput) → x ≡ y → InputHolds From By y
  input_holds (controller_input.Vr from m) is = message_holds from m is
  input_holds (controller_input.Local what) is = tt
  input_holds (controller_input.Of s xid m) is = tt
  input_holds (controller_input.Malformed from) is = tt

  pub come_from : (w : Work) → IsConsistent c.vr → Chain kinds setup x (beginning c) w → IsPrefix (committed w.state) (committed last) → WorkHolds From By w
  come_from w kept chain front =
      chain_holds kinds setup x c From By grows (input_holds x refl) last
      (λ mid entry r before holds proposed. (FromProposal mid r before proposed refl, λ _. ByProposal mid (omega arith) r before proposed refl)) kept state_holds w chain front
