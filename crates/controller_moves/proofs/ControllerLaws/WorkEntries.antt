-- Where each entry that a controller has and hears is good, and so is what it proposes, all is good that it holds and says in
-- a turn.
use Rattle.std.proofs.Common.{inl, inr, ◌≡◌, ℕ, ◌+◌, List, [], ◌∷◌, ◌++◌, length, sym, ap, subst, ◌∙◌, arith}
use Rattle.std.specs.Prelude.{nat_eq}
use Rattle.of_types.specs.declared.setup.Setup.{Setup}
use Rattle.journal.specs.declared.journal.Letter.{Letter}
use Rattle.journal.specs.declared.journal.Local.TheVariants as local
use Rattle.vr_log.specs.declared.entry.Entry.{Entry}
use Rattle.vr_log.specs.declared.message.VrLetter.{VrLetter}
use Rattle.vr_log.specs.declared.message.VrMessage.TheVariants as message
use Rattle.vr_log.specs.Members.{most_failures, others}
use Rattle.vr_log.specs.Steps.{letter, to_others}
use Rattle.group_controller.specs.declared.messages.ControllerInput.{ControllerInput}
use Rattle.group_controller.specs.declared.messages.ControllerInput.TheVariants as controller_input
use Rattle.group_controller.specs.declared.messages.ControllerSays.{ControllerSays}
use Rattle.group_controller.specs.State.{ControllerState, Work, committed, to_member, to_members}
use Rattle.group_controller.specs.Settling.{with_proposal}
use Rattle.controller_moves.specs.ControllerLaws.Moves as said_of
use Rattle.list_facts.proofs.Elements.{in_append, in_map}
use Rattle.list_facts.proofs.Prefixes.{prefix_trans}
use Rattle.list_facts.specs.Lists.{IsIn, IsPrefix}
use Rattle.controller_moves.specs.ControllerLaws.Moves.{member_input, IsSaid, Prepares, Asks, Commands, Acks, Clears, Echoes, ControllerMove, Steps, Says, Saves, Begins, Proposes, Results, Notes, IsProposed, Chain, Start, Then}
use Rattle.controller_moves.specs.ControllerLaws.Entries.{EachFrom, IsGoodBeside, StateHolds, MemberInputHolds, BoundRises, IsConsistent, SaysHold, InputHolds, WorkHolds}
use Rattle.controller_moves.specs.ControllerLaws.Turns.{beginning, IsReached, ProposalsHold}
use Rattle.controller_moves.proofs.ControllerLaws.Places.{raised, at_raised, stands_append}
use Rattle.controller_moves.proofs.ControllerLaws.MemberEntries.{move_holds, said_holds}
use Rattle.controller_moves.proofs.ControllerLaws.Reached.{commit_choice, move_grows, chain_reaches}

module _ (kinds : List ℕ) (setup : Setup) (x : ControllerInput) (c : ControllerState) where
  module _ (IsGood : ℕ → Entry → Type 0) (IsBound : ℕ → ℕ → Entry → Type 0) (grows : BoundRises IsBound) (input : InputHolds IsGood IsBound x) (last : ControllerState) (proposals : ProposalsHold kinds setup x c last IsGood IsBound) where
    member_holds : (y : ControllerInput) → InputHolds IsGood IsBound y → MemberInputHolds IsGood IsBound (member_input y)
    member_holds (controller_input.Vr from m) h = h
    member_holds (controller_input.Local (local.Suspect view)) h = tt
    member_holds (controller_input.Local local.Tick) h = tt
    member_holds (controller_input.Local local.Crash) h = tt
    member_holds (controller_input.Local (local.Frame port bytes)) h = tt
    member_holds (controller_input.Local (local.Port port up)) h = tt
    member_holds (controller_input.Local local.Restart) h = tt
    member_holds (controller_input.Of s xid m) h = tt
    member_holds (controller_input.Malformed from) h = tt

    says_hold : (w : Work) (l : Letter ControllerSays) → IsReached kinds setup x c w → IsPrefix (committed w.state) (committed last) → StateHolds IsGood IsBound w.state.vr → IsSaid kinds setup x w.state l → SaysHold IsGood IsBound l.body
    says_hold w l r front h (said_of.Tells m said is) =
        subst (λ (k : Letter ControllerSays). SaysHold IsGood IsBound k.body) (sym is) (said_holds IsGood IsBound grows w.state.vr m r.consistent h said)
    says_hold w l r front h (Prepares to entry lead proposed is) =
        let at = proposals w entry r front h proposed in
        subst (λ (k : Letter ControllerSays). SaysHold IsGood IsBound k.body) (sym is)
        (λ n e. let same : length w.state.vr.log ≡ n = omega (arith, e) in subst (λ (i : ℕ). IsGoodBeside IsGood IsBound w.state.vr.commit i entry) same at)
    says_hold w l r front h (Asks s lead is) = subst (λ (k : Letter ControllerSays). SaysHold IsGood IsBound k.body) (sym is) tt
    says_hold w l r front h (Commands n lead among is) = subst (λ (k : Letter ControllerSays). SaysHold IsGood IsBound k.body) (sym is) tt
    says_hold w l r front h (Acks s life lead is) = subst (λ (k : Letter ControllerSays). SaysHold IsGood IsBound k.body) (sym is) tt
    says_hold w l r front h (Clears s life lead is) = subst (λ (k : Letter ControllerSays). SaysHold IsGood IsBound k.body) (sym is) tt
    says_hold w l r front h (Echoes s xid body asks is) = subst (λ (k : Letter ControllerSays). SaysHold IsGood IsBound k.body) (sym is) tt

    proposed_holds : (w : Work) (entry : Entry) → IsReached kinds setup x c w → IsPrefix (committed w.state) (committed last) → StateHolds IsGood IsBound w.state.vr → IsProposed kinds setup x w.state entry → StateHolds IsGood IsBound (with_proposal w entry).state.vr
    proposed_holds w entry r front h proposed =
        let s = w.state.vr in
        let k = (with_proposal w entry).state.vr.commit in
        let low = (commit_choice (nat_eq (most_failures s) 0) (length s.log) s.commit r.consistent.commit).0 in
        let at = at_raised IsGood IsBound grows s.commit k (length s.log) entry (inl low) (proposals w entry r front h proposed) in
        let place : length s.log ≡ 0 + length s.log = omega arith in
        record {
          log = stands_append (IsGoodBeside IsGood IsBound k) 0 s.log (entry ∷ []) (raised IsGood IsBound grows s.commit k 0 s.log (inl low) h.log) (subst (λ (n : ℕ). EachFrom (IsGoodBeside IsGood IsBound k) n (entry ∷ [])) place (at, tt));
          collected = h.collected;
          responses = h.responses;
          supply = h.supply;
        }

    more_hold : (w : Work) (more : List (Letter ControllerSays)) → IsReached kinds setup x c w → IsPrefix (committed w.state) (committed last) → WorkHolds IsGood IsBound w → ((l : Letter ControllerSays) → IsIn l more → IsSaid kinds setup x w.state l) →
        (l : Letter ControllerSays) → IsIn l (w.letters ++ more) → SaysHold IsGood IsBound l.body
    more_hold w more r front h says l k = elim (in_append l w.letters more k) [ inl old ↦ h.letters l old | inr new ↦ says_hold w l r front h.state (says l new) ]

    step_holds : (w w' : Work) → ControllerMove kinds setup x w w' → IsReached kinds setup x c w → IsPrefix (committed w.state) (committed last) → WorkHolds IsGood IsBound w → WorkHolds IsGood IsBound w'
    step_holds w w' (Steps s move is) r front h =
        subst (λ (v : Work). WorkHolds IsGood IsBound v) (sym is) (record { state = move_holds IsGood IsBound grows (member_input x) w.state.vr s (member_holds x input) r.consistent move h.state; letters = h.letters })
    step_holds w w' (Says ls all is) r front h = subst (λ (v : Work). WorkHolds IsGood IsBound v) (sym is) (record { state = h.state; letters = more_hold w ls r front h all })
    step_holds w w' (Saves save is) r front h = subst (λ (v : Work). WorkHolds IsGood IsBound v) (sym is) (record { state = h.state; letters = h.letters })
    step_holds w w' (Begins lead is) r front h = subst (λ (v : Work). WorkHolds IsGood IsBound v) (sym is) (record { state = h.state; letters = h.letters })
    step_holds w w' (Proposes entry lead proposed room is) r front h =
        let s = w.state.vr in
        subst (λ (v : Work). WorkHolds IsGood IsBound v) (sym is)
        (record {
          state = proposed_holds w entry r front h.state proposed;
          letters = more_hold w (to_members (to_others s (message.Prepare s.view (length s.log + 1) s.commit entry))) r front h
              (λ l k.
              let a = in_map to_member (to_others s (message.Prepare s.view (length s.log + 1) s.commit entry)) l k in
              let b = in_map (letter (message.Prepare s.view (length s.log + 1) s.commit entry)) (others s) a.0 a.1 in
              Prepares b.0 entry lead proposed (a.2 ∙ ap (λ (m : VrLetter). to_member m) b.2));
        })
    step_holds w w' (Results s xid life number outcome asks lead waits is) r front h = subst (λ (v : Work). WorkHolds IsGood IsBound v) (sym is) (record { state = h.state; letters = h.letters })
    step_holds w w' (Notes confirmed told full is) r front h = subst (λ (v : Work). WorkHolds IsGood IsBound v) (sym is) (record { state = h.state; letters = h.letters })

    pub chain_holds : IsConsistent c.vr → StateHolds IsGood IsBound c.vr → (w : Work) → Chain kinds setup x (beginning c) w → IsPrefix (committed w.state) (committed last) → WorkHolds IsGood IsBound w
    chain_holds kept h w Start front = record { state = h; letters = λ l k. absurd k }
    chain_holds kept h w (Then v v' chain move) front =
        let r = chain_reaches kinds setup x c kept v chain in
        let before = prefix_trans (move_grows kinds setup x c v w move r.consistent) front in
        step_holds v w move r before (chain_holds kept h v chain before)
