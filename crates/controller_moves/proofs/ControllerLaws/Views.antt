-- Views come from the member, from its responses, and from the input.
use Rattle.std.proofs.Common.{inl, inr, ◌≡◌, ℕ, List, refl, sym, ap, subst}
use Rattle.of_types.specs.declared.setup.Setup.{Setup}
use Rattle.journal.specs.declared.journal.Local.TheVariants as local
use Rattle.vr_log.specs.declared.entry.Entry.{Entry}
use Rattle.vr_log.specs.declared.state.Response.{Response}
use Rattle.vr_log.specs.declared.state.VrState.{VrState}
use Rattle.vr_core.specs.declared.input.VrInput.{VrInput}
use Rattle.group_controller.specs.declared.messages.ControllerInput.{ControllerInput}
use Rattle.group_controller.specs.declared.messages.ControllerInput.TheVariants as controller_input
use Rattle.group_controller.specs.State.{ControllerState, Work}
use Rattle.controller_moves.specs.ControllerLaws.MemberMoves as moves
use Rattle.controller_moves.specs.ControllerLaws.Views as views
use Rattle.controller_moves.specs.ControllerLaws.MemberMoves.{MemberMove}
use Rattle.controller_moves.specs.ControllerLaws.Views.{TellsView, StateViews, MemberInputViews, view_told, IsKnownView, Own, OfResponse, OfInput}
use Rattle.controller_moves.specs.ControllerLaws.Moves.{member_input, ControllerMove, Steps, Says, Saves, Begins, Proposes, Results, Notes, Chain, Start, Then}
use Rattle.controller_moves.specs.ControllerLaws.Turns.{beginning}
use Rattle.controller_moves.proofs.ControllerLaws.MemberEntries.{response_among}

module _ (kinds : List ℕ) (setup : Setup) (x : ControllerInput) (c : ControllerState) where
  module _ (IsView : ℕ → Type 0) (came : MemberInputViews IsView (member_input x)) where
    has_view : (view : ℕ) → TellsView (member_input x) view → IsView view
    has_view view (views.Suspected is) = subst (λ (y : VrInput). MemberInputViews IsView y) is came
    has_view view (views.Told from m is view_is) = subst IsView (sym view_is) (subst (λ (y : VrInput). MemberInputViews IsView y) is came)

    shown_view : (view first commit : ℕ) (log : List Entry) → moves.ShowsMember (member_input x) view first commit log → IsView view
    shown_view view first commit log (moves.Starting from is) = subst (λ (y : VrInput). MemberInputViews IsView y) is came
    shown_view view first commit log (moves.Standing from is) = subst (λ (y : VrInput). MemberInputViews IsView y) is came

    member_views : (s s' : VrState) → MemberMove (member_input x) s s' → StateViews IsView s → StateViews IsView s'
    member_views s s' (moves.Enters view less has is) h = subst (λ (t : VrState). StateViews IsView t) (sym is) (record { view = has_view view has; responses = h.responses })
    member_views s s' (moves.Tallies votes sent acked is) h = subst (λ (t : VrState). StateViews IsView t) (sym is) (record { view = h.view; responses = h.responses })
    member_views s s' (moves.Collects d from is) h = subst (λ (t : VrState). StateViews IsView t) (sym is) (record { view = h.view; responses = h.responses })
    member_views s s' (moves.Stocks from view first log asks low is) h = subst (λ (t : VrState). StateViews IsView t) (sym is) (record { view = h.view; responses = h.responses })
    member_views s s' (moves.Starts d ds collected may long right is) h = subst (λ (t : VrState). StateViews IsView t) (sym is) (record { view = h.view; responses = h.responses })
    member_views s s' (moves.Adopts view first commit log shows newer low sound is) h = subst (λ (t : VrState). StateViews IsView t) (sym is) (record { view = shown_view view first commit log shows; responses = h.responses })
    member_views s s' (moves.Recovers view r told among view_is filled_is off sound is) h =
        subst (λ (t : VrState). StateViews IsView t) (sym is) (record { view = subst IsView view_is (h.responses r among); responses = λ q k. absurd k })
    member_views s s' (moves.Appends commit more normal fit brings is) h = subst (λ (t : VrState). StateViews IsView t) (sym is) (record { view = h.view; responses = h.responses })
    member_views s s' (moves.Commits k normal low high is) h = subst (λ (t : VrState). StateViews IsView t) (sym is) (record { view = h.view; responses = h.responses })
    member_views s s' (moves.Keeps r nonce asks is) h =
        subst (λ (t : VrState). StateViews IsView t) (sym is)
        (record {
          view = h.view;
          responses = λ q k. elim (response_among s.responses r q k) [
            | inl same ↦ subst (λ (z : Response). IsView z.view) (sym same) (subst (λ (y : VrInput). MemberInputViews IsView y) asks came)
            | inr old ↦ h.responses q old
          ];
        })

    pub chain_views : StateViews IsView c.vr → (w : Work) → Chain kinds setup x (beginning c) w → StateViews IsView w.state.vr
    chain_views h w Start = h
    chain_views h w (Then v v' chain move) = on_move v w move (chain_views h v chain)
      where
        on_move : (v w : Work) → ControllerMove kinds setup x v w → StateViews IsView v.state.vr → StateViews IsView w.state.vr
        on_move v w (Steps s m is) k = subst (λ (u : Work). StateViews IsView u.state.vr) (sym is) (member_views v.state.vr s m k)
        on_move v w (Says ls all is) k = subst (λ (u : Work). StateViews IsView u.state.vr) (sym is) k
        on_move v w (Saves save is) k = subst (λ (u : Work). StateViews IsView u.state.vr) (sym is) k
        on_move v w (Begins lead is) k = subst (λ (u : Work). StateViews IsView u.state.vr) (sym is) k
        on_move v w (Proposes entry lead proposed room is) k = subst (λ (u : Work). StateViews IsView u.state.vr) (sym is) (record { view = k.view; responses = k.responses })
        on_move v w (Results s xid life number outcome asks lead waits is) k = subst (λ (u : Work). StateViews IsView u.state.vr) (sym is) k
        on_move v w (Notes confirmed told full is) k = subst (λ (u : Work). StateViews IsView u.state.vr) (sym is) k

  came : (y : ControllerInput) → x ≡ y → MemberInputViews (λ v. IsKnownView x c v) (member_input y)
  came (controller_input.Vr from m) is = OfInput (ap view_told (sym is))
  came (controller_input.Local (local.Suspect view)) is = OfInput (ap view_told (sym is))
  came (controller_input.Local local.Tick) is = tt
  came (controller_input.Local local.Crash) is = tt
  came (controller_input.Local (local.Frame port bytes)) is = tt
  came (controller_input.Local (local.Port port up)) is = tt
  came (controller_input.Local local.Restart) is = tt
  came (controller_input.Of s xid m) is = tt
  came (controller_input.Malformed from) is = tt

  pub views_from : (w : Work) → Chain kinds setup x (beginning c) w → StateViews (λ v. IsKnownView x c v) w.state.vr
  views_from w chain = chain_views (λ v. IsKnownView x c v) (came x refl) (record { view = Own refl; responses = λ r k. OfResponse r k refl }) w chain
