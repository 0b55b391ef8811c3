-- The views that a controller knows fit their type: each comes from what it knew, or from its input.
use Rattle.std.proofs.Common.{◌≡◌, ◌<◌, ℕ, List, Bool, true, false, refl, sym, subst, inl, inr, arith}
use Rattle.std.specs.Prelude.{◌^◌}
use Rattle.of_types.specs.declared.setup.Setup.{Setup}
use Rattle.journal.specs.declared.journal.Local.TheVariants as local
use Rattle.vr_log.specs.declared.message.VrMessage.{VrMessage}
use Rattle.vr_log.specs.declared.message.VrMessage.TheVariants as message
use Rattle.vr_codec.specs.Fits.{FitsVr}
use Rattle.group_controller.specs.declared.messages.ControllerInput.{ControllerInput}
use Rattle.group_controller.specs.declared.messages.ControllerInput.TheVariants as controller_input
use Rattle.group_controller.specs.State.{ControllerState, Work}
use Rattle.group_controller.specs.Rules.{controller_work, is_down}
use Rattle.controller_moves.specs.ControllerLaws.Views.{StateViews, IsKnownView, Own, OfResponse, OfInput, view_of, view_told}
use Rattle.controller_moves.proofs.ControllerLaws.Reached.{turn_chain}
use Rattle.controller_moves.proofs.ControllerLaws.Restarts.{down_rests}
use Rattle.controller_moves.proofs.ControllerLaws.Views.{views_from}
use Rattle.run_laws.specs.OnceLaws.Facts.{PastFacts}
use Rattle.run_laws.specs.OnceLaws.Invariant.{IsHeardByController}

-- the view of a message whose numbers fit their fields
fits_view : (m : VrMessage) → FitsVr m → view_of m < 2 ^ 32
fits_view (message.Prepare view op commit entry) h = h.0
fits_view (message.PrepareOk view op) h = h.0
fits_view (message.Commit view commit) h = h.0
fits_view (message.StartViewChange view) h = h
fits_view (message.DoViewChange view normal commit log) h = h.0
fits_view (message.StartView view first commit log) h = h.0
fits_view (message.Recovery nonce promise) h = h.1
fits_view (message.RecoveryResponse view nonce filled) h = h.0
fits_view (message.GetState view op) h = h.0
fits_view (message.NewState view first commit log) h = h.0
fits_view (message.Fetch view op) h = h.0
fits_view (message.Supply view first log) h = h.0

-- the view that an input tells
pub heard_view : (kinds : List ℕ) (setup : Setup) (f : PastFacts) (x : ControllerInput) → IsHeardByController kinds setup f x → view_told x < 2 ^ 32
heard_view kinds setup f (controller_input.Vr from m) h = fits_view m h.1
heard_view kinds setup f (controller_input.Local (local.Suspect view)) h = h
heard_view kinds setup f (controller_input.Local (local.Frame port bytes)) h = omega arith
heard_view kinds setup f (controller_input.Local (local.Port port up)) h = omega arith
heard_view kinds setup f (controller_input.Local local.Tick) h = omega arith
heard_view kinds setup f (controller_input.Local local.Crash) h = omega arith
heard_view kinds setup f (controller_input.Local local.Restart) h = omega arith
heard_view kinds setup f (controller_input.Of s xid said) h = omega arith
heard_view kinds setup f (controller_input.Malformed from) h = omega arith

module _ (kinds : List ℕ) (setup : Setup) (x : ControllerInput) (c : ControllerState) (views : StateViews (λ view. view < 2 ^ 32) c.vr) (told : view_told x < 2 ^ 32) where
  pub known_view : (view : ℕ) → IsKnownView x c view → view < 2 ^ 32
  known_view view (Own is) = subst (λ (v : ℕ). v < 2 ^ 32) (sym is) views.view
  known_view view (OfResponse r k is) = subst (λ (v : ℕ). v < 2 ^ 32) (sym is) (views.responses r k)
  known_view view (OfInput is) = subst (λ (v : ℕ). v < 2 ^ 32) (sym is) told

  abbrev Fits : Work → Type 0
  Fits work = StateViews (λ view. view < 2 ^ 32) work.state.vr

  pub views_kept : Fits (controller_work kinds setup c x)
  views_kept = by_down (is_down c) refl
    where
      by_down : (b : Bool) → is_down c ≡ b → Fits (controller_work kinds setup c x)
      by_down true off = elim (down_rests kinds setup x c off) [
        | inl rests ↦ subst (λ (w : Work). Fits w) (sym rests) views
        | inr r ↦ subst (λ (s : ControllerState). StateViews (λ view. view < 2 ^ 32) s.vr) (sym r.1.state_is) (record { view = omega arith; responses = λ r k. absurd k })
      ]
      by_down false up = elim (turn_chain kinds setup x c up) [
        | inl chain ↦ let from = views_from kinds setup x c (controller_work kinds setup c x) chain in record { view = known_view _ from.view; responses = λ r k. known_view r.view (from.responses r k) }
        | inr crash ↦ subst (λ (w : Work). Fits w) (sym crash.1) (record { view = omega arith; responses = λ r k. absurd k })
      ]
