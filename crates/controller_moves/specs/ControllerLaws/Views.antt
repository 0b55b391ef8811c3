-- Views that a member has, and that messages and inputs tell.
use Rattle.std.specs.Prelude.{◌≡◌, ℕ}
use Rattle.vr_log.specs.declared.message.VrMessage.{VrMessage}
use Rattle.vr_log.specs.declared.message.VrMessage.TheVariants as message
use Rattle.vr_log.specs.declared.state.Response.{Response}
use Rattle.vr_log.specs.declared.state.VrState.{VrState}
use Rattle.vr_recovery.specs.Recovering.{filled}
use Rattle.vr_core.specs.declared.input.VrInput.{VrInput}
use Rattle.vr_core.specs.declared.input.VrInput.TheVariants as vr_input
use Rattle.group_controller.specs.declared.messages.ControllerInput.{ControllerInput}
use Rattle.group_controller.specs.declared.messages.ControllerInput.TheVariants as controller_input
use Rattle.group_controller.specs.State.{ControllerState}
use Rattle.journal.specs.declared.journal.Local.TheVariants as local
use Rattle.list_facts.specs.Lists.{IsIn}

-- the view that a message tells
abbrev pub view_of : VrMessage → ℕ
view_of (message.Prepare view op commit entry) = view
view_of (message.PrepareOk view op) = view
view_of (message.Commit view commit) = view
view_of (message.StartViewChange view) = view
view_of (message.DoViewChange view normal commit log) = view
view_of (message.StartView view first commit log) = view
view_of (message.Recovery nonce promise) = promise
view_of (message.RecoveryResponse view nonce filled) = view
view_of (message.GetState view op) = view
view_of (message.NewState view first commit log) = view
view_of (message.Fetch view op) = view
view_of (message.Supply view first log) = view

-- an input tells a view
pub data TellsView (x : VrInput) (view : ℕ) : Type 0 where
  Suspected : x ≡ vr_input.Suspect view → TellsView x view
  Told : (from : ℕ) (m : VrMessage) → x ≡ vr_input.From from m → view ≡ view_of m → TellsView x view

-- the view of a member, and those that its responses tell, are such views
pub record StateViews (IsView : ℕ → Type 0) (s : VrState) : Type 0 where
  pub view : IsView s.view
  pub responses : (r : Response) → IsIn r s.responses → IsView r.view

-- an input of a member tells such a view
abbrev pub MemberInputViews : (ℕ → Type 0) → VrInput → Type 0
MemberInputViews IsView (vr_input.From from m) = IsView (view_of m)
MemberInputViews IsView (vr_input.Suspect view) = IsView view
MemberInputViews IsView vr_input.Tick = Unit {0}

-- the view that an input tells
abbrev pub view_told : ControllerInput → ℕ
view_told (controller_input.Vr from m) = view_of m
view_told (controller_input.Local (local.Suspect view)) = view
view_told _ = 0

-- a view that a member had, was told in a response, or is told
pub data IsKnownView (x : ControllerInput) (c : ControllerState) (view : ℕ) : Type 0 where
  Own : view ≡ c.vr.view → IsKnownView x c view
  OfResponse : (r : Response) → IsIn r c.vr.responses → view ≡ r.view → IsKnownView x c view
  OfInput : view ≡ view_told x → IsKnownView x c view
