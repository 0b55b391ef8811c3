-- What a controller takes, as the moves see it, is what the code takes.
use Rattle.std.proofs.Common.{◌≡◌, ℕ, Option, Some, None, refl, ap}
use Rattle.vr_log.specs.declared.message.Filled.{Filled}
use Rattle.vr_log.specs.declared.message.VrMessage.{VrMessage}
use Rattle.vr_log.specs.declared.message.VrMessage.TheVariants as message
use Rattle.controller_moves.specs.MemberMoves.Projection.{message_of, answer_of}
use Rattle.group_controller.specs.declared.messages.ControllerInput.{ControllerInput}
use Rattle.group_controller.specs.declared.messages.ControllerInput.TheVariants as controller_input
use Rattle.controller_moves.specs.Projection.{filled_of, vr_message_of, input_of}
use Rattle.run_laws.specs.RunAgreement.Projection.{taken_by}

same_filled : (f : Option Filled) → filled_of (answer_of f) ≡ f
same_filled None = refl
same_filled (Some f) = refl

same_message : (x : VrMessage) → vr_message_of (message_of x) ≡ x
same_message (message.Prepare view op commit entry) = refl
same_message (message.PrepareOk view op) = refl
same_message (message.Commit view commit) = refl
same_message (message.StartViewChange view) = refl
same_message (message.DoViewChange view normal commit log) = refl
same_message (message.StartView view first commit log) = refl
same_message (message.Recovery nonce promise) = refl
same_message (message.RecoveryResponse view nonce filled) = ap (λ (f : Option Filled). message.RecoveryResponse view nonce f) (same_filled filled)
same_message (message.GetState view op) = refl
same_message (message.NewState view first commit log) = refl
same_message (message.Fetch view op) = refl
same_message (message.Supply view first log) = refl

pub same_input : (c : ℕ) (x : ControllerInput) → input_of (taken_by c x) ≡ x
same_input c (controller_input.Local what) = refl
same_input c (controller_input.Of switch xid said) = refl
same_input c (controller_input.Malformed from) = refl
same_input c (controller_input.Vr from said) = ap (λ (m : VrMessage). controller_input.Vr from m) (same_message said)
