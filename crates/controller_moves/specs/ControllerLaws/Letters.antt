-- What a letter of a controller tells of what is committed.
use Rattle.std.specs.Prelude.{◌≡◌, ◌<◌, ◌≤◌, ℕ, ◌+◌, ◌%◌, true, List, length, take, slice_get, Some}
use Rattle.of_types.specs.declared.message.Event.{Event}
use Rattle.of_types.specs.declared.message.Extension.TheVariants as extension
use Rattle.of_types.specs.declared.message.OfMessage.TheVariants as plain
use Rattle.of_types.specs.declared.message.Order.{Order}
use Rattle.of_types.specs.declared.message.Spoken.TheVariants as spoken
use Rattle.of_types.specs.declared.numbers.TheConstants.{MASTER}
use Rattle.of_types.specs.declared.setup.Setup.{Setup}
use Rattle.of_types.specs.Lives.{count_in}
use Rattle.journal.specs.declared.journal.Letter.{Letter}
use Rattle.vr_log.specs.declared.message.VrLetter.{VrLetter}
use Rattle.vr_log.specs.declared.state.VrState.{VrState}
use Rattle.vr_log.specs.Log.{received, processed}
use Rattle.vr_log.specs.Members.{is_normal}
use Rattle.app_core.specs.Issued.{issued}
use Rattle.group_controller.specs.declared.messages.ControllerInput.{ControllerInput}
use Rattle.group_controller.specs.declared.messages.ControllerInput.TheVariants as controller_input
use Rattle.group_controller.specs.declared.messages.ControllerSays.{ControllerSays}
use Rattle.group_controller.specs.State.{ControllerState, committed, to_switch, to_member}

-- A command for the event at a place: its number is the place of its order among those that are issued to its life, and
-- what is settled is what is issued for the events before that one.
pub record IsCommandAt (kinds : List ℕ) (setup : Setup) (events : List Event) (place switch life settled number : ℕ) (order : Order) : Type 0 where
  pub there : place < length events
  pub settled_is : settled ≡ length (issued kinds setup switch life (take place events))
  pub least : settled ≤ number
  pub most : number < length (issued kinds setup switch life (take (place + 1) events))
  pub stands : slice_get (issued kinds setup switch life events) number ≡ Some order

-- a controller leads: it is normal, and the primary of its view
pub record Leads (s : VrState) : Type 0 where
  pub normal : is_normal s ≡ true
  pub primary : s.view % s.controllers ≡ s.me

-- what a letter of a controller in this state tells
pub data LetterTells (kinds : List ℕ) (setup : Setup) (x : ControllerInput) (c : ControllerState) (l : Letter ControllerSays) : Type 0 where
  Member : (m : VrLetter) → l ≡ to_member m → LetterTells kinds setup x c l
  Role : (switch : ℕ) → Leads c.vr → l ≡ to_switch switch 0 (spoken.Plain (plain.RoleRequest MASTER c.vr.view)) → LetterTells kinds setup x c l
  Command : (switch life settled number : ℕ) (order : Order) → Leads c.vr →
      IsCommandAt kinds setup (received (committed c)) (processed (committed c)) switch life settled number order →
      l ≡ to_switch switch 0 (spoken.Ravana (extension.Command life c.vr.view number settled order)) → LetterTells kinds setup x c l
  Ack : (switch life : ℕ) → Leads c.vr →
      l ≡ to_switch switch 0 (spoken.Ravana (extension.EventAck life (count_in switch life (take (processed (committed c)) (received (committed c)))))) → LetterTells kinds setup x c l
  Clear : (switch life settled : ℕ) → Leads c.vr → settled ≡ length (issued kinds setup switch life (take (processed (committed c)) (received (committed c)))) →
      l ≡ to_switch switch 0 (spoken.Ravana (extension.Clear life settled)) → LetterTells kinds setup x c l
  Echo : (switch xid : ℕ) (body : List ℕ) → x ≡ controller_input.Of switch xid (spoken.Plain (plain.EchoRequest body)) →
      l ≡ to_switch switch xid (spoken.Plain (plain.EchoReply body)) → LetterTells kinds setup x c l
