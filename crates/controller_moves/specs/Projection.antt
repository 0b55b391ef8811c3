-- What of the inputs and letters of a controller counts for agreement: what members say to each other. All else that it
-- hears is its own.
use Rattle.std.specs.Prelude.{ℕ, List, [], ◌∷◌, flat_map, Option, Some, None}
use Rattle.of_types.specs.declared.message.Spoken.{Spoken}
use Rattle.journal.specs.declared.journal.Actor.{Actor}
use Rattle.journal.specs.declared.journal.Actor.TheVariants.{Controller, Switch}
use Rattle.journal.specs.declared.journal.Letter.{Letter}
use Rattle.journal.specs.declared.journal.Local.{Local}
use Rattle.agreement.specs.History as core
use Rattle.agreement.specs.History.{Answer, Message, abstract_letter}
use Rattle.agreement.specs.Journals as journal
use Rattle.agreement.specs.Journals.{Input}
use Rattle.vr_log.specs.declared.entry.Entry.{Entry}
use Rattle.vr_log.specs.declared.message.Filled.{Filled}
use Rattle.vr_log.specs.declared.message.VrMessage.{VrMessage}
use Rattle.vr_log.specs.declared.message.VrMessage.TheVariants as message
use Rattle.controller_moves.specs.MemberMoves.Projection.{message_of}
use Rattle.group_controller.specs.declared.messages.ControllerInput.{ControllerInput}
use Rattle.group_controller.specs.declared.messages.ControllerInput.TheVariants as controller_input
use Rattle.group_controller.specs.declared.messages.ControllerSays.{ControllerSays}
use Rattle.group_controller.specs.declared.messages.ControllerSays.TheVariants as controller_says

-- what a controller takes that is no message of a member: a local input, a message of a switch, a body that spells none
pub data OwnInput : Type 0 where
  Happens : Local → OwnInput
  FromSwitch : (switch xid : ℕ) → Spoken → OwnInput
  Unread : (from : Actor) → OwnInput

-- what a response carries, as the code has it
abbrev pub filled_of : Answer Entry → Option Filled
filled_of core.Bare = None
filled_of (core.Filled commit log) = Some (record { commit = commit; log = log })

-- a message of the moves, as the code has it
abbrev pub vr_message_of : Message Entry → VrMessage
vr_message_of (core.Prepare view op commit entry) = message.Prepare view op commit entry
vr_message_of (core.PrepareOk view op) = message.PrepareOk view op
vr_message_of (core.Commit view commit) = message.Commit view commit
vr_message_of (core.StartViewChange view) = message.StartViewChange view
vr_message_of (core.DoViewChange view normal commit log) = message.DoViewChange view normal commit log
vr_message_of (core.StartView view first commit log) = message.StartView view first commit log
vr_message_of (core.GetState view op) = message.GetState view op
vr_message_of (core.NewState view first commit log) = message.NewState view first commit log
vr_message_of (core.Fetch view op) = message.Fetch view op
vr_message_of (core.Supply view first log) = message.Supply view first log
vr_message_of (core.Recovery nonce promise) = message.Recovery nonce promise
vr_message_of (core.RecoveryResponse view nonce answer) = message.RecoveryResponse view nonce (filled_of answer)

-- what a controller takes, as the code has it
abbrev pub input_of : Input OwnInput Entry → ControllerInput
input_of (journal.Local (Happens what)) = controller_input.Local what
input_of (journal.Local (FromSwitch switch xid said)) = controller_input.Of switch xid said
input_of (journal.Local (Unread from)) = controller_input.Malformed from
input_of (journal.Heard l) = controller_input.Vr l.sender (vr_message_of l.message)

-- what controller c says in one letter, where that is to a member
abbrev pub projected_letters_to : ℕ → Actor → ControllerSays → List (core.Letter Entry)
projected_letters_to c (Controller j) (controller_says.Vr said) = abstract_letter c j (message_of said) ∷ []
projected_letters_to c (Controller j) (controller_says.Of xid said) = []
projected_letters_to c (Switch s) said = []

-- the letters of controller c to members
abbrev pub letters_to_members : ℕ → List (Letter ControllerSays) → List (core.Letter Entry)
letters_to_members c letters = flat_map (λ l. projected_letters_to c l.to l.body) letters
