-- The moves of which a turn of a controller is made, and what a controller may say.
use Rattle.std.specs.Prelude.{◌≡◌, ℕ, ◌+◌, true, false, List, length, Option, None}
use Rattle.of_types.specs.declared.message.Extension.TheVariants as extension
use Rattle.of_types.specs.declared.message.Happening.{Happening}
use Rattle.of_types.specs.declared.message.OfMessage.TheVariants as plain
use Rattle.of_types.specs.declared.message.Outcome.{Outcome}
use Rattle.of_types.specs.declared.message.Spoken.TheVariants as spoken
use Rattle.of_types.specs.declared.setup.Setup.{Setup}
use Rattle.journal.specs.declared.journal.Letter.{Letter}
use Rattle.journal.specs.declared.journal.Local.TheVariants as local
use Rattle.vr_log.specs.declared.entry.Entry.{Entry}
use Rattle.vr_log.specs.declared.entry.Entry.TheVariants.{Received, Processed}
use Rattle.vr_log.specs.declared.entry.LogFull.{LogFull}
use Rattle.vr_log.specs.declared.message.VrLetter.{VrLetter}
use Rattle.vr_log.specs.declared.message.VrMessage.TheVariants as message
use Rattle.vr_log.specs.declared.state.VrState.{VrState}
use Rattle.vr_log.specs.Log.{received, processed, is_past_limits, may_be_received}
use Rattle.vr_log.specs.Members.{leads}
use Rattle.vr_log.specs.Steps.{letter}
use Rattle.vr_core.specs.declared.input.VrInput.{VrInput}
use Rattle.vr_core.specs.declared.input.VrInput.TheVariants as vr_input
use Rattle.app_core.specs.declared.issued.Issued.{Issued}
use Rattle.dispatcher.specs.Marks.{no_marks, settled_commands, is_pending, with_marked_result, wanted}
use Rattle.dispatcher.specs.Folding.{numbered, acknowledgement}
use Rattle.group_controller.specs.declared.messages.ControllerInput.{ControllerInput}
use Rattle.group_controller.specs.declared.messages.ControllerInput.TheVariants as controller_input
use Rattle.group_controller.specs.declared.messages.ControllerSays.{ControllerSays}
use Rattle.group_controller.specs.State.{ControllerState, Work, committed, posting_work, leaving, to_switch, to_member}
use Rattle.group_controller.specs.Settling.{role_letter, command_letter, ack_letter, clear_letter, with_proposal, is_settled}
use Rattle.list_facts.specs.Lists.{IsIn}
use Rattle.controller_moves.specs.ControllerLaws.MemberMoves.{MemberMove, IsSaidByMember}

-- what the member of a controller takes
abbrev pub member_input : ControllerInput → VrInput
member_input (controller_input.Vr from message) = vr_input.From from message
member_input (controller_input.Local (local.Suspect view)) = vr_input.Suspect view
member_input _ = vr_input.Tick

-- what a controller in this state may propose on an input: an event that came and that may follow, or the first
-- unprocessed event as processed, where it is finished
pub data IsProposed (kinds : List ℕ) (setup : Setup) (x : ControllerInput) (c : ControllerState) (entry : Entry) : Type 0 where
  Receives : (s xid life number : ℕ) (what : Happening) → x ≡ controller_input.Of s xid (spoken.Ravana (extension.Event life number what)) →
      may_be_received (record { switch = s; life = life; number = number; what = what }) (received c.vr.log) ≡ true →
      entry ≡ Received (record { switch = s; life = life; number = number; what = what }) → IsProposed kinds setup x c entry
  Processes : is_settled kinds setup c ≡ true → entry ≡ Processed (processed (committed c)) → IsProposed kinds setup x c entry

-- What a controller in this state may say on an input: what its member says, the PREPARE of what it proposes, and to
-- switches the questions, commands and answers of a primary. Each controller answers an ECHO_REQUEST.
pub data IsSaid (kinds : List ℕ) (setup : Setup) (x : ControllerInput) (c : ControllerState) (l : Letter ControllerSays) : Type 0 where
  Tells : (m : VrLetter) → IsSaidByMember c.vr m → l ≡ to_member m → IsSaid kinds setup x c l
  Prepares : (to : ℕ) (entry : Entry) → leads c.vr ≡ true → IsProposed kinds setup x c entry →
      l ≡ to_member (letter (message.Prepare c.vr.view (length c.vr.log + 1) c.vr.commit entry) to) → IsSaid kinds setup x c l
  Asks : (s : ℕ) → leads c.vr ≡ true → l ≡ role_letter c.vr.view s → IsSaid kinds setup x c l
  Commands : (n : Issued) → leads c.vr ≡ true → IsIn n (wanted kinds setup (committed c) c.marks) → l ≡ command_letter c.vr.view (numbered kinds setup (committed c) n) → IsSaid kinds setup x c l
  Acks : (s life : ℕ) → leads c.vr ≡ true → l ≡ ack_letter (acknowledgement (committed c) s life) → IsSaid kinds setup x c l
  Clears : (s life : ℕ) → leads c.vr ≡ true → l ≡ clear_letter (record { switch = s; life = life; through = settled_commands kinds setup (committed c) s life }) → IsSaid kinds setup x c l
  Echoes : (s xid : ℕ) (body : List ℕ) → x ≡ controller_input.Of s xid (spoken.Plain (plain.EchoRequest body)) → l ≡ to_switch s xid (spoken.Plain (plain.EchoReply body)) → IsSaid kinds setup x c l

-- One move within the turn of an input: a move of the member, letters, a save, the beginning of a view, a proposal, a
-- result that counts, or what only the marks and notes of the view show.
pub data ControllerMove (kinds : List ℕ) (setup : Setup) (x : ControllerInput) (w w' : Work) : Type 0 where
  Steps : (s : VrState) → MemberMove (member_input x) w.state.vr s → w' ≡ leaving w (record w.state { vr = s }) → ControllerMove kinds setup x w w'
  Says : (ls : List (Letter ControllerSays)) → ((l : Letter ControllerSays) → IsIn l ls → IsSaid kinds setup x w.state l) → w' ≡ posting_work w ls → ControllerMove kinds setup x w w'
  Saves : (save : Option (ℕ × ℕ)) → w' ≡ record w { save = save } → ControllerMove kinds setup x w w'
  Begins : leads w.state.vr ≡ true → w' ≡ leaving w (record w.state { marks = no_marks; last_told = None }) → ControllerMove kinds setup x w w'
  Proposes : (entry : Entry) → leads w.state.vr ≡ true → IsProposed kinds setup x w.state entry → is_past_limits w.state.vr.log entry ≡ false →
      w' ≡ with_proposal w entry → ControllerMove kinds setup x w w'
  Results : (s xid life number : ℕ) (outcome : Outcome) → x ≡ controller_input.Of s xid (spoken.Ravana (extension.CmdAck life number outcome)) → leads w.state.vr ≡ true →
      is_pending kinds setup (committed w.state) s life number ≡ true →
      w' ≡ leaving w (record w.state { marks = with_marked_result kinds setup (committed w.state) w.state.marks s life number }) → ControllerMove kinds setup x w w'
  Notes : (confirmed : List ℕ) (told : Option ℕ) (full : Option LogFull) →
      w' ≡ leaving w (record w.state { marks = record w.state.marks { confirmed = confirmed }; last_told = told; full = full }) → ControllerMove kinds setup x w w'

-- moves, one after another
pub data Chain (kinds : List ℕ) (setup : Setup) (x : ControllerInput) (first : Work) : Work → Type 0 where
  Start : Chain kinds setup x first first
  Then : (w w' : Work) → Chain kinds setup x first w → ControllerMove kinds setup x w w' → Chain kinds setup x first w'
