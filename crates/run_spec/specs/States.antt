-- What an actor holds after its part of a journal, and what it owes. Parts have their newest entry first.
use Rattle.std.specs.Prelude.{◌≡◌, ℕ, ◌+◌, true, List, [], map, slice_index_or, Option, Some, None}
use Rattle.list_facts.specs.Fold.{ActorRules, ActorStanding, Step, Takes, Posts, Refuses, Rests, actor_standing, standing_on}
use Rattle.of_types.specs.declared.setup.Setup.{Setup}
use Rattle.journal.specs.declared.journal.Actor.{Actor}
use Rattle.journal.specs.declared.journal.Actor.TheVariants as actor
use Rattle.journal.specs.declared.journal.JournalEntry.{JournalEntry}
use Rattle.journal.specs.declared.journal.JournalEntry.TheVariants.{Post, Draw, Lose, Local, Idle, Refused}
use Rattle.journal.specs.declared.journal.Letter.{Letter}
use Rattle.journal.specs.declared.journal.Local.{Local as LocalInput}
use Rattle.journal.specs.declared.journal.Packet.{Packet}
use Rattle.journal.specs.declared.journal.SaveResult.{SaveResult}
use Rattle.journal.specs.declared.journal.SaveResult.TheVariants.{Saved, KeptOld, KeptNew}
use Rattle.run_spec.specs.declared.messages.Way.{Way}
use Rattle.run_spec.specs.declared.messages.Message.{Message}
use Rattle.run_spec.specs.declared.messages.Message.TheVariants as message
use Rattle.run_spec.specs.declared.messages.Unsealed.{Unsealed}
use Rattle.run_spec.specs.declared.messages.Unsealed.TheVariants as unsealed
use Rattle.of_switch.specs.declared.says.SwitchSays.{SwitchSays}
use Rattle.of_switch.specs.declared.says.SwitchSays.TheVariants as switch_says
use Rattle.of_switch.specs.declared.says.SwitchInput.{SwitchInput}
use Rattle.of_switch.specs.declared.says.SwitchInput.TheVariants as switch_input
use Rattle.group_controller.specs.declared.messages.ControllerSays.{ControllerSays}
use Rattle.group_controller.specs.declared.messages.ControllerSays.TheVariants as controller_says
use Rattle.group_controller.specs.declared.messages.ControllerInput.{ControllerInput}
use Rattle.group_controller.specs.declared.messages.ControllerInput.TheVariants as controller_input
use Rattle.of_switch.specs.State.{SwitchState, SwitchTurn, starting_switch}
use Rattle.of_switch.specs.Rules.{switch_turn}
use Rattle.group_controller.specs.State.{ControllerState, Work, starting_controller, down}
use Rattle.group_controller.specs.Rules.{controller_work}
use Rattle.run_spec.specs.Messages.{IsValidMessage, FitsMessage, way_of, way_of_message}

-- how bodies stand for messages
pub record Sealing (B : Type 0) : Type 0 where
  pub sealed : Message → B  -- the body of a message
  pub spelled : Way → B → Unsealed  -- what a body says on a way
  pub size : B → ℕ

-- a body says what was sealed in it: a valid message whose numbers fit their fields is read again as it was
abbrev pub IsFaithful : {B : Type 0} → Sealing B → Type 0
IsFaithful sealing = (m : Message) → IsValidMessage m → FitsMessage m → sealing.spelled (way_of_message m) (sealing.sealed m) ≡ unsealed.Message m

-- what a run is about: the setup, the kinds of the chains, and how bodies are read
pub record Scene (B : Type 0) : Type 0 where
  pub setup : Setup
  pub kinds : List ℕ
  pub sealing : Sealing B

-- what a packet says on its way
abbrev pub content : {B : Type 0} → Sealing B → Packet B → Unsealed
content sealing p = sealing.spelled (way_of p.from p.to) p.body

-- a message as the input of a switch, and of a controller. What is not of its sender's way says nothing
abbrev pub switch_hears : Actor → Unsealed → SwitchInput
switch_hears (actor.Controller c) (unsealed.Message (message.Of xid spoken)) = switch_input.Of c xid spoken
switch_hears (actor.Switch s) (unsealed.Message (message.Frame port bytes)) = switch_input.Frame s port bytes
switch_hears sender (unsealed.Malformed kind code xid head) = switch_input.Malformed sender kind code xid head
switch_hears sender _ = switch_input.Malformed sender 0 0 0 []

abbrev pub controller_hears : Actor → Unsealed → ControllerInput
controller_hears (actor.Switch s) (unsealed.Message (message.Of xid spoken)) = controller_input.Of s xid spoken
controller_hears (actor.Controller c) (unsealed.Message (message.Vr said)) = controller_input.Vr c said
controller_hears sender _ = controller_input.Malformed sender

-- letters with their bodies sealed
abbrev pub switch_message : SwitchSays → Message
switch_message (switch_says.Of xid spoken) = message.Of xid spoken
switch_message (switch_says.Frame port bytes) = message.Frame port bytes

abbrev pub controller_message : ControllerSays → Message
controller_message (controller_says.Of xid spoken) = message.Of xid spoken
controller_message (controller_says.Vr said) = message.Vr said

abbrev pub sealed_letters : {A B : Type 0} → (B → Message) → Sealing A → List (Letter B) → List (Letter A)
sealed_letters said sealing letters = map (λ l. record { to = l.to; body = sealing.sealed (said l.body) }) letters

-- how an actor hears, and what its words are as messages
pub record Speech (Input Says : Type 0) : Type 0 where
  pub hears : Actor → Unsealed → Input
  pub locally : LocalInput → Input
  pub said : Says → Message

abbrev pub switch_speech : Speech SwitchInput SwitchSays
switch_speech = record { hears = switch_hears; locally = λ input. switch_input.Local input; said = switch_message }

abbrev pub controller_speech : Speech ControllerInput ControllerSays
controller_speech = record { hears = controller_hears; locally = λ input. controller_input.Local input; said = controller_message }

-- what an entry is to its actor, beside the packet that it draws
abbrev pub step_of : {B I A : Type 0} → Speech I A → Sealing B → JournalEntry B → Option (Packet B) → Step I
step_of speech sealing (Draw a id keep) (Some p) = Takes (speech.hears p.from (content sealing p))
step_of speech sealing (Draw a id keep) None = Rests
step_of speech sealing (Local a input) found = Takes (speech.locally input)
step_of speech sealing (Post a first letters lost) found = Posts
step_of speech sealing (Refused a) found = Refuses
step_of speech sealing (Lose a id) found = Rests
step_of speech sealing (Idle a) found = Rests

-- what an actor of these rules holds after its part, as it started so
abbrev pub actor_at : {B S I A : Type 0} → ActorRules S I (Letter A) → Speech I A → Sealing B → S → List (JournalEntry B × Option (Packet B)) → ActorStanding S (Letter A)
actor_at rules speech sealing start own = actor_standing rules start (map (λ x. step_of speech sealing x.0 x.1) own)

-- a switch after its part
abbrev pub SwitchAt : Type 0
SwitchAt = ActorStanding SwitchState (Letter SwitchSays)

abbrev pub switch_took : SwitchAt → SwitchTurn → SwitchAt
switch_took w turn = record w { now = turn.state; before = w.now; owed = turn.letters; fresh = true; saves_before = w.saves }

-- a switch saves nothing, and is as it was where an input is refused
abbrev pub switch_rules : ActorRules SwitchState SwitchInput (Letter SwitchSays)
switch_rules = record { takes = λ w input. switch_took w (switch_turn w.now input); refused = λ state. state }

abbrev pub switch_step : {B : Type 0} → Scene B → SwitchAt → JournalEntry B → Option (Packet B) → SwitchAt
switch_step scene w e found = standing_on switch_rules w (step_of switch_speech scene.sealing e found)

abbrev pub switch_at : {B : Type 0} → Scene B → ℕ → List (JournalEntry B × Option (Packet B)) → SwitchAt
switch_at scene s own = actor_at switch_rules switch_speech scene.sealing (starting_switch s scene.setup) own

-- a controller that fell: it is down, with the pair that it had
abbrev pub crashed : ControllerState → ControllerState
crashed c = down c c.vr.promise c.vr.life

-- a controller after its part
abbrev pub ControllerAt : Type 0
ControllerAt = ActorStanding ControllerState (Letter ControllerSays)

-- a turn with a save: the letters go out only where it succeeds
abbrev pub controller_saved : ControllerAt → Work → ℕ → ℕ → SaveResult → ControllerAt
controller_saved w work promise life Saved =
    record { now = work.state; before = w.now; owed = work.letters; fresh = true; saves = w.saves + 1; saves_before = w.saves }
controller_saved w work promise life KeptOld =
    record { now = crashed w.now; before = w.now; owed = []; fresh = true; saves = w.saves + 1; saves_before = w.saves }
controller_saved w work promise life KeptNew =
    record { now = down w.now promise life; before = w.now; owed = []; fresh = true; saves = w.saves + 1; saves_before = w.saves }

abbrev pub controller_took : List SaveResult → ControllerAt → Work → ControllerAt
controller_took results w work =
    elim work.save [
      | None ↦ record { now = work.state; before = w.now; owed = work.letters; fresh = true; saves = w.saves; saves_before = w.saves }
      | Some pair ↦ controller_saved w work pair.0 pair.1 (slice_index_or results w.saves Saved)
    ]

-- a controller is down with the pair from before where an input is refused
abbrev pub controller_rules : {B : Type 0} → Scene B → List SaveResult → ActorRules ControllerState ControllerInput (Letter ControllerSays)
controller_rules scene results = record { takes = λ w input. controller_took results w (controller_work scene.kinds scene.setup w.now input); refused = crashed }

abbrev pub controller_step : {B : Type 0} → Scene B → List SaveResult → ControllerAt → JournalEntry B → Option (Packet B) → ControllerAt
controller_step scene results w e found = standing_on (controller_rules scene results) w (step_of controller_speech scene.sealing e found)

abbrev pub controller_at : {B : Type 0} → Scene B → List SaveResult → ℕ → List (JournalEntry B × Option (Packet B)) → ControllerAt
controller_at scene results c own =
    actor_at (controller_rules scene results) controller_speech scene.sealing (starting_controller c scene.setup.controllers) own
