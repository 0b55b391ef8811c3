-- The rules of a switch: one definition for each case.
use Rattle.std.specs.Prelude.{ℕ, Bool, true, false, nat_eq, ◌&&◌, List, [], ◌∷◌, map, if◌then◌else◌}
use Rattle.of_types.specs.declared.message.Extension.{Extension}
use Rattle.of_types.specs.declared.message.Extension.TheVariants as extension
use Rattle.of_types.specs.declared.message.OfMessage.{OfMessage}
use Rattle.of_types.specs.declared.message.OfMessage.TheVariants as plain
use Rattle.of_types.specs.declared.message.Spoken.TheVariants as spoken
use Rattle.of_types.specs.declared.numbers.TheConstants.{MASTER}
use Rattle.of_types.specs.declared.refusal.TheConstants.{BAD_ROLE, BAD_TYPE, NOT_PERMITTED, STALE_ROLE}
use Rattle.journal.specs.declared.journal.Actor.{Actor}
use Rattle.journal.specs.declared.journal.Actor.TheVariants as actor
use Rattle.journal.specs.declared.journal.Local.{Local}
use Rattle.journal.specs.declared.journal.Local.TheVariants as local
use Rattle.role_fence.specs.declared.fence.RoleAnswer.{RoleAnswer}
use Rattle.role_fence.specs.declared.fence.RoleAnswer.TheVariants.{Reply, Stale, BadRole}
use Rattle.role_fence.specs.Fence.{RoleStep, role_step}
use Rattle.of_switch.specs.declared.says.SwitchInput.{SwitchInput}
use Rattle.of_switch.specs.declared.says.SwitchInput.TheVariants as switch_input
use Rattle.of_switch.specs.State.{SwitchState, SwitchTurn, quiet_switch, posts, then_turn, answers, error_letter, switch_refuses, own_number_of, life_of}
use Rattle.of_switch.specs.Events.{event_letter, first_held, on_port, on_event_ack, brings, switch_on_restart, switch_on_tick}
use Rattle.of_switch.specs.Forwarding.{on_frame}
use Rattle.of_switch.specs.Commands.{settled, on_command}

-- a local input. A switch neither suspects nor stops
abbrev pub switch_on_local : SwitchState → Local → SwitchTurn
switch_on_local s (local.Frame port bytes) = on_frame s port bytes
switch_on_local s (local.Port port up) = on_port s port up
switch_on_local s local.Tick = switch_on_tick s
switch_on_local s (local.Suspect view) = quiet_switch s
switch_on_local s local.Crash = quiet_switch s
switch_on_local s local.Restart = switch_on_restart s

-- an accepted master is told the first events, also those that were sent before (Ravana, 4.1)
abbrev pub told_master : ℕ → ℕ → SwitchState → SwitchTurn
told_master from role s = posts s (if nat_eq role MASTER then map (event_letter from) (first_held s) else [])

-- a request for a role (OpenFlow 1.3, 6.3.5 and 7.3.9), by what the fence answers: the reply has the present role and
-- the accepted generation
abbrev pub on_role : SwitchState → ℕ → ℕ → ℕ → RoleStep → RoleAnswer → SwitchTurn
on_role s from xid asked step (Reply role generation) =
    then_turn (answers (record s { fence = step.fence }) from xid (spoken.Plain (plain.RoleReply role generation))) (told_master from asked)
on_role s from xid asked step (Stale seen generation) = switch_refuses s from xid STALE_ROLE
on_role s from xid asked step BadRole = switch_refuses s from xid BAD_ROLE

abbrev pub on_role_request : SwitchState → ℕ → ℕ → ℕ → ℕ → SwitchTurn
on_role_request s from xid role generation =
    let step = role_step s.fence from role generation in on_role s from xid role step step.answer

-- a message of OpenFlow: requests are answered (OpenFlow 1.3, 7.3.1, 7.3.8, 7.3.9, 7.5.2 and 7.5.3). An order is taken
-- only as a command, and all that a controller doesn't send is refused (our own choice)
abbrev pub switch_on_plain : SwitchState → ℕ → ℕ → OfMessage → SwitchTurn
switch_on_plain s from xid plain.Hello = quiet_switch s
switch_on_plain s from xid (plain.Error kind code head) = quiet_switch s
switch_on_plain s from xid (plain.EchoRequest body) = answers s from xid (spoken.Plain (plain.EchoReply body))
switch_on_plain s from xid (plain.EchoReply body) = quiet_switch s
switch_on_plain s from xid plain.FeaturesRequest = answers s from xid (spoken.Plain (plain.FeaturesReply (own_number_of s)))
switch_on_plain s from xid plain.BarrierRequest = answers s from xid (spoken.Plain plain.BarrierReply)
switch_on_plain s from xid (plain.RoleRequest role generation) = on_role_request s from xid role generation
switch_on_plain s from xid (plain.PacketOut out) = switch_refuses s from xid NOT_PERMITTED
switch_on_plain s from xid (plain.FlowMod change) = switch_refuses s from xid NOT_PERMITTED
switch_on_plain s from xid (plain.Experimenter body) = switch_refuses s from xid BAD_TYPE
switch_on_plain s from xid (plain.FeaturesReply datapath) = switch_refuses s from xid BAD_TYPE
switch_on_plain s from xid (plain.PacketIn p) = switch_refuses s from xid BAD_TYPE
switch_on_plain s from xid (plain.FlowRemoved r) = switch_refuses s from xid BAD_TYPE
switch_on_plain s from xid (plain.PortStatus p) = switch_refuses s from xid BAD_TYPE
switch_on_plain s from xid plain.BarrierReply = switch_refuses s from xid BAD_TYPE
switch_on_plain s from xid (plain.RoleReply role generation) = switch_refuses s from xid BAD_TYPE

-- a message of the extension, of the switch's present life (Ravana, 4.1 and 4.2), from whichever controller
abbrev pub on_own_life : SwitchState → ℕ → ℕ → Extension → SwitchTurn
on_own_life s from xid (extension.Event life number what) = switch_refuses s from xid BAD_TYPE
on_own_life s from xid (extension.EventAck life through) = on_event_ack s through
on_own_life s from xid (extension.Command life generation number through what) = on_command s from xid generation number through what
on_own_life s from xid (extension.CmdAck life number result) = switch_refuses s from xid BAD_TYPE
on_own_life s from xid (extension.Clear life through) = quiet_switch (settled s through)

abbrev pub life_said : Extension → ℕ
life_said (extension.Event life number what) = life
life_said (extension.EventAck life through) = life
life_said (extension.Command life generation number through what) = life
life_said (extension.CmdAck life number result) = life
life_said (extension.Clear life through) = life

-- one of another life is dropped (our own rule)
abbrev pub switch_on_extension : SwitchState → ℕ → ℕ → Extension → SwitchTurn
switch_on_extension s from xid said = if nat_eq (life_said said) (life_of s) then on_own_life s from xid said else quiet_switch s

-- a body that spells no message: a controller is told why (OpenFlow 1.3, 7.4.4)
abbrev pub on_malformed : SwitchState → Actor → ℕ → ℕ → ℕ → List ℕ → SwitchTurn
on_malformed s (actor.Controller from) kind code xid head = posts s (error_letter from xid kind code head ∷ [])
on_malformed s (actor.Switch from) kind code xid head = quiet_switch s

-- one turn of a switch
unfoldable pub switch_turn : SwitchState → SwitchInput → SwitchTurn
switch_turn s (switch_input.Local what) = switch_on_local s what
switch_turn s (switch_input.Of from xid (spoken.Plain message)) = switch_on_plain s from xid message
switch_turn s (switch_input.Of from xid (spoken.Ravana message)) = switch_on_extension s from xid message
switch_turn s (switch_input.Malformed from kind code xid head) = on_malformed s from kind code xid head
switch_turn s (switch_input.Frame from port bytes) = on_frame s port bytes

-- a message of the extension that may want memory
abbrev pub asks_memory : SwitchState → Extension → Bool
asks_memory s (extension.EventAck life through) = brings s through
asks_memory s (extension.Clear life through) = false
asks_memory s (extension.Event life number what) = true
asks_memory s (extension.Command life generation number through what) = true
asks_memory s (extension.CmdAck life number result) = true

-- An input that may want memory. An acknowledgement that brings no event among the first of the buffer doesn't, nor
-- does a clear, nor what is of another life.
abbrev pub takes_memory : SwitchState → SwitchInput → Bool
takes_memory s (switch_input.Local what) = true
takes_memory s (switch_input.Of from xid (spoken.Plain message)) = true
takes_memory s (switch_input.Of from xid (spoken.Ravana message)) = nat_eq (life_said message) (life_of s) && asks_memory s message
takes_memory s (switch_input.Malformed from kind code xid head) = true
takes_memory s (switch_input.Frame from port bytes) = true
