-- Turns of a switch that no run of a group reaches, computed. By the rules, by hand.
use Rattle.std.specs.Prelude.{◌≡◌, ℕ, Bool, true, false, List, [], ◌∷◌, map, Some, refl}
use Rattle.of_types.specs.declared.message.Extension.TheVariants as extension
use Rattle.of_types.specs.declared.message.FlowCommand.TheVariants as flow
use Rattle.of_types.specs.declared.message.FlowRemoved.{FlowRemoved}
use Rattle.of_types.specs.declared.message.Happening.TheVariants as happening
use Rattle.of_types.specs.declared.message.OfMessage.{OfMessage}
use Rattle.of_types.specs.declared.message.OfMessage.TheVariants as plain
use Rattle.of_types.specs.declared.message.Order.{Order}
use Rattle.of_types.specs.declared.message.Order.TheVariants as order
use Rattle.of_types.specs.declared.message.Outcome.{Outcome}
use Rattle.of_types.specs.declared.message.Outcome.TheVariants as outcome
use Rattle.of_types.specs.declared.message.Spoken.TheVariants as spoken
use Rattle.journal.specs.declared.journal.Actor.TheVariants as actor
use Rattle.journal.specs.declared.journal.Letter.{Letter}
use Rattle.journal.specs.declared.journal.Local.TheVariants as local
use Rattle.of_switch.specs.declared.says.SwitchInput.{SwitchInput}
use Rattle.of_switch.specs.declared.says.SwitchInput.TheVariants as switch_input
use Rattle.of_switch.specs.declared.says.SwitchSays.{SwitchSays}
use Rattle.of_switch.specs.declared.says.SwitchSays.TheVariants as switch_says
use Rattle.flow_table.specs.declared.rows.TableFault.TheVariants as table
use Rattle.of_switch.specs.Commands.{fault_result}
use Rattle.of_switch.specs.State.{SwitchState}
use Rattle.of_switch.specs.Rules.{switch_turn}
use Rattle.unit_tests.proofs.SwitchTurns.{any_frame, lasting, fresh, mastered, packet, port_down, flood, to, leaves, there}

-- what a switch says to inputs, one after another
abbrev says_to : SwitchState → List SwitchInput → List (List (Letter SwitchSays))
says_to s [] = []
says_to s (input ∷ inputs) = (switch_turn s input).letters ∷ says_to (switch_turn s input).state inputs

-- a request of a controller, and the answer to it
abbrev asks : ℕ → OfMessage → SwitchInput
asks c message = switch_input.Of c 7 (spoken.Plain message)

abbrev answered : ℕ → OfMessage → List (Letter SwitchSays)
answered c message = record { to = actor.Controller c; body = switch_says.Of 7 (spoken.Plain message) } ∷ []

abbrev refused : ℕ → ℕ → List (Letter SwitchSays)
refused kind code = answered 1 (plain.Error kind code [])

-- orders by what may be wrong with them: table, flags, timeout, buffer and output; buffer, output and frame
abbrev change : ℕ → ℕ → ℕ → ℕ → ℕ → Order
change number flags idle buffer output =
    order.FlowMod (record {
      cookie = 2;
      cookie_mask = 0;
      table = number;
      command = flow.Add;
      idle = idle;
      hard = 0;
      priority = 9;
      buffer = buffer;
      out_port = 4294967295;
      out_group = 4294967295;
      flags = flags;
      matching = any_frame;
      actions = output ∷ [];
    })

-- the row of such an order has left, for this reason, after so many ticks
abbrev left : ℕ → ℕ → FlowRemoved
left reason ticks =
    record { cookie = 2; priority = 9; reason = reason; duration = ticks; idle = 1; hard = 0; packets = 0; octets = 0; matching = any_frame }

abbrev put : ℕ → ℕ → List ℕ → Order
put buffer output bytes = order.PacketOut (record { buffer = buffer; in_port = 1; actions = output ∷ []; payload = bytes })

-- each message of OpenFlow, in the order of their types: requests are answered, an order that is no command is not permitted, and
-- what only switches say is of a bad type
abbrev says_alone : OfMessage → List (Letter SwitchSays)
says_alone message = (switch_turn (fresh 5 3 2) (asks 1 message)).letters

pub greets : map says_alone (plain.Hello ∷ plain.Error 1 1 [] ∷ plain.EchoReply [] ∷ []) ≡ [] ∷ [] ∷ [] ∷ []
unfolding switch_turn
greets = refl

pub answers_requests : map says_alone (plain.EchoRequest (1 ∷ 2 ∷ 3 ∷ []) ∷ plain.FeaturesRequest ∷ plain.BarrierRequest ∷ []) ≡
    answered 1 (plain.EchoReply (1 ∷ 2 ∷ 3 ∷ [])) ∷ answered 1 (plain.FeaturesReply 5) ∷ answered 1 plain.BarrierReply ∷ []
unfolding switch_turn
answers_requests = refl

pub permits_no_order : map says_alone (
    plain.PacketOut (record { buffer = 4294967295; in_port = 1; actions = 1 ∷ []; payload = there })
    ∷ plain.FlowMod (record {
      cookie = 0;
      cookie_mask = 0;
      table = 0;
      command = flow.Add;
      idle = 0;
      hard = 0;
      priority = 0;
      buffer = 4294967295;
      out_port = 4294967295;
      out_group = 4294967295;
      flags = 0;
      matching = any_frame;
      actions = [];
    })
    ∷ []) ≡ refused 1 5 ∷ refused 1 5 ∷ []
unfolding switch_turn
permits_no_order = refl

pub refuses_types : map says_alone (
    plain.Experimenter []
    ∷ plain.FeaturesReply 1
    ∷ plain.PacketIn (record { reason = 0; cookie = 0; in_port = 1; payload = [] })
    ∷ plain.FlowRemoved (left 0 1)
    ∷ plain.PortStatus (record { reason = 2; port = 1; up = false })
    ∷ plain.BarrierReply
    ∷ plain.RoleReply 2 1
    ∷ []) ≡ refused 1 1 ∷ refused 1 1 ∷ refused 1 1 ∷ refused 1 1 ∷ refused 1 1 ∷ refused 1 1 ∷ refused 1 1 ∷ []
unfolding switch_turn
refuses_types = refl

-- a controller is told why its body spells nothing, with its head; a switch isn't
pub tells_a_controller : switch_turn (fresh 0 3 2) (switch_input.Malformed (actor.Controller 1) 5 6 7 (4 ∷ 14 ∷ [])) ≡
    leaves (fresh 0 3 2) (answered 1 (plain.Error 5 6 (4 ∷ 14 ∷ [])))
unfolding switch_turn
tells_a_controller = refl

pub tells_no_switch : switch_turn (fresh 0 3 2) (switch_input.Malformed (actor.Switch 1) 0 0 0 []) ≡ leaves (fresh 0 3 2) []
unfolding switch_turn
tells_no_switch = refl

-- a result and an event are none of a controller's; a clear of another life is dropped; and a switch neither stops nor suspects
pub hears_no_switch : says_to (fresh 0 3 2) (
    switch_input.Of 1 7 (spoken.Ravana (extension.CmdAck 0 0 outcome.Done))
    ∷ switch_input.Of 1 7 (spoken.Ravana (extension.Event 0 0 port_down))
    ∷ switch_input.Of 1 7 (spoken.Ravana (extension.Clear 1 9))
    ∷ switch_input.Local local.Crash
    ∷ switch_input.Local (local.Suspect 1)
    ∷ []) ≡ refused 1 1 ∷ refused 1 1 ∷ [] ∷ [] ∷ [] ∷ []
unfolding switch_turn
hears_no_switch = refl

-- a controller that asks with an older generation is refused, and so is a role that there is not. Roles change as the fence says: to
-- none with no generation accepted, to master twice, to another master, to slave and to equal
pub fences : says_to (fresh 0 3 2) (
    asks 1 (plain.RoleRequest 0 9)
    ∷ asks 1 (plain.RoleRequest 2 3)
    ∷ asks 0 (plain.RoleRequest 2 2)
    ∷ asks 1 (plain.RoleRequest 2 3)
    ∷ asks 0 (plain.RoleRequest 4 9)
    ∷ asks 0 (plain.RoleRequest 2 4)
    ∷ asks 1 (plain.RoleRequest 0 0)
    ∷ asks 0 (plain.RoleRequest 3 5)
    ∷ asks 1 (plain.RoleRequest 1 0)
    ∷ []) ≡
    answered 1 (plain.RoleReply 1 18446744073709551615)
    ∷ answered 1 (plain.RoleReply 2 3)
    ∷ answered 0 (plain.Error 11 0 [])
    ∷ answered 1 (plain.RoleReply 2 3)
    ∷ answered 0 (plain.Error 11 2 [])
    ∷ answered 0 (plain.RoleReply 2 4)
    ∷ answered 1 (plain.RoleReply 3 4)
    ∷ answered 0 (plain.RoleReply 3 5)
    ∷ answered 1 (plain.RoleReply 1 5)
    ∷ []
unfolding switch_turn
fences = refl

-- commands of a generation, a number and what they ask; those below the number are settled
abbrev commands : ℕ → ℕ → Order → SwitchInput
commands generation number what = switch_input.Of 1 7 (spoken.Ravana (extension.Command 0 generation number number what))

abbrev results : ℕ → Outcome → List (Letter SwitchSays)
results number result = to 1 (spoken.Ravana (extension.CmdAck 0 number result)) ∷ []

abbrev row_left : List (Letter SwitchSays)
row_left = to 1 (spoken.Ravana (extension.Event 0 0 (happening.FlowRemoved (left 0 1)))) ∷ []

-- one of another generation is refused, and one that comes too early says nothing; the next is carried out once, and a repeat is told
-- the result again as long as it is kept
pub executes_once : says_to (mastered 1 1 (fresh 0 3 2)) (
    commands 0 0 (flood 1 there)
    ∷ commands 1 1 (flood 1 there)
    ∷ commands 1 0 (flood 1 there)
    ∷ commands 1 0 (flood 1 there)
    ∷ commands 1 1 (flood 1 there)
    ∷ commands 1 0 (flood 1 there)
    ∷ []) ≡
    refused 1 10 ∷ [] ∷ results 0 outcome.Done ∷ results 0 outcome.Done ∷ results 1 outcome.Done ∷ results 0 outcome.Cleared ∷ []
unfolding switch_turn
executes_once = refl

-- each refusal of a FLOW_MOD comes before those behind it. A timeout is no fault, nor is the flag that asks for a FLOW_REMOVED
pub refuses_changes : says_to (mastered 1 1 (fresh 0 3 2)) (
    commands 1 0 (change 1 2 1 7 3)
    ∷ commands 1 1 (change 0 2 1 7 3)
    ∷ commands 1 2 (change 0 1 1 7 3)
    ∷ commands 1 3 (change 0 1 1 4294967295 3)
    ∷ commands 1 4 (change 0 1 1 4294967295 1)
    ∷ []) ≡
    results 0 (outcome.Failed 5 2)
    ∷ results 1 (outcome.Failed 5 7)
    ∷ results 2 (outcome.Failed 1 8)
    ∷ results 3 (outcome.Failed 2 4)
    ∷ results 4 outcome.Done
    ∷ []
unfolding switch_turn
refuses_changes = refl

-- a row that no frame meets leaves at the tick at which its idle timeout is over, and the event of it is sent by each tick
pub tells_what_left : says_to (mastered 1 1 (fresh 0 3 2)) (
    commands 1 0 (change 0 1 1 4294967295 1)
    ∷ switch_input.Local local.Tick
    ∷ switch_input.Local local.Tick
    ∷ []) ≡
    results 0 outcome.Done ∷ row_left ∷ row_left ∷ []
unfolding switch_turn
tells_what_left = refl

-- and last of all, where the table is full
pub refuses_at_a_full_table : fault_result table.TableFull ≡ outcome.Failed 5 1
refuses_at_a_full_table = refl

-- each refusal of a PACKET_OUT comes before those behind it. A frame of thirteen bytes is none
abbrev short_frame : List ℕ
short_frame = 0 ∷ 0 ∷ 0 ∷ 0 ∷ 0 ∷ 0 ∷ 0 ∷ 0 ∷ 0 ∷ 0 ∷ 0 ∷ 0 ∷ 0 ∷ []

pub refuses_packets : says_to (mastered 1 1 (fresh 0 3 2)) (
    commands 1 0 (put 7 3 short_frame)
    ∷ commands 1 1 (put 4294967295 3 short_frame)
    ∷ commands 1 2 (put 4294967295 4294967293 short_frame)
    ∷ commands 1 3 (put 4294967295 4294967291 short_frame)
    ∷ []) ≡
    results 0 (outcome.Failed 1 8) ∷ results 1 (outcome.Failed 2 4) ∷ results 2 (outcome.Failed 2 4) ∷ results 3 (outcome.Failed 1 12) ∷ []
unfolding switch_turn
refuses_packets = refl

-- a row before the table-miss row, at a switch whose port 2 has a link: its output may be another port, the port that the frame came in
-- by, that port as IN_PORT, or the controller
abbrev at_link : SwitchState
at_link = record (mastered 1 1 (fresh 0 3 2)) { links = record { switch = 0; port = 2; peer = 1; peer_port = 2 } ∷ [] }

abbrev with_row : ℕ → SwitchState
with_row output =
    record at_link {
      table = record at_link.table {
        rows = lasting (record {
          priority = 10;
          cookie = 2;
          matching = record any_frame { in_port = Some 2; eth_dst = Some (record { value = 2199023255553; mask = 281474976710655 }) };
          actions = output ∷ [];
        })
            ∷ at_link.table.rows;
      };
    }

abbrev forwarded : SwitchState → List (Letter SwitchSays) × ℕ
forwarded s = ((switch_turn s (switch_input.Local (local.Frame 2 there))).letters, (switch_turn s (switch_input.Local (local.Frame 2 there))).state.sent)

pub forwards : map (λ output. forwarded (with_row output)) (1 ∷ 2 ∷ 4294967288 ∷ 4294967293 ∷ []) ≡
    ([], 1)
    ∷ ([], 0)
    ∷ (record { to = actor.Switch 1; body = switch_says.Frame 2 there } ∷ [], 1)
    ∷ (to 1 (spoken.Ravana (extension.Event 0 0 (happening.PacketIn (record { reason = 1; cookie = 2; in_port = 2; payload = there })))) ∷ [], 0)
    ∷ []
unfolding switch_turn
forwards = refl

-- a frame that no row matches goes nowhere
pub drops : forwarded (record at_link { table = record at_link.table { rows = [] } }) ≡ ([], 0)
unfolding switch_turn
drops = refl

-- a frame of another switch comes in as any
pub comes_over_a_link : (switch_turn at_link (switch_input.Frame 1 2 there)).letters ≡ to 1 (spoken.Ravana (extension.Event 0 0 (packet 2 there))) ∷ []
unfolding switch_turn
comes_over_a_link = refl

-- a port that is as told and one that there isn't change nothing; a port that is down takes no frame, nor does one that there isn't; a
-- change back is told too
abbrev port_told : ℕ → ℕ → Bool → List (Letter SwitchSays)
port_told number port up = to 1 (spoken.Ravana (extension.Event 0 number (happening.PortStatus (record { reason = 2; port = port; up = up })))) ∷ []

pub tells_ports : says_to (mastered 1 1 (fresh 0 3 2)) (map switch_input.Local (
    local.Port 2 true
    ∷ local.Port 3 false
    ∷ local.Port 0 false
    ∷ local.Port 1 false
    ∷ local.Frame 1 there
    ∷ local.Frame 3 there
    ∷ local.Frame 2 short_frame
    ∷ local.Port 1 true
    ∷ [])) ≡ [] ∷ [] ∷ [] ∷ port_told 0 1 false ∷ [] ∷ [] ∷ [] ∷ port_told 1 1 true ∷ []
unfolding switch_turn
tells_ports = refl
