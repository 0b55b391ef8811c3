-- Where a switch sends frames (OpenFlow 1.3, 5.3 and 7.2.5).
use Rattle.std.specs.Prelude.{ℕ, ◌+◌, ◌-◌, ◌^◌, min, Bool, not, nat_eq, nat_le, ◌&&◌, ◌||◌, List, [], ◌∷◌, length, flat_map, filter, Option, Some, None, if◌then◌else◌}
use Rattle.std.specs.List.{list_any}
use Rattle.of_types.specs.declared.message.Fields.{Fields}
use Rattle.of_types.specs.declared.message.Happening.{Happening}
use Rattle.of_types.specs.declared.message.Happening.TheVariants as happening
use Rattle.of_types.specs.declared.message.Row.{Row}
use Rattle.of_types.specs.declared.numbers.TheConstants.{IN_PORT, FLOOD, ALL_PORTS, TO_CONTROLLER, REASON_NO_MATCH, REASON_ACTION, SHORTEST_FRAME, LONGEST_FRAME}
use Rattle.of_types.specs.declared.setup.Link.{Link}
use Rattle.of_types.specs.Header.{fields_of}
use Rattle.of_types.specs.Matching.{is_any}
use Rattle.journal.specs.declared.journal.Actor.TheVariants.{Switch}
use Rattle.journal.specs.declared.journal.Letter.{Letter}
use Rattle.flow_table.specs.Table.{chosen_row}
use Rattle.flow_clock.specs.Clocked.{clock_hit}
use Rattle.of_switch.specs.declared.says.SwitchSays.{SwitchSays}
use Rattle.of_switch.specs.declared.says.SwitchSays.TheVariants as switch_says
use Rattle.of_switch.specs.State.{SwitchState, SwitchTurn, quiet_switch, posts, then_turn, ports_up, rows_of, own_number_of}
use Rattle.of_switch.specs.Events.{packet_raised}

-- a frame that may be taken and sent
abbrev pub is_frame : List ℕ → Bool
is_frame frame = nat_le SHORTEST_FRAME (length frame) && nat_le (length frame) LONGEST_FRAME

-- a port of the switch that is up
abbrev pub is_port_up : SwitchState → ℕ → Bool
is_port_up s port = list_any (λ p. nat_eq p port) (ports_up s)

-- the ports to which an output sends a frame that came in by a port: those of them that are up. A frame leaves by
-- the port that it came in by only where IN_PORT says so (OpenFlow 1.3, 4.5 and 7.2.1)
abbrev pub targets : SwitchState → ℕ → ℕ → List ℕ
targets s in_port output =
    if nat_eq output FLOOD || nat_eq output ALL_PORTS then filter (λ p. not (nat_eq p in_port)) (ports_up s)
    else if nat_eq output IN_PORT then filter (λ p. nat_eq p in_port) (ports_up s)
    else if nat_eq output in_port then []
    else filter (λ p. nat_eq p output) (ports_up s)

-- a frame goes to a port of another switch
abbrev pub frame_letter : List ℕ → ℕ → ℕ → Letter SwitchSays
frame_letter frame switch port = record { to = Switch switch; body = switch_says.Frame port frame }

-- over a wire that begins, or ends, at a port of this switch
abbrev pub over_link : List ℕ → ℕ → ℕ → Link → List (Letter SwitchSays)
over_link frame switch port l =
    if nat_eq l.switch switch && nat_eq l.port port then frame_letter frame l.peer l.peer_port ∷ []
    else if nat_eq l.peer switch && nat_eq l.peer_port port then frame_letter frame l.switch l.port ∷ []
    else []

abbrev pub over_links : SwitchState → List ℕ → ℕ → List (Letter SwitchSays)
over_links s frame port = flat_map (over_link frame (own_number_of s) port) s.links

-- a frame is sent to ports that are up. The count of frames sent stops at the greatest number of 64 bits
abbrev pub sends_to : List ℕ → List ℕ → SwitchState → SwitchTurn
sends_to frame ports s = posts (record s { sent = min (2 ^ 64 - 1) (s.sent + length ports) }) (flat_map (over_links s frame) ports)

-- one output for a frame, by what becomes of one to the controller
abbrev pub puts_out : (SwitchState → SwitchTurn) → ℕ → List ℕ → ℕ → SwitchState → SwitchTurn
puts_out tells port frame output s =
    if nat_eq output TO_CONTROLLER then tells s else sends_to frame (targets s port output) s

-- each output in order (OpenFlow 1.3, 5.9)
abbrev pub puts_all : (SwitchState → SwitchTurn) → ℕ → List ℕ → List ℕ → SwitchTurn → SwitchTurn
puts_all tells port frame [] turn = turn
puts_all tells port frame (output ∷ outputs) turn =
    puts_all tells port frame outputs (then_turn turn (puts_out tells port frame output))

-- a table-miss row: priority 0, and a match of every frame (OpenFlow 1.3, 5.4)
abbrev pub is_table_miss : Row → Bool
is_table_miss row = nat_eq row.priority 0 && is_any row.matching

-- a frame as a packet-in: reason NO_MATCH at a table-miss row, ACTION at any other (OpenFlow 1.3, 7.4.1)
abbrev pub packet_in_of : Row → ℕ → List ℕ → Happening
packet_in_of row port frame =
    happening.PacketIn (record { reason = if is_table_miss row then REASON_NO_MATCH else REASON_ACTION; cookie = row.cookie; in_port = port; payload = frame })

-- a frame that no row matches is dropped (OpenFlow 1.3, 5.4)
abbrev pub through_row : SwitchState → ℕ → List ℕ → Option Row → SwitchTurn
through_row s port frame None = quiet_switch s
through_row s port frame (Some row) = puts_all (packet_raised (packet_in_of row port frame)) port frame row.actions (quiet_switch s)

-- the fields of a frame that came in by a port
abbrev pub frame_fields_at : ℕ → List ℕ → Fields
frame_fields_at port frame = record (fields_of frame) { in_port = Some port }

-- the frame is counted, with its length, at the row that was chosen for it (OpenFlow 1.3, 5.2)
abbrev pub counting_ports : ℕ → List ℕ → SwitchTurn → SwitchTurn
counting_ports port frame turn =
    record turn { state = record turn.state { table = clock_hit turn.state.table (frame_fields_at port frame) (length frame) } }

-- a frame at a port that is up meets the table (OpenFlow 1.3, 5.3). Any other is dropped
abbrev pub on_frame : SwitchState → ℕ → List ℕ → SwitchTurn
on_frame s port frame =
    if is_port_up s port && is_frame frame
    then counting_ports port frame (through_row s port frame (chosen_row (rows_of s) (frame_fields_at port frame))) else quiet_switch s
