-- Routing, kind 7: the first frame between two hosts installs the whole path. It remembers at which edge port an address was
-- seen, and which ports are down.
use Rattle.std.specs.Prelude.{ℕ, Bool, not, nat_eq, nat_lt, ◌&&◌, ◌||◌, length, List, [], ◌∷◌, ◌++◌, filter, flat_map, map, reverse, take, Option, Some, None, unwrap_or, if◌then◌else◌}
use Rattle.std.specs.List.{range_with_len}
use Rattle.of_types.specs.declared.message.Command.{Command}
use Rattle.of_types.specs.declared.message.FlowCommand.TheVariants.{Add}
use Rattle.of_types.specs.declared.message.Happening.{Happening}
use Rattle.of_types.specs.declared.message.Happening.TheVariants as happening
use Rattle.of_types.specs.declared.message.Order.TheVariants as order
use Rattle.of_types.specs.declared.message.PortStatus.{PortStatus}
use Rattle.of_types.specs.declared.numbers.TheConstants.{ANY_PORT, NO_BUFFER, TO_CONTROLLER}
use Rattle.of_types.specs.declared.setup.Setup.{Setup}
use Rattle.of_types.specs.Header.{number_at}
use Rattle.of_types.specs.Lives.{is_switch_up}
use Rattle.app_core.specs.declared.host.Host.{Host}
use Rattle.app_core.specs.declared.switch_port.Leg.{Leg}
use Rattle.app_core.specs.declared.switch_port.SwitchPort.{SwitchPort}
use Rattle.app_core.specs.Commands.{flow_mod}
use Rattle.app_core.specs.Learning.{is_single, forgotten, forgotten_at, forgetting_rows, frames_to}
use Rattle.app_core.specs.Routes.{is_same_port, other_end, ports_at, is_edge, is_link_down, route}

-- what routing knows: where each address was seen, in the order in which they were first seen, and the ports that are down,
-- ascending by switch and port
pub record Routing : Type 0 where
  pub hosts : List Host
  pub down : List SwitchPort

-- where an address was seen, at whatever switch
abbrev pub host_place_of : List Host → ℕ → Option SwitchPort
host_place_of [] address = None
host_place_of (h ∷ hosts) address =
    if nat_eq h.address address then Some (record { switch = h.switch; port = h.port }) else host_place_of hosts address

-- an address is set to a port. A known one keeps its place
abbrev pub placed_host : List Host → ℕ → SwitchPort → List Host
placed_host [] address at = record { switch = at.switch; address = address; port = at.port } ∷ []
placed_host (h ∷ hosts) address at =
    if nat_eq h.address address then record { switch = at.switch; address = address; port = at.port } ∷ hosts
    else h ∷ placed_host hosts address at

-- the source of a frame that came in by an edge port is seen there, where it is the address of one host
abbrev pub with_place : Setup → List Host → SwitchPort → Option ℕ → List Host
with_place setup hosts at None = hosts
with_place setup hosts at (Some address) = if is_edge setup at && is_single address then placed_host hosts address at else hosts

-- where the destination was seen
abbrev pub place_of_destination : List Host → Option ℕ → Option SwitchPort
place_of_destination hosts None = None
place_of_destination hosts (Some address) = host_place_of hosts address

-- one port comes before another: by switch and then by port
abbrev pub is_port_before : SwitchPort → SwitchPort → Bool
is_port_before a b = nat_lt a.switch b.switch || (nat_eq a.switch b.switch && nat_lt a.port b.port)

-- a port joins those that are down, at its place
abbrev pub with_known_port : List SwitchPort → SwitchPort → List SwitchPort
with_known_port [] at = at ∷ []
with_known_port (p ∷ down) at = if is_port_before p at then p ∷ with_known_port down at else if is_same_port p at then p ∷ down else at ∷ p ∷ down

-- a port leaves them, and all ports of a switch do
abbrev pub without_port : List SwitchPort → SwitchPort → List SwitchPort
without_port down at = filter (λ p. not (is_same_port p at)) down

abbrev pub without_switch : List SwitchPort → ℕ → List SwitchPort
without_switch down switch = filter (λ p. not (nat_eq p.switch switch)) down

-- what a change of a port leaves. At a switch that is up again all ports count as up, and its addresses are forgotten
abbrev pub routing_after_port : Routing → ℕ → PortStatus → Routing
routing_after_port r switch p =
    if is_switch_up (happening.PortStatus p) then record { hosts = forgotten_at r.hosts switch; down = without_switch r.down switch }
    else if p.up then record { hosts = r.hosts; down = without_port r.down (record { switch = switch; port = p.port }) }
    else record { hosts = forgotten r.hosts switch p.port; down = with_known_port r.down (record { switch = switch; port = p.port }) }

-- what routing knows after an event
abbrev pub routing_after : Setup → Routing → ℕ → Happening → Routing
routing_after setup r switch (happening.PacketIn p) =
    record { hosts = with_place setup r.hosts (record { switch = switch; port = p.in_port }) (number_at 6 6 p.payload); down = r.down }
routing_after setup r switch (happening.PortStatus p) = routing_after_port r switch p
routing_after setup r switch (happening.FlowRemoved f) = r

-- a switch sends a frame out by these ports
abbrev pub frame_out : ℕ → ℕ → List ℕ → List ℕ → Command
frame_out switch in_port frame outputs =
    record { switch = switch; order = order.PacketOut (record { buffer = NO_BUFFER; in_port = in_port; actions = outputs; payload = frame }) }

-- the edge ports of a switch that are up, but for the one that a frame came in by
abbrev pub open_ports : Setup → List SwitchPort → SwitchPort → ℕ → List ℕ
open_ports setup down at switch =
    filter (λ port. let p : SwitchPort = record { switch = switch; port = port } in is_edge setup p && not (is_link_down down p) && not (is_same_port p at)) (ports_at setup switch)

-- a switch sends a frame out by these ports, if there is one
abbrev pub frame_out_if : ℕ → List ℕ → List ℕ → List Command
frame_out_if switch frame ports = if nat_eq (length ports) 0 then [] else frame_out switch TO_CONTROLLER frame ports ∷ []

-- each switch does, in the order of their numbers
abbrev pub flooded : Setup → List SwitchPort → SwitchPort → List ℕ → List Command
flooded setup down at frame =
    flat_map (λ switch. frame_out_if switch frame (open_ports setup down at switch)) (range_with_len 0 (length setup.ports))

-- the port of an end
abbrev pub port_of_end : Option SwitchPort → ℕ
port_of_end None = 0
port_of_end (Some end) = end.port

-- the port by which a hop arrives
abbrev pub arrival : Setup → SwitchPort → ℕ
arrival setup hop = port_of_end (other_end setup.links hop)

-- the legs of a walk, from a port at its first switch to one at its last
abbrev pub legs : Setup → ℕ → List SwitchPort → SwitchPort → List Leg
legs setup input [] target = record { switch = target.switch; input = input; output = target.port } ∷ []
legs setup input (hop ∷ hops) target =
    record { switch = hop.switch; input = input; output = hop.port } ∷ legs setup (arrival setup hop) hops target

-- the first output of a walk to a port
abbrev pub first_output : List SwitchPort → SwitchPort → ℕ
first_output [] target = target.port
first_output (hop ∷ hops) target = hop.port

-- frames to an address that come in by the one port of a leg go out by the other: priority 10, cookie 3
abbrev pub path_row : ℕ → Leg → Command
path_row address leg =
    flow_mod leg.switch 3 Add 10 ANY_PORT (frames_to leg.input address) (leg.output ∷ [])

-- of so many switches of a path, numbered from the first, rows are installed at once
abbrev pub most_routing_rows : ℕ
most_routing_rows = 63

-- the rows of a walk, from the last back to the first, and then the frame goes its way. Nothing where there is no walk
abbrev pub installed : Setup → SwitchPort → List ℕ → SwitchPort → Option (List SwitchPort) → List Command
installed setup at frame target None = []
installed setup at frame target (Some walk) =
    map (path_row (unwrap_or (number_at 6 0 frame) 0)) (reverse (take most_routing_rows (legs setup at.port walk target)))
    ++ frame_out at.switch at.port frame (first_output walk target ∷ []) ∷ []

-- what is sent for a frame whose destination was seen there: nothing where it came from there
abbrev pub routed : Setup → List SwitchPort → SwitchPort → List ℕ → Option SwitchPort → List Command
routed setup down at frame None = flooded setup down at frame
routed setup down at frame (Some target) =
    if is_same_port target at then [] else installed setup at frame target (route setup down at.switch target.switch)

-- the rows that send to a port that went down go, at both ends of its link if it is in one
abbrev pub forgetting_ends : ℕ → ℕ → Option SwitchPort → List Command
forgetting_ends switch port None = forgetting_rows switch port ∷ []
forgetting_ends switch port (Some end) = forgetting_rows switch port ∷ forgetting_rows end.switch end.port ∷ []

-- what it asks of switches for an event, by what it knows after it
abbrev pub routing_commands : Setup → Routing → ℕ → Happening → List Command
routing_commands setup r switch (happening.PacketIn p) =
    routed setup r.down (record { switch = switch; port = p.in_port }) p.payload (place_of_destination r.hosts (number_at 6 0 p.payload))
routing_commands setup r switch (happening.PortStatus p) =
    if p.up then [] else forgetting_ends switch p.port (other_end setup.links (record { switch = switch; port = p.port }))
routing_commands setup r switch (happening.FlowRemoved f) = []
