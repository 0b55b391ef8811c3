-- The interfaces of a capture: one for OpenFlow, one for what controllers send each other, and one for each port that takes a frame in.
use Rattle.std.specs.Prelude.{ℕ, ◌+◌, nat_eq, Bool, ◌&&◌, List, [], ◌∷◌, ◌++◌, length, codes, if◌then◌else◌}
use Rattle.std.specs.Fmt.{decimal}
use Rattle.journal.specs.declared.journal.Actor.TheVariants.{Controller, Switch}
use Rattle.capture_laws.specs.declared.shapes.Captured.{Captured}
use Rattle.capture_laws.specs.declared.shapes.Port.{Port}
use Rattle.capture_laws.specs.declared.shapes.Way.{Way}
use Rattle.capture_laws.specs.declared.shapes.Way.TheVariants.{Segment, Frame}
use Rattle.capture_laws.specs.Blocks.{interface_block, packet_block, section_block}
use Rattle.capture_laws.specs.Frames.{frame_of}

abbrev pub same_port : Port → Port → Bool
same_port p q = nat_eq p.switch q.switch && nat_eq p.port q.port

-- the place of a port among others: their number, where it is none of them
unfoldable pub interface_place_of : Port → List Port → ℕ
interface_place_of p [] = 0
interface_place_of p (q ∷ ports) = if same_port p q then 0 else 1 + interface_place_of p ports

-- ports, and the one of a packet if it is new
abbrev pub with_packet_port : Way → List Port → List Port
with_packet_port (Frame p) ports = if nat_eq (interface_place_of p ports) (length ports) then ports ++ p ∷ [] else ports
with_packet_port (Segment from to sequence acknowledged ends) ports = ports

unfoldable pub ports_from : List Captured → List Port → List Port
ports_from [] ports = ports
ports_from (p ∷ packets) ports = ports_from packets (with_packet_port p.way ports)

-- the ports of packets, in the order of their first ones
abbrev pub ports_of_packets : List Captured → List Port
ports_of_packets packets = ports_from packets []

-- the number of the interface where a packet is seen
abbrev pub interface_of : List Port → Way → ℕ
interface_of ports (Segment (Controller c) (Controller d) sequence acknowledged ends) = 1
interface_of ports (Segment (Controller c) (Switch t) sequence acknowledged ends) = 0
interface_of ports (Segment (Switch s) (Controller d) sequence acknowledged ends) = 0
interface_of ports (Segment (Switch s) (Switch t) sequence acknowledged ends) = 0
interface_of ports (Frame p) = 2 + interface_place_of p ports

unfoldable pub port_name : Port → List ℕ
port_name p = codes "s" ++ (decimal p.switch ++ (codes "-p" ++ decimal p.port))

unfoldable pub interfaces : List Port → List ℕ
interfaces [] = []
interfaces (p ∷ ports) = interface_block (port_name p) ++ interfaces ports

unfoldable pub packet : List Port → Captured → List ℕ
packet ports p = packet_block (interface_of ports p.way) p.time p.comment (frame_of p.way p.payload)

unfoldable pub packets_of : List Port → List Captured → List ℕ
packets_of ports [] = []
packets_of ports (p ∷ packets) = packet ports p ++ packets_of ports packets

-- a section's head, and the interfaces of the streams
unfoldable pub head : List ℕ
head = section_block ++ (interface_block (codes "control") ++ interface_block (codes "controllers"))

-- the bytes of a capture
unfoldable pub capture_of : List Port → List Captured → List ℕ
capture_of ports packets = head ++ (interfaces ports ++ packets_of ports packets)

abbrev pub pcapng_of : List Captured → List ℕ
pcapng_of packets = capture_of (ports_of_packets packets) packets
