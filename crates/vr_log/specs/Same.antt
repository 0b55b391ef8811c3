-- Whether two lists of entries are equal.
use Rattle.std.specs.Prelude.{ℕ, Bool, true, false, not, nat_eq, ◌&&◌, ◌||◌, List, [], ◌∷◌}
use Rattle.of_types.specs.declared.message.Event.{Event}
use Rattle.of_types.specs.Matching.{same_match}
use Rattle.of_types.specs.declared.message.FlowRemoved.{FlowRemoved}
use Rattle.of_types.specs.declared.message.Happening.{Happening}
use Rattle.of_types.specs.declared.message.Happening.TheVariants as happening
use Rattle.of_types.specs.declared.message.PacketIn.{PacketIn}
use Rattle.of_types.specs.declared.message.PortStatus.{PortStatus}
use Rattle.vr_log.specs.declared.entry.Entry.{Entry}
use Rattle.vr_log.specs.declared.entry.Entry.TheVariants.{Received, Processed}

abbrev pub same_numbers : List ℕ → List ℕ → Bool
same_numbers [] [] = true
same_numbers (a ∷ xs) (b ∷ ys) = nat_eq a b && same_numbers xs ys
same_numbers [] (b ∷ ys) = false
same_numbers (a ∷ xs) [] = false

abbrev pub same_flag : Bool → Bool → Bool
same_flag a b = (a && b) || (not a && not b)

abbrev pub same_packet : PacketIn → PacketIn → Bool
same_packet p q =
    nat_eq p.reason q.reason && nat_eq p.cookie q.cookie && nat_eq p.in_port q.in_port && same_numbers p.payload q.payload

abbrev pub same_status : PortStatus → PortStatus → Bool
same_status p q = nat_eq p.reason q.reason && nat_eq p.port q.port && same_flag p.up q.up

abbrev pub same_removed : FlowRemoved → FlowRemoved → Bool
same_removed p q =
    nat_eq p.cookie q.cookie && nat_eq p.priority q.priority && nat_eq p.reason q.reason && nat_eq p.duration q.duration
    && nat_eq p.idle q.idle && nat_eq p.hard q.hard && nat_eq p.packets q.packets && nat_eq p.octets q.octets && same_match p.matching q.matching

abbrev pub same_happening : Happening → Happening → Bool
same_happening (happening.PacketIn p) (happening.PacketIn q) = same_packet p q
same_happening (happening.PortStatus p) (happening.PortStatus q) = same_status p q
same_happening (happening.PacketIn p) (happening.PortStatus q) = false
same_happening (happening.PortStatus p) (happening.PacketIn q) = false
same_happening (happening.FlowRemoved p) (happening.FlowRemoved q) = same_removed p q
same_happening (happening.FlowRemoved p) (happening.PacketIn q) = false
same_happening (happening.FlowRemoved p) (happening.PortStatus q) = false
same_happening (happening.PacketIn p) (happening.FlowRemoved q) = false
same_happening (happening.PortStatus p) (happening.FlowRemoved q) = false

abbrev pub same_event : Event → Event → Bool
same_event a b = nat_eq a.switch b.switch && nat_eq a.life b.life && nat_eq a.number b.number && same_happening a.what b.what

abbrev pub same_entry : Entry → Entry → Bool
same_entry (Received a) (Received b) = same_event a b
same_entry (Processed i) (Processed j) = nat_eq i j
same_entry (Received a) (Processed j) = false
same_entry (Processed i) (Received b) = false

abbrev pub same_entries : List Entry → List Entry → Bool
same_entries [] [] = true
same_entries (a ∷ xs) (b ∷ ys) = same_entry a b && same_entries xs ys
same_entries [] (b ∷ ys) = false
same_entries (a ∷ xs) [] = false
