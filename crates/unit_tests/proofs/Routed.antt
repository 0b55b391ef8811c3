-- Routes over three switches in a ring, and what routing asks of them for a list of events, computed. It was worked out by hand from
-- the rules.
use Rattle.std.specs.Prelude.{◌≡◌, ℕ, true, List, [], ◌∷◌, map, Some, None, refl}
use Rattle.of_types.specs.declared.message.Command.{Command}
use Rattle.of_types.specs.declared.message.FlowCommand.TheVariants.{Add, Delete}
use Rattle.of_types.specs.declared.message.Happening.TheVariants as happening
use Rattle.of_types.specs.declared.numbers.TheConstants.{ANY_PORT, TO_CONTROLLER}
use Rattle.of_types.specs.declared.setup.Link.{Link}
use Rattle.of_types.specs.declared.setup.Setup.{Setup}
use Rattle.of_types.specs.Matching.{any_match}
use Rattle.app_core.specs.declared.switch_port.SwitchPort.{SwitchPort}
use Rattle.app_core.specs.Chain.{chain_after, firewall, part_next, reactions, routing, rule_of, slot, starting_chain}
use Rattle.app_core.specs.Commands.{flow_mod, packet_out}
use Rattle.app_core.specs.Routes.{levels, over_known_link, route, walks}
use Rattle.app_core.specs.Routing.{frame_out}
use Rattle.unit_tests.proofs.Computed.{Turn, asking, at, comes, frame, goes_down, to_host}

-- ---- three switches of four ports, of which the last two are in links

abbrev link : ℕ → ℕ → ℕ → ℕ → Link
link switch port peer peer_port = record { switch = switch; port = port; peer = peer; peer_port = peer_port }

abbrev ring : Setup
ring = record { controllers = 1; ports = 4 ∷ 4 ∷ 4 ∷ []; links = link 0 3 1 3 ∷ link 1 4 2 3 ∷ link 0 4 2 4 ∷ []; deny = [] }

abbrev port : ℕ → ℕ → SwitchPort
port switch number = record { switch = switch; port = number }

-- ---- routes and levels

whole : (route ring [] 2 0 ≡ Some (port 2 4 ∷ [])) × (levels ring [] 0 ≡ 0 ∷ 1 ∷ 1 ∷ [])
unfolding route levels walks over_known_link
whole = (refl, refl)

-- the short way is down
around : (route ring (port 0 4 ∷ []) 2 0 ≡ Some (port 2 3 ∷ port 1 3 ∷ [])) × (levels ring (port 0 4 ∷ []) 0 ≡ 0 ∷ 1 ∷ 2 ∷ [])
unfolding route levels walks over_known_link
around = (refl, refl)

-- so is the long way
apart : (route ring (port 0 4 ∷ port 1 3 ∷ []) 2 0 ≡ None) × (levels ring (port 0 4 ∷ port 1 3 ∷ []) 0 ≡ 0 ∷ 255 ∷ 255 ∷ [])
unfolding route levels walks over_known_link
apart = (refl, refl)

-- ---- what routing asks

-- frames to a host that come in by a port of a switch go out by another
abbrev row : ℕ → ℕ → ℕ → ℕ → Command
row switch input host output = flow_mod switch 3 Add 10 ANY_PORT (to_host input host) (output ∷ [])

-- the rows that send to a port of a switch go
abbrev gone : ℕ → ℕ → Command
gone switch number = flow_mod switch 0 Delete 0 number any_match []

abbrev is_up_again : ℕ → Turn
is_up_again switch = at switch (happening.PortStatus (record { reason = 0; port = ANY_PORT; up = true })) []

-- host 1 is at port 1 of switch 0, and host 2 at port 1 of switch 2
abbrev routes : List Turn
routes =
    -- a frame to a host that was not seen goes out by all edge ports but its own
    at 0 (comes 1 (frame 2 1)) (frame_out 0 TO_CONTROLLER (frame 2 1) (2 ∷ []) ∷ frame_out 1 TO_CONTROLLER (frame 2 1) (1 ∷ 2 ∷ []) ∷ frame_out 2 TO_CONTROLLER (frame 2 1) (1 ∷ 2 ∷ []) ∷ [])
    -- by the short way: the row of the last switch first
    ∷ at 2 (comes 1 (frame 1 2)) (row 0 4 1 1 ∷ row 2 1 1 4 ∷ packet_out 2 1 (frame 1 2) 4 ∷ [])
    -- to the port that it came in by nothing goes
    ∷ at 0 (comes 1 (frame 1 3)) []
    -- a row that left changes nothing
    ∷ at 2 (happening.FlowRemoved (record { cookie = 3; priority = 10; reason = 0; duration = 4; idle = 4; hard = 0; packets = 0; octets = 0; matching = to_host 1 1 })) []
    -- the short way goes down, at both of its ends
    ∷ at 0 (goes_down 4) (gone 0 4 ∷ gone 2 4 ∷ [])
    ∷ at 2 (comes 1 (frame 1 2)) (row 0 3 1 1 ∷ row 1 4 1 3 ∷ row 2 1 1 3 ∷ packet_out 2 1 (frame 1 2) 3 ∷ [])
    -- and so does the long way: nothing goes to host 1
    ∷ at 1 (goes_down 3) (gone 1 3 ∷ gone 0 3 ∷ [])
    ∷ at 2 (comes 1 (frame 1 2)) []
    -- a switch that is up again has all its ports
    ∷ is_up_again 1
    ∷ at 2 (comes 1 (frame 1 2)) (row 0 3 1 1 ∷ row 1 4 1 3 ∷ row 2 1 1 3 ∷ packet_out 2 1 (frame 1 2) 3 ∷ [])
    -- a frame that comes over a link tells no place: host 2 stays at switch 2, from which the long way leads to switch 1
    ∷ at 1 (comes 4 (frame 9 2)) (frame_out 0 TO_CONTROLLER (frame 9 2) (1 ∷ 2 ∷ []) ∷ frame_out 1 TO_CONTROLLER (frame 9 2) (1 ∷ 2 ∷ []) ∷ frame_out 2 TO_CONTROLLER (frame 9 2) (1 ∷ 2 ∷ []) ∷ [])
    ∷ at 1 (comes 1 (frame 2 4)) (row 2 3 2 1 ∷ row 1 1 2 4 ∷ packet_out 1 1 (frame 2 4) 4 ∷ [])
    -- a switch that the network does not have
    ∷ at 3 (comes 1 (frame 2 1)) []
    ∷ []

routes_alone : reactions (routing ∷ []) ring (map (λ turn. turn.event) routes) ≡ map (λ turn. turn.asks) routes
unfolding reactions part_next rule_of route walks over_known_link
routes_alone = refl

-- version 4 is asked for
abbrev asks_to_route : Turn
asks_to_route = at 0 (comes 48 (asking (4 ∷ []))) []

routes_in_a_slot : reactions (firewall ∷ slot ∷ []) ring (map (λ turn. turn.event) (asks_to_route ∷ routes)) ≡ map (λ turn. turn.asks) (asks_to_route ∷ routes)
unfolding reactions part_next rule_of route walks over_known_link
routes_in_a_slot = refl

-- it ends at version 4, which knows four hosts, and that port 4 of switch 0 is down
ends_routing : chain_after (slot ∷ []) ring (starting_chain (slot ∷ [])) (map (λ turn. turn.event) (asks_to_route ∷ routes))
    ≡ (4 ∷ 4 ∷ 0 ∷ 0x020000000001 ∷ 1 ∷ 2 ∷ 0x020000000002 ∷ 1 ∷ 0 ∷ 0x020000000003 ∷ 1 ∷ 1 ∷ 0x020000000004 ∷ 1 ∷ 0 ∷ 4 ∷ []) ∷ []
unfolding part_next rule_of route walks over_known_link
ends_routing = refl
