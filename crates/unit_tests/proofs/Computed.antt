-- What slots, and what learns, ask of switches for a list of events, computed. It was worked out by hand from the rules.
use Rattle.std.specs.Prelude.{◌≡◌, ℕ, ◌+◌, ◌-◌, ◌^◌, false, List, [], ◌∷◌, ◌++◌, map, Some, refl}
use Rattle.of_types.specs.declared.message.Command.{Command}
use Rattle.of_types.specs.declared.message.Event.{Event}
use Rattle.of_types.specs.declared.message.FlowCommand.TheVariants.{Add, Delete}
use Rattle.of_types.specs.declared.message.Happening.{Happening}
use Rattle.of_types.specs.declared.message.Happening.TheVariants as happening
use Rattle.of_types.specs.declared.message.Match.{Match}
use Rattle.of_types.specs.declared.message.Order.TheVariants as order
use Rattle.of_types.specs.declared.numbers.TheConstants.{ANY_PORT, FLOOD}
use Rattle.of_types.specs.declared.setup.Setup.{Setup}
use Rattle.of_types.specs.Matching.{any_match}
use Rattle.app_core.specs.Chain.{aging, chain_after, firewall, part_next, reactions, rule_of, slot, starting_chain}
use Rattle.app_core.specs.Commands.{flow_change, flow_mod, packet_out}

-- ---- the parts of what follows

-- three switches of 48 ports
abbrev network : Setup
network = record { controllers = 1; ports = 48 ∷ 48 ∷ 48 ∷ []; links = []; deny = [] }

-- what happens at a switch, and what is asked of switches for it
pub record Turn : Type 0 where
  pub event : Event
  pub asks : List Command

abbrev pub at : ℕ → Happening → List Command → Turn
at switch what commands = record { event = record { switch = switch; life = 0; number = 0; what = what }; asks = commands }

-- a frame at a port
abbrev pub comes : ℕ → List ℕ → Happening
comes port frame = happening.PacketIn (record { reason = 0; cookie = 0; in_port = port; payload = frame })

abbrev pub goes_down : ℕ → Happening
goes_down port = happening.PortStatus (record { reason = 2; port = port; up = false })

-- a frame between hosts, by the last bytes of their addresses
abbrev pub frame : ℕ → ℕ → List ℕ
frame to from = 2 ∷ 0 ∷ 0 ∷ 0 ∷ 0 ∷ to ∷ 2 ∷ 0 ∷ 0 ∷ 0 ∷ 0 ∷ from ∷ 136 ∷ 181 ∷ []

-- a frame by which an operator asks, with what stands behind its header
abbrev pub asking : List ℕ → List ℕ
asking rest = 3 ∷ 0 ∷ 0 ∷ 0 ∷ 0 ∷ 1 ∷ 2 ∷ 0 ∷ 0 ∷ 0 ∷ 0 ∷ 15 ∷ 136 ∷ 182 ∷ rest

-- a frame at a port that is flooded
abbrev floods : ℕ → ℕ → List ℕ → Turn
floods switch port bytes = at switch (comes port bytes) (packet_out switch port bytes FLOOD ∷ [])

-- the frames to a host that come in by a port
abbrev pub to_host : ℕ → ℕ → Match
to_host port host = record any_match { in_port = Some port; eth_dst = Some (record { value = 0x020000000000 + host; mask = 2 ^ 48 - 1 }) }

-- a frame at a port of switch 0 that goes out by another one, with a row for such frames
abbrev forwards : ℕ → ℕ → ℕ → ℕ → Turn
forwards port to from output =
    at 0 (comes port (frame to from)) (flow_mod 0 2 Add 10 ANY_PORT (to_host port to) (output ∷ []) ∷ packet_out 0 port (frame to from) output ∷ [])

-- the same with a row that ages
abbrev forwards_aging : ℕ → ℕ → ℕ → ℕ → Turn
forwards_aging port to from output =
    at 0 (comes port (frame to from))
    (record { switch = 0; order = order.FlowMod (record (flow_change 2 Add 10 ANY_PORT (to_host port to) (output ∷ [])) { idle = 4; flags = 1 }) } ∷ packet_out 0 port (frame to from) output ∷ [])

-- such a row leaves switch 0, for it was not met. Nothing is asked for it
abbrev leaves : ℕ → ℕ → Turn
leaves port host =
    at 0 (happening.FlowRemoved (record { cookie = 2; priority = 10; reason = 0; duration = 4; idle = 4; hard = 0; packets = 0; octets = 0; matching = to_host port host })) []

-- ---- a slot that learns, then is a hub, then pins

abbrev upgrades : List Turn
upgrades =
    floods 0 1 (frame 2 1)
    ∷ leaves 2 1
    ∷ forwards 2 1 2 1
    -- an operator's frame at another port, at another switch, and without a version, is an ordinary frame
    ∷ floods 0 3 (asking (1 ∷ []))
    ∷ floods 1 48 (asking (1 ∷ []))
    ∷ floods 0 48 (asking [])
    -- version 0 is not above itself
    ∷ at 0 (comes 48 (asking (0 ∷ []))) []
    -- a hub
    ∷ at 0 (comes 48 (asking (1 ∷ []))) []
    ∷ floods 0 2 (frame 1 2)
    -- the version that is active, one below it, and one that there is not
    ∷ at 0 (comes 48 (asking (1 ∷ []))) []
    ∷ at 0 (comes 48 (asking (0 ∷ []))) []
    ∷ at 0 (comes 48 (asking (5 ∷ []))) []
    ∷ at 0 (goes_down 1) []
    ∷ leaves 2 1
    ∷ floods 1 1 (frame 2 1)
    -- a switch that the network does not have
    ∷ at 3 (comes 1 (frame 2 1)) []
    -- what pins knows nothing at first. It keeps host 1 at port 1 until that port goes down
    ∷ at 0 (comes 48 (asking (2 ∷ 7 ∷ []))) []
    ∷ floods 0 1 (frame 2 1)
    ∷ floods 0 3 (frame 2 1)
    ∷ leaves 2 1
    ∷ forwards 2 1 2 1
    ∷ at 0 (goes_down 1) (flow_mod 0 0 Delete 0 1 any_match [] ∷ [])
    ∷ forwards 3 2 1 2
    ∷ forwards 2 1 2 3
    ∷ []

upgrades_alone : reactions (slot ∷ []) network (map (λ turn. turn.event) upgrades) ≡ map (λ turn. turn.asks) upgrades
unfolding reactions part_next rule_of
upgrades_alone = refl

upgrades_behind_a_firewall : reactions (firewall ∷ slot ∷ []) network (map (λ turn. turn.event) upgrades) ≡ map (λ turn. turn.asks) upgrades
unfolding reactions part_next rule_of
upgrades_behind_a_firewall = refl

-- it ends at version 2, which knows two hosts
ends_pinned : chain_after (slot ∷ []) network (starting_chain (slot ∷ [])) (map (λ turn. turn.event) upgrades)
    ≡ (2 ∷ 0 ∷ 0x020000000002 ∷ 2 ∷ 0 ∷ 0x020000000001 ∷ 3 ∷ []) ∷ []
unfolding part_next rule_of
ends_pinned = refl

-- ---- what lets rows age

-- version 3 is asked for
abbrev asks_to_age : Turn
asks_to_age = at 0 (comes 48 (asking (3 ∷ []))) []

abbrev ages : List Turn
ages =
    floods 0 1 (frame 2 1)
    ∷ forwards_aging 2 1 2 1
    -- an address goes with its host
    ∷ floods 0 3 (frame 9 1)
    ∷ forwards_aging 2 1 2 3
    -- and stays where it is when a row leaves
    ∷ leaves 2 1
    ∷ forwards_aging 2 1 2 3
    ∷ leaves 2 1
    ∷ []

-- alone an operator asks it for nothing
ages_alone : reactions (aging ∷ []) network (map (λ turn. turn.event) (floods 0 48 (asking (1 ∷ [])) ∷ ages)) ≡ map (λ turn. turn.asks) (floods 0 48 (asking (1 ∷ [])) ∷ ages)
unfolding reactions part_next rule_of
ages_alone = refl

-- a slot goes to it from version 0 at once, and from each other version
ages_in_a_slot : reactions (firewall ∷ slot ∷ []) network (map (λ turn. turn.event) (asks_to_age ∷ ages)) ≡ map (λ turn. turn.asks) (asks_to_age ∷ ages)
unfolding reactions part_next rule_of
ages_in_a_slot = refl

ages_behind_others : reactions (slot ∷ []) network (map (λ turn. turn.event) (upgrades ++ asks_to_age ∷ ages)) ≡ map (λ turn. turn.asks) (upgrades ++ asks_to_age ∷ ages)
unfolding reactions part_next rule_of
ages_behind_others = refl

-- it ends at version 3, which knows two hosts
ends_aging : chain_after (slot ∷ []) network (starting_chain (slot ∷ [])) (map (λ turn. turn.event) (asks_to_age ∷ ages))
    ≡ (3 ∷ 0 ∷ 0x020000000001 ∷ 3 ∷ 0 ∷ 0x020000000002 ∷ 2 ∷ []) ∷ []
unfolding part_next rule_of
ends_aging = refl
