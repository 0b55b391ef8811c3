-- What the forms of a message have: it is valid, and none is shorter than its canonical form.
use Rattle.std.proofs.Common.{ℕ, ◌+◌, ◌*◌, ◌≤◌, inl, inr, List, [], ◌∷◌, ◌++◌, length, drop, ap, subst, arith}
use Rattle.std.proofs.lemmas.List.{length-append, length-drop}
use Rattle.of_bytes.proofs.Bytes.{IsBytes, IsBytes-drop, big_from-lt}
use Rattle.of_match.proofs.Forms.{spelled_valid, spelled_long}
use Rattle.of_types.specs.Sizes.{field_size, instruction_size, match_size, plain_size}
use Rattle.of_types.specs.Valid.{IsValidPlain}
use Rattle.of_types.specs.declared.message.FlowMod.{FlowMod}
use Rattle.of_types.specs.declared.message.FlowRemoved.{FlowRemoved}
use Rattle.of_types.specs.declared.message.OfMessage.{OfMessage}
use Rattle.of_types.specs.declared.message.OfMessage.TheVariants as plain
use Rattle.of_types.specs.declared.message.PacketIn.{PacketIn}
use Rattle.of_types.specs.declared.message.PacketOut.{PacketOut}
use Rattle.of_messages.specs.Grammar.{SpellsActions, SpellsInstructions, IsError, IsPacketIn, IsFlowRemoved, IsPacketOut, IsFlowMod, SpellsBody, Spells}

-- ---- valid

body_valid : (m : OfMessage) (body : List ℕ) → SpellsBody body m → IsValidPlain m
body_valid plain.Hello body s = tt
body_valid (plain.Error kind code head) body s = tt
body_valid (plain.EchoRequest said) body s = tt
body_valid (plain.EchoReply said) body s = tt
body_valid (plain.Experimenter said) body s = subst (λ (xs : List ℕ). 8 ≤ length xs) s.said_is s.there
body_valid plain.FeaturesRequest body s = tt
body_valid (plain.FeaturesReply datapath) body s = tt
body_valid (plain.PacketIn p) body s = tt
body_valid (plain.FlowRemoved r) body s = (s.front.reason_known, spelled_valid (drop 40 body) r.matching s.spelled)
body_valid (plain.PortStatus p) body s = tt
body_valid (plain.PacketOut p) body s = tt
body_valid (plain.FlowMod c) body s = spelled_valid s.text c.matching s.spelled
body_valid plain.BarrierRequest body s = tt
body_valid plain.BarrierReply body s = tt
body_valid (plain.RoleRequest role generation) body s = tt
body_valid (plain.RoleReply role generation) body s = tt

-- what is spelled is valid
pub message_valid : (bytes : List ℕ) (xid : ℕ) (m : OfMessage) → Spells bytes xid m → IsValidPlain m
message_valid bytes xid m s = body_valid m (drop 8 bytes) s.body

-- ---- no shorter

actions_long : (ports bytes : List ℕ) → SpellsActions bytes ports → 16 * length ports ≤ length bytes
actions_long [] bytes s = omega arith
actions_long (port ∷ ports) bytes s =
    let there = s.0.there in
    let more = actions_long ports (drop 16 bytes) s.1 in
    omega (arith, more, length-drop 16 bytes)

instruction_least : (ports : List ℕ) → instruction_size ports ≤ 8 + 16 * length ports
instruction_least [] = omega arith
instruction_least (port ∷ ports) = omega arith

instructions_long : (bytes ports : List ℕ) → SpellsInstructions bytes ports → instruction_size ports ≤ length bytes
instructions_long bytes ports (inl none) = omega (arith, ap instruction_size none.1)
instructions_long bytes ports (inr a) =
    let there = a.there in
    omega (arith, actions_long ports (drop 8 bytes) a.actions, instruction_least ports, length-drop 8 bytes)

error_long : (body : List ℕ) (kind code : ℕ) (head : List ℕ) → IsError body kind code head → 4 + length head ≤ length body
error_long body kind code head s =
    let there = s.there in
    omega (arith, length-drop 4 body, ap length s.head_is)

-- a match that asks for a port has that field
packet_in_long : (body : List ℕ) (p : PacketIn) → IsPacketIn body p → 34 + length p.payload ≤ length body
packet_in_long body p s =
    let there = s.there in
    let padding = s.padding_is in
    let port = ap (field_size 4) s.port_is in
    omega (arith, port, spelled_long s.text s.matching s.spelled, length-drop 16 body, ap length s.rest_is, length-append s.text (s.padding ++ p.payload), length-append s.padding p.payload)

flow_removed_long : (body : List ℕ) (r : FlowRemoved) → IsFlowRemoved body r → 40 + match_size r.matching ≤ length body
flow_removed_long body r s =
    let there = s.front.there in
    omega (arith, spelled_long (drop 40 body) r.matching s.spelled, length-drop 40 body)

packet_out_long : (body : List ℕ) (p : PacketOut) → IsPacketOut body p → 16 + 16 * length p.actions + length p.payload ≤ length body
packet_out_long body p s =
    let there = s.there in
    omega (arith, actions_long p.actions s.text s.actions, length-drop 16 body, ap length s.rest_is, length-append s.text p.payload)

flow_mod_long : (body : List ℕ) (c : FlowMod) → IsFlowMod body c → 40 + match_size c.matching + instruction_size c.actions ≤ length body
flow_mod_long body c s =
    let there = s.front.there in
    omega (arith, spelled_long s.text c.matching s.spelled, instructions_long s.instructions c.actions s.applies, length-drop 40 body, ap length s.rest_is, length-append s.text s.instructions)

body_long : (m : OfMessage) (body : List ℕ) → SpellsBody body m → plain_size m ≤ 8 + length body
body_long plain.Hello body s = omega arith
body_long (plain.Error kind code head) body s = omega (arith, error_long body kind code head s)
body_long (plain.EchoRequest said) body s = omega (arith, ap length s)
body_long (plain.EchoReply said) body s = omega (arith, ap length s)
body_long (plain.Experimenter said) body s = omega (arith, ap length s.said_is)
body_long plain.FeaturesRequest body s = omega arith
body_long (plain.FeaturesReply datapath) body s = omega (arith, s.whole)
body_long (plain.PacketIn p) body s = omega (arith, packet_in_long body p s)
body_long (plain.FlowRemoved r) body s = omega (arith, flow_removed_long body r s)
body_long (plain.PortStatus p) body s = omega (arith, s.whole)
body_long (plain.PacketOut p) body s = omega (arith, packet_out_long body p s)
body_long (plain.FlowMod c) body s = omega (arith, flow_mod_long body c s)
body_long plain.BarrierRequest body s = omega arith
body_long plain.BarrierReply body s = omega arith
body_long (plain.RoleRequest role generation) body s = omega (arith, s.whole)
body_long (plain.RoleReply role generation) body s = omega (arith, s.whole)

-- what is spelled is written in no more bytes
pub message_long : (bytes : List ℕ) (xid : ℕ) (m : OfMessage) → Spells bytes xid m → plain_size m ≤ length bytes
message_long bytes xid m s =
    let there = s.there in
    omega (arith, body_long m (drop 8 bytes) s.body, length-drop 8 bytes)

-- the length of a message stands in two bytes
pub length_fits : (bytes : List ℕ) (xid : ℕ) (m : OfMessage) → IsBytes bytes → Spells bytes xid m → length bytes ≤ 65535
length_fits bytes xid m fits s = let lt = big_from-lt 0 2 (drop 2 bytes) (IsBytes-drop 2 bytes fits) in let is = s.length_is in omega arith
