-- Each message is its header, its numbers in fixed places, and what follows them, added to a list one behind the other.
use Rattle.std.proofs.Common.{◌≡◌, ℕ, ◌+◌, ◌*◌, false, eqb, List, [], ◌∷◌, ◌++◌, length, refl, sym, ◌∙◌, append_assoc, arith}
use Rattle.of_bytes.specs.Numbers.{one, two, four, zeros}
use Rattle.of_match.specs.Writing.{exact, address48, address32, link_fields, network_fields, transport_fields, written_of, spelled, canonical_bare_match, canonical_match}
use Rattle.of_match.proofs.Sizes.{has_size}
use Rattle.of_types.specs.declared.message.FlowMod.{FlowMod}
use Rattle.of_types.specs.declared.message.FlowRemoved.{FlowRemoved}
use Rattle.of_types.specs.declared.message.OfMessage.TheVariants as plain
use Rattle.of_types.specs.declared.message.PacketIn.{PacketIn}
use Rattle.of_types.specs.declared.message.PacketOut.{PacketOut}
use Rattle.of_types.specs.Sizes.{instruction_size}
use Rattle.of_messages.specs.Canonical.{actions_of, applied, apply_front, instruction_of, packet_in_front, port_match, in_port_front, packet_in_body, flow_removed_front, flow_removed_times, flow_removed_counts, flow_removed_body, packet_out_front, packet_out_body, flow_mod_cookies, flow_mod_times, flow_mod_filter, flow_mod_body, error_body, header, framed, canonical}
use Rattle.of_messages.proofs.Written.{actions_size, packet_in_size, flow_removed_size, packet_out_size, flow_mod_size, error_size}

-- ---- a header and a body

framed_is : (kind xid : ℕ) (body : List ℕ) → framed kind xid body ≡ header kind (8 + length body) xid ++ body
unfolding framed header one two four
framed_is kind xid body = refl

-- what is added behind a header of the right length
pub framed_of : (out : List ℕ) (kind len xid : ℕ) (body : List ℕ) → 8 + length body ≡ len → out ++ framed kind xid body ≡ (out ++ header kind len xid) ++ body
framed_of out kind len xid body e = rw framed_is (rw e (sym (append_assoc out (header kind len xid) body)))

pub framed_put : (out : List ℕ) (kind xid : ℕ) (body : List ℕ) → out ++ framed kind xid body ≡ (out ++ header kind (8 + length body) xid) ++ body
framed_put out kind xid body = framed_of out kind (8 + length body) xid body refl

-- ---- an instruction

applied_is : (actions : List ℕ) → applied actions ≡ apply_front (8 + length actions) ++ actions
unfolding applied apply_front two zeros
applied_is actions = refl

pub instruction_put : (out ports : List ℕ) → eqb (length ports) 0 ≡ false
    → out ++ instruction_of ports ≡ (out ++ apply_front (instruction_size ports)) ++ actions_of ports
unfolding instruction_of
instruction_put out [] some = absurd cc
instruction_put out (port ∷ ports) some =
    rw (applied_is, actions_size (port ∷ ports)) (sym (append_assoc out (apply_front (8 + 16 * length (port ∷ ports))) (actions_of (port ∷ ports))))

-- ---- bodies

in_port_is : (port : ℕ) → in_port_front port ≡ canonical_match (port_match port) ++ zeros 2
unfolding in_port_front canonical_match canonical_bare_match written_of link_fields network_fields transport_fields exact address48 address32 spelled one two four zeros
in_port_is port = refl

packet_in_parts : (p : PacketIn) → packet_in_body p ≡ (packet_in_front p ++ in_port_front p.in_port) ++ p.payload
unfolding packet_in_body
packet_in_parts p = rw in_port_is (simp append_assoc)

pub packet_in_put : (out : List ℕ) (xid : ℕ) (p : PacketIn)
    → out ++ canonical xid (plain.PacketIn p) ≡ (out ++ (header 10 (42 + length p.payload) xid ++ (packet_in_front p ++ in_port_front p.in_port))) ++ p.payload
unfolding canonical
packet_in_put out xid p =
    framed_of out 10 (42 + length p.payload) xid (packet_in_body p) (omega (arith, packet_in_size p)) ∙ rw packet_in_parts (simp append_assoc)

flow_removed_parts : (r : FlowRemoved) → flow_removed_body r ≡ (flow_removed_front r ++ (flow_removed_times r ++ flow_removed_counts r)) ++ canonical_match r.matching
unfolding flow_removed_body
flow_removed_parts r = simp append_assoc

pub flow_removed_put : (out : List ℕ) (xid : ℕ) (r : FlowRemoved)
    → out ++ canonical xid (plain.FlowRemoved r)
    ≡ (out ++ (header 11 (48 + length (canonical_match r.matching)) xid ++ (flow_removed_front r ++ (flow_removed_times r ++ flow_removed_counts r)))) ++ canonical_match r.matching
unfolding canonical
flow_removed_put out xid r =
    framed_of out 11 (48 + length (canonical_match r.matching)) xid (flow_removed_body r) (omega (arith, flow_removed_size r, has_size r.matching)) ∙ rw flow_removed_parts (simp append_assoc)

packet_out_parts : (p : PacketOut) → packet_out_body p ≡ (packet_out_front p (length (actions_of p.actions)) ++ actions_of p.actions) ++ p.payload
unfolding packet_out_body packet_out_front
packet_out_parts p = simp append_assoc

pub packet_out_put : (out : List ℕ) (xid : ℕ) (p : PacketOut)
    → out ++ canonical xid (plain.PacketOut p)
    ≡ ((out ++ (header 13 (length (actions_of p.actions) + (24 + length p.payload)) xid ++ packet_out_front p (length (actions_of p.actions)))) ++ actions_of p.actions) ++ p.payload
unfolding canonical
packet_out_put out xid p =
    framed_of out 13 (length (actions_of p.actions) + (24 + length p.payload)) xid (packet_out_body p) (omega (arith, packet_out_size p, actions_size p.actions)) ∙ rw packet_out_parts (simp append_assoc)

flow_mod_parts : (c : FlowMod) → flow_mod_body c ≡ ((flow_mod_cookies c ++ (flow_mod_times c ++ flow_mod_filter c)) ++ canonical_match c.matching) ++ instruction_of c.actions
unfolding flow_mod_body
flow_mod_parts c = simp append_assoc

pub flow_mod_put : (out : List ℕ) (xid : ℕ) (c : FlowMod)
    → out ++ canonical xid (plain.FlowMod c)
    ≡ ((out ++ (header 14 (instruction_size c.actions + (48 + length (canonical_match c.matching))) xid ++ (flow_mod_cookies c ++ (flow_mod_times c ++ flow_mod_filter c)))) ++ canonical_match c.matching) ++ instruction_of c.actions
unfolding canonical
flow_mod_put out xid c =
    framed_of out 14 (instruction_size c.actions + (48 + length (canonical_match c.matching))) xid (flow_mod_body c) (omega (arith, flow_mod_size c, has_size c.matching)) ∙ rw flow_mod_parts (simp append_assoc)

pub error_put : (out : List ℕ) (xid kind code : ℕ) (head : List ℕ)
    → out ++ canonical xid (plain.Error kind code head) ≡ (out ++ (header 1 (12 + length head) xid ++ (two kind ++ two code))) ++ head
unfolding canonical error_body
error_put out xid kind code head =
    framed_of out 1 (12 + length head) xid (error_body kind code head) (omega (arith, error_size kind code head)) ∙ simp append_assoc
