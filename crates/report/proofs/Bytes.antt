-- What is joined of written numbers, zeros and bytes is bytes, and so is a message whose own bytes are.
use Rattle.std.proofs.Common.{ℕ, zero, suc, ◌+◌, ◌-◌, ◌*◌, ◌/◌, ◌^◌, ◌≤◌, ◌<◌, Bool, true, false, cond, List, [], ◌∷◌, ◌++◌, length, arith}
use Rattle.std.proofs.Math.Nat.{mod-lt}
use Rattle.std.specs.Prelude.{Option, Some, None, is_some, replicate}
use Rattle.std.specs.Int.{byte_at}
use Rattle.std.specs.List.{flat_map}
use Rattle.of_bytes.specs.Numbers.{big_bytes, one, two, four, eight, zeros}
use Rattle.of_match.specs.declared.kind.FieldKind.{FieldKind}
use Rattle.of_match.specs.declared.kind.FieldKind.TheVariants.{InPort, EthDst, EthSrc, EthType, IpProto, Ipv4Src, Ipv4Dst, TcpSrc, TcpDst, UdpSrc, UdpDst}
use Rattle.of_match.specs.Field.{Field, number_of, width_of, mask_bytes, payload, field_bytes}
use Rattle.of_match.proofs.Fields.{length-payload}
use Rattle.of_match.specs.Writing.{spelled, written_of, bare_match, canonical_bare_match, canonical_match}
use Rattle.of_messages.specs.Canonical.{action, actions_of, applied, instruction_of, packet_in_front, port_match, packet_in_body, flow_removed_front, flow_removed_times, flow_removed_counts, flow_removed_body, port_status_body, packet_out_body, flow_mod_cookies, flow_mod_times, flow_mod_filter, flow_mod_body, role_body, error_body, features_body, plain_body, framed, canonical}
use Rattle.of_types.specs.declared.message.FlowMod.{FlowMod}
use Rattle.of_types.specs.declared.message.FlowRemoved.{FlowRemoved}
use Rattle.of_types.specs.declared.message.Match.{Match}
use Rattle.of_types.specs.declared.message.OfMessage.{OfMessage}
use Rattle.of_types.specs.declared.message.OfMessage.TheVariants as plain
use Rattle.of_types.specs.declared.message.PacketIn.{PacketIn}
use Rattle.of_types.specs.declared.message.PacketOut.{PacketOut}
use Rattle.of_types.specs.declared.message.PortStatus.{PortStatus}
use Rattle.of_types.specs.Sizes as sizes
use Rattle.report.specs.Fits.{carried}
use Rattle.report.specs.Records.{AreOctets}

pub joined_bytes : (front bytes : List ℕ) → AreOctets front → AreOctets bytes → AreOctets (front ++ bytes)
joined_bytes [] bytes first are i = are i
joined_bytes (b ∷ front) bytes first are zero = first 0
joined_bytes (b ∷ front) bytes first are (suc i) = joined_bytes front bytes (λ k. first (suc k)) are i

pub zero_bytes : (n : ℕ) → AreOctets (replicate n 0)
zero_bytes zero i = omega arith
zero_bytes (suc n) zero = omega arith
zero_bytes (suc n) (suc i) = zero_bytes n i

no_bytes : AreOctets []
no_bytes i = omega arith

-- ---- numbers

low_byte : (k n : ℕ) → byte_at k n < 256
low_byte zero n = mod-lt n (omega arith)
low_byte (suc k) n = mod-lt (n / 256 ^ suc k) (omega arith)

number_are : (count n : ℕ) → AreOctets (big_bytes count n)
number_are zero n i = omega arith
number_are (suc count) n zero = low_byte count n
number_are (suc count) n (suc i) = number_are count n i

one_are : (n : ℕ) → AreOctets (one n)
unfolding one
one_are n = number_are 1 n

two_are : (n : ℕ) → AreOctets (two n)
unfolding two
two_are n = number_are 2 n

four_are : (n : ℕ) → AreOctets (four n)
unfolding four
four_are n = number_are 4 n

eight_are : (n : ℕ) → AreOctets (eight n)
unfolding eight
eight_are n = number_are 8 n

zeros_are : (n : ℕ) → AreOctets (zeros n)
unfolding zeros
zeros_are n = zero_bytes n

-- ---- matches

mask_are : (width : ℕ) (mask : Option ℕ) → AreOctets (mask_bytes width mask)
mask_are width None = no_bytes
mask_are width (Some mask) = number_are width mask

number_small : (kind : FieldKind) → number_of kind ≤ 80
number_small InPort = omega arith
number_small EthDst = omega arith
number_small EthSrc = omega arith
number_small EthType = omega arith
number_small IpProto = omega arith
number_small Ipv4Src = omega arith
number_small Ipv4Dst = omega arith
number_small TcpSrc = omega arith
number_small TcpDst = omega arith
number_small UdpSrc = omega arith
number_small UdpDst = omega arith

width_small : (kind : FieldKind) → width_of kind ≤ 6
width_small InPort = omega arith
width_small EthDst = omega arith
width_small EthSrc = omega arith
width_small EthType = omega arith
width_small IpProto = omega arith
width_small Ipv4Src = omega arith
width_small Ipv4Dst = omega arith
width_small TcpSrc = omega arith
width_small TcpDst = omega arith
width_small UdpSrc = omega arith
width_small UdpDst = omega arith

number_and_mask : (n : ℕ) (masked : Bool) → n ≤ 80 → 2 * n + cond masked 1 0 < 256
number_and_mask n true small = omega arith
number_and_mask n false small = omega arith

once_or_twice : (n : ℕ) (masked : Bool) → n ≤ 6 → cond masked (2 * n) n < 256
once_or_twice n true small = omega arith
once_or_twice n false small = omega arith

more_bytes : (b : ℕ) (bytes : List ℕ) → b < 256 → AreOctets bytes → AreOctets (b ∷ bytes)
more_bytes b bytes first are zero = first
more_bytes b bytes first are (suc i) = are i

payload_are : (field : Field) → AreOctets (payload field)
payload_are field =
    let width = width_of field.kind in
    joined_bytes (big_bytes width field.value) (mask_bytes width field.mask) (number_are width field.value) (mask_are width field.mask)

field_are : (field : Field) → AreOctets (field_bytes field)
field_are field =
    let len = length-payload field in
    let short = once_or_twice (width_of field.kind) (is_some field.mask) (width_small field.kind) in
    let behind = length (payload field) ∷ payload field in
    let first = 2 * number_of field.kind + cond (is_some field.mask) 1 0 in
    joined_bytes (big_bytes 2 32768) (first ∷ behind) (number_are 2 32768)
    (more_bytes first behind (number_and_mask (number_of field.kind) (is_some field.mask) (number_small field.kind))
    (more_bytes (length (payload field)) (payload field) (omega (arith, len, short)) (payload_are field)))

fields_are : (fields : List Field) → AreOctets (flat_map field_bytes fields)
fields_are [] = no_bytes
fields_are (field ∷ fields) = joined_bytes (field_bytes field) (flat_map field_bytes fields) (field_are field) (fields_are fields)

spelled_are : (fields : List Field) → AreOctets (spelled fields)
unfolding spelled
spelled_are fields = fields_are fields

front_are : (fields : List ℕ) → AreOctets fields → AreOctets (bare_match fields)
front_are fields are =
    let long = 4 + length fields in
    joined_bytes (big_bytes 2 1) (big_bytes 2 long ++ fields) (number_are 2 1) (joined_bytes (big_bytes 2 long) fields (number_are 2 long) are)

-- a match without its padding is bytes
pub bare_match_bytes : (m : Match) → AreOctets (canonical_bare_match m)
unfolding canonical_bare_match
bare_match_bytes m = front_are (spelled (written_of m)) (spelled_are (written_of m))

match_are : (m : Match) → AreOctets (canonical_match m)
unfolding canonical_match
match_are m =
    let len = length (canonical_bare_match m) in
    joined_bytes (canonical_bare_match m) (replicate (sizes.padded len - len) 0) (bare_match_bytes m) (zero_bytes (sizes.padded len - len))

-- ---- actions and instructions

action_are : (port : ℕ) → AreOctets (action port)
unfolding action
action_are port = joined_bytes _ _ (two_are _) (joined_bytes _ _ (two_are _) (joined_bytes _ _ (four_are port) (joined_bytes _ _ (two_are _) (zeros_are 6))))

-- the actions of ports are bytes
pub actions_bytes : (ports : List ℕ) → AreOctets (actions_of ports)
unfolding actions_of
actions_bytes [] = no_bytes
actions_bytes (port ∷ ports) = joined_bytes (action port) (actions_of ports) (action_are port) (actions_bytes ports)

applied_are : (actions : List ℕ) → AreOctets actions → AreOctets (applied actions)
unfolding applied
applied_are actions are = joined_bytes _ _ (two_are _) (joined_bytes _ _ (two_are _) (joined_bytes _ actions (zeros_are 4) are))

instruction_are : (ports : List ℕ) → AreOctets (instruction_of ports)
unfolding instruction_of
instruction_are [] = no_bytes
instruction_are (port ∷ ports) = applied_are (actions_of (port ∷ ports)) (actions_bytes (port ∷ ports))

-- ---- bodies

packet_in_front_are : (p : PacketIn) → AreOctets (packet_in_front p)
unfolding packet_in_front
packet_in_front_are p = joined_bytes _ _ (four_are _) (joined_bytes _ _ (two_are _) (joined_bytes _ _ (one_are _) (joined_bytes _ _ (one_are 0) (eight_are _))))

packet_in_are : (p : PacketIn) → AreOctets p.payload → AreOctets (packet_in_body p)
unfolding packet_in_body
packet_in_are p are = joined_bytes _ _ (packet_in_front_are p) (joined_bytes _ _ (match_are (port_match p.in_port)) (joined_bytes _ p.payload (zeros_are 2) are))

removed_front_are : (r : FlowRemoved) → AreOctets (flow_removed_front r)
unfolding flow_removed_front
removed_front_are r = joined_bytes _ _ (eight_are _) (joined_bytes _ _ (two_are _) (joined_bytes _ _ (one_are _) (one_are _)))

removed_times_are : (r : FlowRemoved) → AreOctets (flow_removed_times r)
unfolding flow_removed_times
removed_times_are r = joined_bytes _ _ (four_are _) (joined_bytes _ _ (zeros_are 4) (joined_bytes _ _ (two_are _) (two_are _)))

removed_counts_are : (r : FlowRemoved) → AreOctets (flow_removed_counts r)
unfolding flow_removed_counts
removed_counts_are r = joined_bytes _ _ (eight_are _) (eight_are _)

flow_removed_are : (r : FlowRemoved) → AreOctets (flow_removed_body r)
unfolding flow_removed_body
flow_removed_are r =
    joined_bytes _ _ (removed_front_are r) (joined_bytes _ _ (removed_times_are r) (joined_bytes _ _ (removed_counts_are r) (match_are r.matching)))

port_status_are : (p : PortStatus) → AreOctets (port_status_body p)
unfolding port_status_body
port_status_are p =
    joined_bytes _ _ (one_are _) (joined_bytes _ _ (zeros_are 7) (joined_bytes _ _ (four_are _) (joined_bytes _ _ (zeros_are 28)
    (joined_bytes _ _ (zeros_are 4) (joined_bytes _ _ (four_are _) (zeros_are 24))))))

packet_out_are : (p : PacketOut) → AreOctets p.payload → AreOctets (packet_out_body p)
unfolding packet_out_body
packet_out_are p are =
    joined_bytes _ _ (four_are _) (joined_bytes _ _ (four_are _) (joined_bytes _ _ (two_are _) (joined_bytes _ _ (zeros_are 6)
    (joined_bytes _ p.payload (actions_bytes p.actions) are))))

cookies_are : (c : FlowMod) → AreOctets (flow_mod_cookies c)
unfolding flow_mod_cookies
cookies_are c = joined_bytes _ _ (eight_are _) (joined_bytes _ _ (eight_are _) (joined_bytes _ _ (one_are _) (one_are _)))

times_are : (c : FlowMod) → AreOctets (flow_mod_times c)
unfolding flow_mod_times
times_are c = joined_bytes _ _ (two_are _) (joined_bytes _ _ (two_are _) (joined_bytes _ _ (two_are _) (four_are _)))

filter_are : (c : FlowMod) → AreOctets (flow_mod_filter c)
unfolding flow_mod_filter
filter_are c = joined_bytes _ _ (four_are _) (joined_bytes _ _ (four_are _) (joined_bytes _ _ (two_are _) (zeros_are 2)))

flow_mod_are : (c : FlowMod) → AreOctets (flow_mod_body c)
unfolding flow_mod_body
flow_mod_are c =
    joined_bytes _ _ (cookies_are c) (joined_bytes _ _ (times_are c) (joined_bytes _ _ (filter_are c) (joined_bytes _ _ (match_are c.matching) (instruction_are c.actions))))

role_are : (role generation : ℕ) → AreOctets (role_body role generation)
unfolding role_body
role_are role generation = joined_bytes _ _ (four_are role) (joined_bytes _ _ (zeros_are 4) (eight_are generation))

error_are : (kind code : ℕ) (head : List ℕ) → AreOctets head → AreOctets (error_body kind code head)
unfolding error_body
error_are kind code head are = joined_bytes _ _ (two_are kind) (joined_bytes _ head (two_are code) are)

features_are : (datapath : ℕ) → AreOctets (features_body datapath)
unfolding features_body
features_are datapath = joined_bytes _ _ (eight_are datapath) (joined_bytes _ _ (zeros_are 4) (joined_bytes _ _ (one_are 1) (zeros_are 11)))

-- ---- messages

body_are : (m : OfMessage) → AreOctets (carried m) → AreOctets (plain_body m)
body_are plain.Hello are = no_bytes
body_are (plain.Error kind code head) are = error_are kind code head are
body_are (plain.EchoRequest body) are = are
body_are (plain.EchoReply body) are = are
body_are (plain.Experimenter body) are = are
body_are plain.FeaturesRequest are = no_bytes
body_are (plain.FeaturesReply datapath) are = features_are datapath
body_are (plain.PacketIn p) are = packet_in_are p are
body_are (plain.FlowRemoved r) are = flow_removed_are r
body_are (plain.PortStatus p) are = port_status_are p
body_are (plain.PacketOut p) are = packet_out_are p are
body_are (plain.FlowMod c) are = flow_mod_are c
body_are plain.BarrierRequest are = no_bytes
body_are plain.BarrierReply are = no_bytes
body_are (plain.RoleRequest role generation) are = role_are role generation
body_are (plain.RoleReply role generation) are = role_are role generation

-- a message is bytes where those that it carries are
pub message_bytes : (xid : ℕ) (m : OfMessage) → AreOctets (carried m) → AreOctets (canonical xid m)
unfolding canonical framed
message_bytes xid m are = joined_bytes _ _ (one_are _) (joined_bytes _ _ (one_are _) (joined_bytes _ _ (two_are _) (joined_bytes _ _ (four_are xid) (body_are m are))))
