-- What is written is spelled, and has the stated size.
use Rattle.std.proofs.Common.{◌≡◌, ℕ, suc, ◌+◌, ◌*◌, ◌%◌, ◌^◌, ◌≤◌, ◌<◌, inl, inr, Bool, true, false, eqb, List, [], ◌∷◌, ◌++◌, length, drop, refl, ap, ◌∙◌, arith, lit<}
use Rattle.std.proofs.lemmas.List.{length-append}
use Rattle.of_bytes.specs.Numbers.{one, two, four, eight, zeros}
use Rattle.of_bytes.proofs.Bytes.{number_bytes}
use Rattle.of_match.specs.Spelling.{Fits}
use Rattle.of_match.specs.Writing.{canonical_match}
use Rattle.of_match.proofs.Laws.{is_form}
use Rattle.of_match.proofs.Sizes.{has_size}
use Rattle.of_types.specs.declared.message.FlowCommand.{FlowCommand}
use Rattle.of_types.specs.declared.message.FlowCommand.TheVariants.{Add, Modify, ModifyStrict, Delete, DeleteStrict}
use Rattle.of_types.specs.declared.message.FlowMod.{FlowMod}
use Rattle.of_types.specs.declared.message.FlowRemoved.{FlowRemoved}
use Rattle.of_types.specs.declared.message.OfMessage.{OfMessage}
use Rattle.of_types.specs.declared.message.OfMessage.TheVariants as plain
use Rattle.of_types.specs.declared.message.PacketIn.{PacketIn}
use Rattle.of_types.specs.declared.message.PacketOut.{PacketOut}
use Rattle.of_types.specs.declared.message.PortStatus.{PortStatus}
use Rattle.of_types.specs.Sizes.{instruction_size, match_size, plain_size}
use Rattle.of_types.specs.Valid.{IsValidMatch, IsValidRemoved, IsValidPlain}
use Rattle.of_messages.specs.Canonical.{action, actions_of, applied, instruction_of, packet_in_front, port_match, packet_in_body, flow_removed_front, flow_removed_times, flow_removed_counts, flow_removed_body, port_state, port_status_body, packet_out_body, command_number, flow_mod_cookies, flow_mod_times, flow_mod_filter, flow_mod_body, role_body, error_body, features_body, plain_body, plain_type, framed, canonical}
use Rattle.of_messages.specs.Fits.{FitPorts, FitsPacketIn, FitsFlowRemoved, FitsPortStatus, FitsPacketOut, FitsFlowMod, FitsPlain}
use Rattle.of_messages.specs.Reading.{xid_of}
use Rattle.of_messages.proofs.Again.{xid_there}
use Rattle.of_messages.specs.Grammar.{IsOutput, SpellsActions, IsApply, SpellsInstructions, IsError, IsFeaturesReply, IsPacketIn, IsFlowRemovedFront, IsFlowRemoved, IsPortStatus, IsPacketOut, IsFlowModFront, IsFlowMod, IsRole, SpellsBody, Spells}

-- ---- actions and instructions

output_spelled : (port : ℕ) (rest : List ℕ) → port < 2 ^ 32 → IsOutput (action port ++ rest) port
unfolding action two four zeros
output_spelled port rest fits = record {
  there = omega arith;
  kind_is = refl;
  length_is = refl;
  port_is = number_bytes 4 port [] fits;
}

drop_action : (port : ℕ) (rest : List ℕ) → drop 16 (action port ++ rest) ≡ rest
unfolding action two four zeros
drop_action port rest = refl

action_size : (port : ℕ) → length (action port) ≡ 16
unfolding action two four zeros
action_size port = refl

pub actions_size : (ports : List ℕ) → length (actions_of ports) ≡ 16 * length ports
unfolding actions_of
actions_size [] = refl
actions_size (port ∷ ports) =
    let more = actions_size ports in
    omega (arith, length-append (action port) (actions_of ports), action_size port, more)

pub actions_spelled : (ports : List ℕ) → FitPorts ports → SpellsActions (actions_of ports) ports
unfolding actions_of
actions_spelled [] fits = refl
actions_spelled (port ∷ ports) fits =
    (output_spelled port (actions_of ports) (fits 0), rw (drop_action port (actions_of ports)) (actions_spelled ports (λ i. fits (suc i))))

apply_spelled : (actions ports : List ℕ) → 8 + length actions < 2 ^ 16 → SpellsActions actions ports → IsApply (applied actions) ports
unfolding applied two zeros
apply_spelled actions ports short spelled = record {
  there = omega arith;
  kind_is = refl;
  length_is = number_bytes 2 (8 + length actions) [] short ∙ omega arith;
  actions = spelled;
}

instruction_spelled : (ports : List ℕ) → FitPorts ports → instruction_size ports < 2 ^ 16 → SpellsInstructions (instruction_of ports) ports
unfolding instruction_of
instruction_spelled [] fits short = inl (refl, refl)
instruction_spelled (port ∷ ports) fits short =
    inr (apply_spelled (actions_of (port ∷ ports)) (port ∷ ports) (omega (arith, actions_size (port ∷ ports))) (actions_spelled (port ∷ ports) fits))

applied_size : (actions : List ℕ) → length (applied actions) ≡ 8 + length actions
unfolding applied two zeros
applied_size actions = omega arith

instruction_has_size : (ports : List ℕ) → length (instruction_of ports) ≡ instruction_size ports
unfolding instruction_of
instruction_has_size [] = refl
instruction_has_size (port ∷ ports) = applied_size (actions_of (port ∷ ports)) ∙ omega (arith, actions_size (port ∷ ports))

-- ---- bodies

error_spelled : (kind code : ℕ) (head : List ℕ) → kind < 2 ^ 16 → code < 2 ^ 16 → IsError (error_body kind code head) kind code head
unfolding error_body two
error_spelled kind code head k c = record { there = omega arith; kind_is = number_bytes 2 kind [] k; code_is = number_bytes 2 code [] c; head_is = refl }

features_spelled : (datapath : ℕ) → datapath < 2 ^ 64 → IsFeaturesReply (features_body datapath) datapath
unfolding features_body eight one zeros
features_spelled datapath d = record { whole = refl; datapath_is = number_bytes 8 datapath [] d }

port_match_valid : (port : ℕ) → IsValidMatch (port_match port)
port_match_valid port = record {
  eth_dst = tt;
  eth_src = tt;
  ipv4_src = tt;
  ipv4_dst = tt;
  proto = λ h. absurd (h refl);
  source = λ h. absurd (h refl);
  destination = λ h. absurd (h refl);
  tcp_source = λ h. absurd (h refl);
  tcp_destination = λ h. absurd (h refl);
  udp_source = λ h. absurd (h refl);
  udp_destination = λ h. absurd (h refl);
}

port_match_fits : (port : ℕ) → port < 2 ^ 32 → Fits (port_match port)
port_match_fits port lt = record { in_port = lt; eth_type = tt; ip_proto = tt; ipv4_src = tt; ipv4_dst = tt; tcp_src = tt; tcp_dst = tt; udp_src = tt; udp_dst = tt }

packet_in_spelled : (p : PacketIn) → FitsPacketIn p → IsPacketIn (packet_in_body p) p
unfolding packet_in_body packet_in_front one two four eight zeros
packet_in_spelled p f = record {
  there = omega arith;
  reason_is = number_bytes 1 p.reason [] f.reason;
  cookie_is = number_bytes 8 p.cookie [] f.cookie;
  text = canonical_match (port_match p.in_port);
  matching = port_match p.in_port;
  padding = zeros 2;
  spelled = is_form (port_match p.in_port) (port_match_valid p.in_port) (port_match_fits p.in_port f.in_port);
  port_is = refl;
  padding_is = refl;
  rest_is = refl;
}

flow_removed_front_spelled : (r : FlowRemoved) → r.reason ≤ 3 → FitsFlowRemoved r → IsFlowRemovedFront (flow_removed_body r) r
unfolding flow_removed_body flow_removed_front flow_removed_times flow_removed_counts one two four eight zeros
flow_removed_front_spelled r known f = record {
  there = omega arith;
  cookie_is = number_bytes 8 r.cookie [] f.cookie;
  priority_is = number_bytes 2 r.priority [] f.priority;
  reason_is = number_bytes 1 r.reason [] f.reason;
  reason_known = known;
  duration_is = number_bytes 4 r.duration [] f.duration;
  idle_is = number_bytes 2 r.idle [] f.idle;
  hard_is = number_bytes 2 r.hard [] f.hard;
  packets_is = number_bytes 8 r.packets [] f.packets;
  octets_is = number_bytes 8 r.octets [] f.octets;
}

flow_removed_rest : (r : FlowRemoved) → drop 40 (flow_removed_body r) ≡ canonical_match r.matching
unfolding flow_removed_body flow_removed_front flow_removed_times flow_removed_counts one two four eight zeros
flow_removed_rest r = refl

flow_removed_spelled : (r : FlowRemoved) → IsValidRemoved r → FitsFlowRemoved r → IsFlowRemoved (flow_removed_body r) r
flow_removed_spelled r v f = record {
  front = flow_removed_front_spelled r v.0 f;
  spelled = rw (flow_removed_rest r) (is_form r.matching v.1 f.matching);
}

state_up : (up : Bool) → eqb (port_state up % 2) 0 ≡ up
unfolding port_state
state_up true = refl
state_up false = refl

state_fits : (up : Bool) → port_state up < 2 ^ 32
unfolding port_state
state_fits true = lit< tt
state_fits false = lit< tt

port_status_spelled : (p : PortStatus) → FitsPortStatus p → IsPortStatus (port_status_body p) p
unfolding port_status_body one four zeros
port_status_spelled p f = record {
  whole = refl;
  reason_is = number_bytes 1 p.reason [] f.reason;
  port_is = number_bytes 4 p.port [] f.port;
  up_is = ap (λ n. eqb (n % 2) 0) (number_bytes 4 (port_state p.up) (zeros 24) (state_fits p.up)) ∙ state_up p.up;
}

packet_out_spelled : (p : PacketOut) → FitsPacketOut p → length (actions_of p.actions) < 2 ^ 16 → IsPacketOut (packet_out_body p) p
unfolding packet_out_body two four zeros
packet_out_spelled p f short = record {
  there = omega arith;
  buffer_is = number_bytes 4 p.buffer [] f.buffer;
  in_port_is = number_bytes 4 p.in_port [] f.in_port;
  text = actions_of p.actions;
  length_is = number_bytes 2 (length (actions_of p.actions)) [] short;
  actions = actions_spelled p.actions f.actions;
  rest_is = refl;
}

command_fits : (command : FlowCommand) → command_number command < 2 ^ 8
unfolding command_number
command_fits Add = lit< tt
command_fits Modify = lit< tt
command_fits ModifyStrict = lit< tt
command_fits Delete = lit< tt
command_fits DeleteStrict = lit< tt

flow_mod_front : (c : FlowMod) → FitsFlowMod c → IsFlowModFront (flow_mod_body c) c
unfolding flow_mod_body flow_mod_cookies flow_mod_times flow_mod_filter one two four eight zeros
flow_mod_front c f = record {
  there = omega arith;
  cookie_is = number_bytes 8 c.cookie [] f.cookie;
  cookie_mask_is = number_bytes 8 c.cookie_mask [] f.cookie_mask;
  table_is = number_bytes 1 c.table [] f.table;
  command_is = number_bytes 1 (command_number c.command) [] (command_fits c.command);
  idle_is = number_bytes 2 c.idle [] f.idle;
  hard_is = number_bytes 2 c.hard [] f.hard;
  priority_is = number_bytes 2 c.priority [] f.priority;
  buffer_is = number_bytes 4 c.buffer [] f.buffer;
  out_port_is = number_bytes 4 c.out_port [] f.out_port;
  out_group_is = number_bytes 4 c.out_group [] f.out_group;
  flags_is = number_bytes 2 c.flags [] f.flags;
}

flow_mod_rest : (c : FlowMod) → drop 40 (flow_mod_body c) ≡ canonical_match c.matching ++ instruction_of c.actions
unfolding flow_mod_body flow_mod_cookies flow_mod_times flow_mod_filter one two four eight zeros
flow_mod_rest c = refl

flow_mod_spelled : (c : FlowMod) → IsValidMatch c.matching → FitsFlowMod c → instruction_size c.actions < 2 ^ 16 → IsFlowMod (flow_mod_body c) c
flow_mod_spelled c v f short = record {
  front = flow_mod_front c f;
  text = canonical_match c.matching;
  instructions = instruction_of c.actions;
  spelled = is_form c.matching v f.matching;
  applies = instruction_spelled c.actions f.actions short;
  rest_is = flow_mod_rest c;
}

role_spelled : (role generation : ℕ) → role < 2 ^ 32 → generation < 2 ^ 64 → IsRole (role_body role generation) role generation
unfolding role_body four eight zeros
role_spelled role generation r g = record { whole = refl; role_is = number_bytes 4 role [] r; generation_is = number_bytes 8 generation [] g }

-- ---- sizes

pub packet_in_size : (p : PacketIn) → length (packet_in_body p) ≡ 34 + length p.payload
unfolding packet_in_body packet_in_front one two four eight zeros
packet_in_size p =
    let m = canonical_match (port_match p.in_port) in
    omega (arith, length-append m (0 ∷ 0 ∷ p.payload), has_size (port_match p.in_port))

pub flow_removed_size : (r : FlowRemoved) → length (flow_removed_body r) ≡ 40 + match_size r.matching
unfolding flow_removed_body flow_removed_front flow_removed_times flow_removed_counts one two four eight zeros
flow_removed_size r = omega (arith, has_size r.matching)

port_status_size : (p : PortStatus) → length (port_status_body p) ≡ 72
unfolding port_status_body one four zeros
port_status_size p = refl

pub packet_out_size : (p : PacketOut) → length (packet_out_body p) ≡ 16 + 16 * length p.actions + length p.payload
unfolding packet_out_body two four zeros
packet_out_size p = omega (arith, length-append (actions_of p.actions) p.payload, actions_size p.actions)

pub flow_mod_size : (c : FlowMod) → length (flow_mod_body c) ≡ 40 + match_size c.matching + instruction_size c.actions
unfolding flow_mod_body flow_mod_cookies flow_mod_times flow_mod_filter one two four eight zeros
flow_mod_size c = omega (arith, length-append (canonical_match c.matching) (instruction_of c.actions), has_size c.matching, instruction_has_size c.actions)

pub error_size : (kind code : ℕ) (head : List ℕ) → length (error_body kind code head) ≡ 4 + length head
unfolding error_body two
error_size kind code head = omega arith

features_size : (datapath : ℕ) → length (features_body datapath) ≡ 24
unfolding features_body one eight zeros
features_size datapath = refl

role_size : (role generation : ℕ) → length (role_body role generation) ≡ 16
unfolding role_body four eight zeros
role_size role generation = refl

body_size : (m : OfMessage) → 8 + length (plain_body m) ≡ plain_size m
body_size plain.Hello = refl
body_size (plain.Error kind code head) = omega (arith, error_size kind code head)
body_size (plain.EchoRequest body) = refl
body_size (plain.EchoReply body) = refl
body_size (plain.Experimenter body) = refl
body_size plain.FeaturesRequest = refl
body_size (plain.FeaturesReply datapath) = omega (arith, features_size datapath)
body_size (plain.PacketIn p) = omega (arith, packet_in_size p)
body_size (plain.FlowRemoved r) = omega (arith, flow_removed_size r)
body_size (plain.PortStatus p) = omega (arith, port_status_size p)
body_size (plain.PacketOut p) = omega (arith, packet_out_size p)
body_size (plain.FlowMod c) = omega (arith, flow_mod_size c)
body_size plain.BarrierRequest = refl
body_size plain.BarrierReply = refl
body_size (plain.RoleRequest role generation) = omega (arith, role_size role generation)
body_size (plain.RoleReply role generation) = omega (arith, role_size role generation)

framed_size : (kind xid : ℕ) (body : List ℕ) → length (framed kind xid body) ≡ 8 + length body
unfolding framed one two four
framed_size kind xid body = omega arith

pub message_size : (xid : ℕ) (m : OfMessage) → length (canonical xid m) ≡ plain_size m
unfolding canonical
message_size xid m = framed_size (plain_type m) xid (plain_body m) ∙ body_size m

-- ---- the message

body_spelled : (m : OfMessage) → IsValidPlain m → FitsPlain m → plain_size m ≤ 65535 → SpellsBody (plain_body m) m
body_spelled plain.Hello v f short = tt
body_spelled (plain.Error kind code head) v f short = error_spelled kind code head f.0 f.1
body_spelled (plain.EchoRequest body) v f short = refl
body_spelled (plain.EchoReply body) v f short = refl
body_spelled (plain.Experimenter body) v f short = record { there = v; said_is = refl }
body_spelled plain.FeaturesRequest v f short = refl
body_spelled (plain.FeaturesReply datapath) v f short = features_spelled datapath f
body_spelled (plain.PacketIn p) v f short = packet_in_spelled p f
body_spelled (plain.FlowRemoved r) v f short = flow_removed_spelled r v f
body_spelled (plain.PortStatus p) v f short = port_status_spelled p f
body_spelled (plain.PacketOut p) v f short = packet_out_spelled p f (omega (arith, actions_size p.actions))
body_spelled (plain.FlowMod c) v f short = flow_mod_spelled c v f (omega arith)
body_spelled plain.BarrierRequest v f short = refl
body_spelled plain.BarrierReply v f short = refl
body_spelled (plain.RoleRequest role generation) v f short = role_spelled role generation f.0 f.1
body_spelled (plain.RoleReply role generation) v f short = role_spelled role generation f.0 f.1

type_fits : (m : OfMessage) → plain_type m < 2 ^ 8
type_fits plain.Hello = lit< tt
type_fits (plain.Error kind code head) = lit< tt
type_fits (plain.EchoRequest body) = lit< tt
type_fits (plain.EchoReply body) = lit< tt
type_fits (plain.Experimenter body) = lit< tt
type_fits plain.FeaturesRequest = lit< tt
type_fits (plain.FeaturesReply datapath) = lit< tt
type_fits (plain.PacketIn p) = lit< tt
type_fits (plain.FlowRemoved r) = lit< tt
type_fits (plain.PortStatus p) = lit< tt
type_fits (plain.PacketOut p) = lit< tt
type_fits (plain.FlowMod c) = lit< tt
type_fits plain.BarrierRequest = lit< tt
type_fits plain.BarrierReply = lit< tt
type_fits (plain.RoleRequest role generation) = lit< tt
type_fits (plain.RoleReply role generation) = lit< tt

framed_spelled : (kind xid : ℕ) (body : List ℕ) (m : OfMessage) → kind ≡ plain_type m → kind < 2 ^ 8 → 8 + length body < 2 ^ 16 → xid < 2 ^ 32 → SpellsBody body m → Spells (framed kind xid body) xid m
unfolding framed one two four
framed_spelled kind xid body m is fits short x spelled = record {
  there = omega arith;
  version_is = refl;
  kind_is = number_bytes 1 kind [] fits ∙ is;
  length_is = number_bytes 2 (8 + length body) [] short ∙ omega arith;
  xid_is = number_bytes 4 xid [] x;
  body = spelled;
}

pub message_spelled : (xid : ℕ) (m : OfMessage) → IsValidPlain m → FitsPlain m → plain_size m ≤ 65535 → xid < 2 ^ 32 → Spells (canonical xid m) xid m
unfolding canonical
message_spelled xid m v f short x =
    framed_spelled (plain_type m) xid (plain_body m) m refl (type_fits m) (omega (arith, body_size m)) x (body_spelled m v f short)

framed_xid : (kind xid : ℕ) (body : List ℕ) → xid < 2 ^ 32 → xid_of (framed kind xid body) ≡ xid
unfolding framed one two four
framed_xid kind xid body x = xid_there _ xid (omega arith) (number_bytes 4 xid [] x)

-- what is written has the number of the request
pub message_xid : (xid : ℕ) (m : OfMessage) → xid < 2 ^ 32 → xid_of (canonical xid m) ≡ xid
unfolding canonical
message_xid xid m x = framed_xid (plain_type m) xid (plain_body m) x
