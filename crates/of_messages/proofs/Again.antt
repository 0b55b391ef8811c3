-- What is spelled is read.
use Rattle.std.proofs.Common.{◌≡◌, ℕ, ◌-◌, ◌≤◌, inl, inr, false, ltb, List, [], ◌∷◌, ◌++◌, length, take, drop, Some, Ok, refl, sym, ap, ◌∙◌, append_assoc, arith, eq-eqb}
use Rattle.std.proofs.lemmas.Bool.{le-ltb, le-leb, ne_eqb}
use Rattle.std.proofs.lemmas.List.{append-nil, length-append, length-drop, drop_all, drop_at, take_at, take_all}
use Rattle.of_bytes.specs.Numbers.{number}
use Rattle.of_bytes.specs.Reading.{◌>>=◌}
use Rattle.of_match.specs.Reading as matches
use Rattle.of_match.specs.Spelling.{IsSpelled}
use Rattle.of_match.proofs.Laws.{spelled_read}
use Rattle.of_types.specs.declared.message.FlowCommand.{FlowCommand}
use Rattle.of_types.specs.declared.message.FlowCommand.TheVariants.{Add, Modify, ModifyStrict, Delete, DeleteStrict}
use Rattle.of_types.specs.declared.message.FlowMod.{FlowMod}
use Rattle.of_types.specs.declared.message.FlowRemoved.{FlowRemoved}
use Rattle.of_types.specs.declared.message.Match.{Match}
use Rattle.of_types.specs.declared.message.OfMessage.{OfMessage}
use Rattle.of_types.specs.declared.message.OfMessage.TheVariants as plain
use Rattle.of_types.specs.declared.message.PacketIn.{PacketIn}
use Rattle.of_types.specs.declared.message.PacketOut.{PacketOut}
use Rattle.of_types.specs.declared.message.PortStatus.{PortStatus}
use Rattle.of_messages.specs.Canonical.{plain_type, command_number}
use Rattle.of_messages.specs.Grammar.{IsOutput, SpellsActions, IsApply, SpellsInstructions, IsError, IsExperimenter, IsFeaturesReply, IsPacketIn, IsFlowRemovedFront, IsFlowRemoved, IsPortStatus, IsPacketOut, IsFlowModFront, IsFlowMod, IsRole, SpellsBody, Spells}
use Rattle.of_messages.specs.Reading.{output_at, outputs_at, actions_at, instruction_length_at, instruction_at, second_at, instructions_at, error_at, experimenter_at, empty_at, features_at, port_and_frame_at, packet_in_at, only_match_at, flow_removed_of, flow_removed_at, port_status_at, packet_out_at, flow_command_of, command_at, match_and_actions_at, flow_mod_of, flow_mod_behind, flow_mod_at, role_at, body_at, message_at, xid_of}
use Rattle.of_messages.proofs.Ports.{turn, no_more}

-- ---- actions and instructions

output_again : (bytes : List ℕ) (port : ℕ) → IsOutput bytes port → output_at bytes ≡ Ok port
unfolding output_at
output_again bytes port o =
    let there = o.there in
    rw (le-ltb (length bytes) 4 (omega arith), o.length_is, le-ltb (length bytes) 16 there, o.kind_is, o.port_is) refl

outputs_again : (ports : List ℕ) (count : ℕ) (before bytes : List ℕ) → length bytes ≤ count → SpellsActions bytes ports → outputs_at count before bytes ≡ Ok (before ++ ports)
outputs_again [] count before bytes enough e =
    no_more count before bytes (ap length e) ∙ ap (λ (x : List ℕ). Ok x) (sym (append-nil before))
outputs_again (port ∷ ports) count before bytes enough s =
    let there = s.0.there in
    let t = turn count before bytes (omega arith) enough in
    let goes : (output_at bytes >>= λ port. outputs_at t.0 (before ++ port ∷ []) (drop 16 bytes)) ≡ outputs_at t.0 (before ++ port ∷ []) (drop 16 bytes) = rw (output_again bytes port s.0) refl in
    let more = outputs_again ports t.0 (before ++ port ∷ []) (drop 16 bytes) (omega (arith, t.1, length-drop 16 bytes)) s.1 in
    t.2 ∙ goes ∙ more ∙ ap (λ (x : List ℕ). Ok x) (append_assoc before (port ∷ []) ports)

pub actions_again : (bytes ports : List ℕ) → SpellsActions bytes ports → actions_at bytes ≡ Ok ports
unfolding actions_at
actions_again bytes ports s = outputs_again ports (length bytes) [] bytes (omega arith) s

instruction_again : (bytes ports : List ℕ) → IsApply bytes ports → instruction_at bytes ≡ Ok (drop 8 bytes, [])
unfolding instruction_at instruction_length_at
instruction_again bytes ports a =
    let there = a.there in
    let whole : take (length bytes - 8) (drop 8 bytes) ≡ drop 8 bytes = take_all (length bytes - 8) (drop 8 bytes) (omega (arith, length-drop 8 bytes)) in
    rw (le-ltb (length bytes) 4 (omega arith), a.length_is, le-ltb (length bytes) 8 there, le-ltb (length bytes) (length bytes) (omega arith), a.kind_is, whole, drop_all (length bytes) bytes (omega arith)) refl

instructions_again : (bytes ports : List ℕ) → SpellsInstructions bytes ports → instructions_at bytes ≡ Ok ports
unfolding instructions_at second_at
instructions_again bytes ports (inl none) = rw (none.0, none.1) refl
instructions_again bytes ports (inr a) =
    let there = a.there in
    rw (ne_eqb (length bytes) 0 (λ e. omega arith), instruction_again bytes ports a, actions_again (drop 8 bytes) ports a.actions) refl

-- ---- bodies

error_again : (body : List ℕ) (kind code : ℕ) (head : List ℕ) → IsError body kind code head → error_at body ≡ Ok (plain.Error kind code head)
unfolding error_at
error_again body kind code head s = rw (le-ltb (length body) 4 s.there, s.kind_is, s.code_is, s.head_is) refl

experimenter_again : (body said : List ℕ) → IsExperimenter body said → experimenter_at body ≡ Ok (plain.Experimenter said)
unfolding experimenter_at
experimenter_again body said s = rw (le-ltb (length body) 8 s.there, s.said_is) refl

empty_again : (m : OfMessage) (body : List ℕ) → body ≡ [] → empty_at m body ≡ Ok m
unfolding empty_at
empty_again m body e = rw e refl

features_again : (body : List ℕ) (datapath : ℕ) → IsFeaturesReply body datapath → features_at body ≡ Ok (plain.FeaturesReply datapath)
unfolding features_at
features_again body datapath s = rw (s.whole, s.datapath_is) refl

port_again : (bytes text padding payload : List ℕ) (m : Match) (port : ℕ) → bytes ≡ text ++ (padding ++ payload) → IsSpelled text m → m.in_port ≡ Some port → length padding ≡ 2
    → port_and_frame_at bytes ≡ Ok (port, payload)
unfolding port_and_frame_at
port_again bytes text padding payload m port e spelled has two =
    let read : matches.match_at bytes ≡ Ok (m, length text) = spelled_read bytes text (padding ++ payload) m e spelled in
    let behind : drop (length text) bytes ≡ padding ++ payload = ap (drop (length text)) e ∙ drop_at text (padding ++ payload) (length text) refl in
    let long : ltb (length (padding ++ payload)) 2 ≡ false = le-ltb (length (padding ++ payload)) 2 (omega (arith, length-append padding payload)) in
    rw (read, behind, long, has, drop_at padding payload 2 two) refl

packet_in_again : (body : List ℕ) (p : PacketIn) → IsPacketIn body p → packet_in_at body ≡ Ok p
unfolding packet_in_at
packet_in_again body p s =
    let behind = port_again (drop 16 body) s.text s.padding p.payload s.matching p.in_port s.rest_is s.spelled s.port_is s.padding_is in
    rw (le-ltb (length body) 16 s.there, behind, s.reason_is, s.cookie_is) refl

only_match_again : (bytes : List ℕ) (m : Match) → IsSpelled bytes m → only_match_at bytes ≡ Ok m
unfolding only_match_at
only_match_again bytes m spelled =
    let read : matches.match_at bytes ≡ Ok (m, length bytes) = spelled_read bytes bytes [] m (sym (append-nil bytes)) spelled in
    rw (read, drop_all (length bytes) bytes (omega arith)) refl

removed_front_again : (body : List ℕ) (r : FlowRemoved) → IsFlowRemovedFront body r → flow_removed_of body r.matching ≡ r
unfolding flow_removed_of
removed_front_again body r f =
    rw (f.cookie_is, f.priority_is, f.reason_is, f.duration_is, f.idle_is, f.hard_is, f.packets_is, f.octets_is) refl

flow_removed_again : (body : List ℕ) (r : FlowRemoved) → IsFlowRemoved body r → flow_removed_at body ≡ Ok r
unfolding flow_removed_at
flow_removed_again body r s =
    let known : ltb 3 (number 1 10 body) ≡ false = le-ltb 3 (number 1 10 body) (omega (arith, s.front.reason_is, s.front.reason_known)) in
    rw (le-ltb (length body) 40 s.front.there, known, only_match_again (drop 40 body) r.matching s.spelled) (ap (λ (x : FlowRemoved). Ok x) (removed_front_again body r s.front))

port_status_again : (body : List ℕ) (p : PortStatus) → IsPortStatus body p → port_status_at body ≡ Ok p
unfolding port_status_at
port_status_again body p s = rw (s.whole, s.reason_is, s.port_is, s.up_is) refl

packet_out_again : (body : List ℕ) (p : PacketOut) → IsPacketOut body p → packet_out_at body ≡ Ok p
unfolding packet_out_at
packet_out_again body p s =
    let long : ltb (length (s.text ++ p.payload)) (length s.text) ≡ false = le-ltb (length (s.text ++ p.payload)) (length s.text) (omega (arith, length-append s.text p.payload)) in
    let read = actions_again s.text p.actions s.actions in
    rw (le-ltb (length body) 16 s.there, s.rest_is, s.length_is, long, take_at s.text p.payload (length s.text) refl, drop_at s.text p.payload (length s.text) refl, read, s.buffer_is, s.in_port_is) refl

command_again : (command : FlowCommand) → flow_command_of (command_number command) ≡ Ok command
unfolding command_number flow_command_of
command_again Add = refl
command_again Modify = refl
command_again ModifyStrict = refl
command_again Delete = refl
command_again DeleteStrict = refl

match_and_actions_again : (bytes text rest ports : List ℕ) (m : Match) → bytes ≡ text ++ rest → IsSpelled text m → SpellsInstructions rest ports → match_and_actions_at bytes ≡ Ok (m, ports)
unfolding match_and_actions_at
match_and_actions_again bytes text rest ports m e spelled applies =
    let read : matches.match_at bytes ≡ Ok (m, length text) = spelled_read bytes text rest m e spelled in
    let behind : drop (length text) bytes ≡ rest = ap (drop (length text)) e ∙ drop_at text rest (length text) refl in
    rw (read, behind, instructions_again rest ports applies) refl

front_again : (body : List ℕ) (c : FlowMod) → IsFlowModFront body c → flow_mod_of body c.command c.matching c.actions ≡ c
unfolding flow_mod_of
front_again body c f =
    rw (f.cookie_is, f.cookie_mask_is, f.table_is, f.idle_is, f.hard_is, f.priority_is, f.buffer_is, f.out_port_is, f.out_group_is, f.flags_is) refl

flow_mod_again : (body : List ℕ) (c : FlowMod) → IsFlowMod body c → flow_mod_at body ≡ Ok c
unfolding flow_mod_at flow_mod_behind command_at
flow_mod_again body c s =
    let command : command_at body ≡ Ok c.command = ap flow_command_of s.front.command_is ∙ command_again c.command in
    let behind = match_and_actions_again (drop 40 body) s.text s.instructions c.actions c.matching s.rest_is s.spelled s.applies in
    rw (le-ltb (length body) 40 s.front.there, command, behind) (ap (λ (x : FlowMod). Ok x) (front_again body c s.front))

role_again : (body : List ℕ) (role generation : ℕ) → IsRole body role generation → role_at body ≡ Ok (role, generation)
unfolding role_at
role_again body role generation s = rw (s.whole, s.role_is, s.generation_is) refl

body_again : (m : OfMessage) (body : List ℕ) → SpellsBody body m → body_at (plain_type m) body ≡ Ok m
unfolding body_at
body_again plain.Hello body s = refl
body_again (plain.Error kind code head) body s = error_again body kind code head s
body_again (plain.EchoRequest said) body s = rw s refl
body_again (plain.EchoReply said) body s = rw s refl
body_again (plain.Experimenter said) body s = experimenter_again body said s
body_again plain.FeaturesRequest body s = empty_again plain.FeaturesRequest body s
body_again (plain.FeaturesReply datapath) body s = features_again body datapath s
body_again (plain.PacketIn p) body s = rw (packet_in_again body p s) refl
body_again (plain.FlowRemoved r) body s = rw (flow_removed_again body r s) refl
body_again (plain.PortStatus p) body s = rw (port_status_again body p s) refl
body_again (plain.PacketOut p) body s = rw (packet_out_again body p s) refl
body_again (plain.FlowMod c) body s = rw (flow_mod_again body c s) refl
body_again plain.BarrierRequest body s = empty_again plain.BarrierRequest body s
body_again plain.BarrierReply body s = empty_again plain.BarrierReply body s
body_again (plain.RoleRequest role generation) body s = rw (role_again body role generation s) refl
body_again (plain.RoleReply role generation) body s = rw (role_again body role generation s) refl

pub message_again : (bytes : List ℕ) (xid : ℕ) (m : OfMessage) → Spells bytes xid m → message_at bytes ≡ Ok m
unfolding message_at
message_again bytes xid m s =
    let there = s.there in
    rw (le-leb 1 (length bytes) (omega arith), s.version_is, le-ltb (length bytes) 8 there, s.length_is, eq-eqb (length bytes) (length bytes) refl, s.kind_is) (body_again m (drop 8 bytes) s.body)

-- the number stands where there is a header
pub xid_there : (bytes : List ℕ) (xid : ℕ) → 8 ≤ length bytes → number 4 4 bytes ≡ xid → xid_of bytes ≡ xid
unfolding xid_of
xid_there bytes xid there is = rw (le-ltb (length bytes) 8 there) is

pub xid_again : (bytes : List ℕ) (xid : ℕ) (m : OfMessage) → Spells bytes xid m → xid_of bytes ≡ xid
xid_again bytes xid m s = xid_there bytes xid s.there s.xid_is
