-- The rows of a rule meet exactly the frames that it denies.
use Rattle.std.proofs.Common.{add-zero, ◌≡◌, inl, inr, nat_le, zero, suc, ℕ, ◌+◌, ◌-◌, ◌%◌, ◌^◌, ◌==◌, [], ◌∷◌, Bool, true, false, nat_eq, ◌&&◌, List, length, drop, Option, Some, None, refl, sym, ap, subst, ◌∙◌, arith}
use Rattle.std.specs.Prelude.{bit_and, Contains, slice_index, if◌then◌else◌}
use Rattle.std.specs.Option.{option_or}
use Rattle.std.proofs.lemmas.Bool.{cases_Bool, eqb-true}
use Rattle.std.proofs.lemmas.List.{get_or-drop}
use Rattle.std.proofs.lemmas.Nat.{and_le_r}
use Rattle.byteorder.specs.Endian.{big_number}
use Rattle.std.proofs.lemmas.Nat.Bits.{and_high_mask_twice}
use Rattle.of_types.specs.declared.numbers.TheConstants.{IPV4, TCP, UDP}
use Rattle.of_types.specs.declared.setup.Prefix.{Prefix}
use Rattle.of_types.specs.declared.setup.Rule.{Rule}
use Rattle.of_types.specs.Header.{fields_of, has_ipv4, has_ports, number_within, transport_place}
use Rattle.of_types.specs.Matching.{matches, has_value, has_address32}
use Rattle.of_types.specs.Setups.{IsRule}
use Rattle.app_core.specs.Firewall.{is_prefix_within, prefix_mask, matched_prefix, asked_protocol, asked_port, destination_port, denied_match, denies}

mask_again : (n bits : ℕ) → bit_and (bit_and n (prefix_mask bits)) (prefix_mask bits) ≡ bit_and n (prefix_mask bits)
mask_again n bits = and_high_mask_twice 32 (32 - bits) (omega arith) n (32 - bits) (omega arith)

no_mask : (n : ℕ) → bit_and n 0 ≡ 0
no_mask n = let few = and_le_r n 0 in omega (arith, few)

-- a prefix, as a match has it, asks what the rule asks
any_asks : (p : Prefix) (found : Option ℕ) → p.length ≡ 0 → is_prefix_within p found ≡ true
any_asks p None e = rw e refl
any_asks p (Some address) e = rw (e, no_mask address, no_mask p.address) refl

some_asks : (p : Prefix) (found : Option ℕ) → nat_eq p.length 0 ≡ false →
    has_address32 (Some (record { value = bit_and p.address (prefix_mask p.length); mask = prefix_mask p.length })) found ≡ is_prefix_within p found
some_asks p None e = sym e
some_asks p (Some address) e = ap (λ n. nat_eq (bit_and address (prefix_mask p.length)) n) (mask_again p.address p.length)

prefix_asks : (p : Prefix) (found : Option ℕ) → has_address32 (matched_prefix p) found ≡ is_prefix_within p found
prefix_asks p found =
    elim (cases_Bool (nat_eq p.length 0)) [
      | inl any ↦ rw any (sym (any_asks p found (eqb-true p.length 0 any)))
      | inr some ↦ rw some (some_asks p found some)
    ]

-- the byte that a number of one byte is
value_is : (header within : Bool) (asked n : ℕ) → has_value (Some asked) (if header then (if within then Some n else None) else None) ≡ true → n ≡ asked
value_is true true asked n e = eqb-true n asked e
value_is true false asked n e = absurd cc
value_is false within asked n e = absurd cc

byte_is : (frame : List ℕ) (place : ℕ) → big_number 1 (drop place frame) ≡ slice_index frame place
byte_is frame place = let byte : slice_index (drop place frame) 0 ≡ slice_index frame place = get_or-drop place frame 0 0 ∙ ap (λ i. slice_index frame i) (add-zero place) in omega (arith, byte)

never : (a b c d : Bool) → b ≡ false → (a && b && c && d) ≡ false
never true b c d e = rw e refl
never false b c d e = refl

-- a frame of one protocol has no port of the other one
no_other_port : (protocol other place : ℕ) (frame : List ℕ) → nat_eq protocol other ≡ false → has_value (Some protocol) (number_within (has_ipv4 frame) 1 23 frame) ≡ true →
    number_within (has_ports other frame) 2 place frame ≡ None
no_other_port protocol other place frame apart is =
    let byte : slice_index frame 23 ≡ protocol = sym (byte_is frame 23) ∙ value_is (has_ipv4 frame) (nat_le (23 + 1) (length frame)) protocol (big_number 1 (drop 23 frame)) is in
    let none : has_ports other frame ≡ false =
    never (has_ipv4 frame) (slice_index frame 23 == other) (big_number 2 (drop 20 frame) % 2 ^ 13 == 0) (nat_le (transport_place frame + 4) (length frame))
    (ap (λ n. nat_eq n other) byte ∙ apart) in
    rw none refl

-- a rule asks for the port of its protocol's header
or_none : (found : Option ℕ) → option_or found None ≡ found
or_none None = refl
or_none (Some port) = refl

and_true : (b : Bool) → (b && true) ≡ b
and_true true = refl
and_true false = refl

port_asks : (rule : Rule) (frame : List ℕ) → IsRule rule → has_value (asked_protocol rule) (fields_of frame).ip_proto ≡ true →
    (has_value (asked_port TCP rule) (fields_of frame).tcp_dst && has_value (asked_port UDP rule) (fields_of frame).udp_dst) ≡ has_value rule.port (destination_port (fields_of frame))
port_asks rule frame is protocol = by_protocol is.proto
  where
    tcp : Option ℕ
    tcp = (fields_of frame).tcp_dst

    udp : Option ℕ
    udp = (fields_of frame).udp_dst

    by_protocol : Contains (0 ∷ 6 ∷ 17 ∷ []) rule.proto →
        (has_value (asked_port TCP rule) (fields_of frame).tcp_dst && has_value (asked_port UDP rule) (fields_of frame).udp_dst) ≡ has_value rule.port (destination_port (fields_of frame))
    by_protocol (zero, below, e) = rw (sym e, is.portless (sym e)) refl
    by_protocol (suc zero, below, e) =
        let none = no_other_port 6 UDP (transport_place frame + 2) frame refl (subst (λ p. has_value (if nat_eq p 0 then None else Some p) (fields_of frame).ip_proto ≡ true) (sym e) protocol) in
        rw (sym e, none, or_none (fields_of frame).tcp_dst) (and_true (has_value rule.port (fields_of frame).tcp_dst))
    by_protocol (suc (suc zero), below, e) =
        let none = no_other_port 17 TCP (transport_place frame + 2) frame refl (subst (λ p. has_value (if nat_eq p 0 then None else Some p) (fields_of frame).ip_proto ≡ true) (sym e) protocol) in
        rw (sym e, none) refl
    by_protocol (suc (suc (suc k)), below, e) = absurd (omega (arith, below))

-- the tests in the order of the rule
in_order : (type_is protocol source destination tcp udp : Bool) →
    (type_is && protocol && source && destination && true && tcp && true && udp) ≡ (type_is && protocol && source && destination && (tcp && udp))
in_order true true true true true udp = refl
in_order true true true true false udp = refl
in_order true true true false tcp udp = refl
in_order true true false destination tcp udp = refl
in_order true false source destination tcp udp = refl
in_order false protocol source destination tcp udp = refl

last_if : (type_is protocol source destination x y : Bool) → (protocol ≡ true → x ≡ y) →
    (type_is && protocol && source && destination && x) ≡ (type_is && protocol && source && destination && y)
last_if type_is true source destination x y same = ap (λ b. type_is && true && source && destination && b) (same refl)
last_if true false source destination x y same = refl
last_if false false source destination x y same = refl

pub row_meets : (rule : Rule) (frame : List ℕ) → IsRule rule → matches (denied_match rule) (fields_of frame) ≡ denies (fields_of frame) rule
row_meets rule frame is =
    let f = fields_of frame in
    let type_is = has_value (Some IPV4) f.eth_type in
    let protocol = has_value (asked_protocol rule) f.ip_proto in
    let tcp = has_value (asked_port TCP rule) f.tcp_dst in
    let udp = has_value (asked_port UDP rule) f.udp_dst in
    in_order type_is protocol (has_address32 (matched_prefix rule.src) f.ipv4_src) (has_address32 (matched_prefix rule.dst) f.ipv4_dst) tcp udp
    ∙ ap (λ b. type_is && protocol && b && has_address32 (matched_prefix rule.dst) f.ipv4_dst && (tcp && udp)) (prefix_asks rule.src f.ipv4_src)
    ∙ ap (λ b. type_is && protocol && is_prefix_within rule.src f.ipv4_src && b && (tcp && udp)) (prefix_asks rule.dst f.ipv4_dst)
    ∙ last_if type_is protocol (is_prefix_within rule.src f.ipv4_src) (is_prefix_within rule.dst f.ipv4_dst) (tcp && udp) (has_value rule.port (destination_port f)) (port_asks rule frame is)
