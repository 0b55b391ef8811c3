-- Each block has a length that is a multiple of four, and that four bytes tell.
use Rattle.std.proofs.Common.{◌≡◌, ◌≤◌, ◌%◌, ◌/◌, ℕ, ◌+◌, ◌-◌, min, List, [], ◌∷◌, ◌++◌, length, refl, sym, ap, ◌∙◌, append_assoc, arith, length-append}
use Rattle.std.proofs.lemmas.List.{length-take, length-replicate}
use Rattle.std.specs.Prelude.{codes, replicate}
use Rattle.of_bytes.specs.Numbers.{two, four, eight, zeros}
use Rattle.capture_laws.specs.declared.shapes.Captured.{Captured}
use Rattle.capture_laws.specs.declared.shapes.Port.{Port}
use Rattle.capture_laws.specs.Blocks.{IsBlock, block, comment_option, cut, interface_block, interface_body, most_shown, option, option_of, packet_block, packet_body, padded_block, block_padding, section_block, section_body}
use Rattle.capture_laws.specs.File.{AreBlocks, blocks_of, interfaces_in, packets_in}
use Rattle.capture_laws.specs.Frames.{frame_of}
use Rattle.capture_laws.specs.Interfaces.{capture_of, head, interface_of, interfaces, packet, packets_of, port_name}

-- a multiple of four bytes, and at most so many
record IsSized (bytes : List ℕ) (most : ℕ) : Type 0 where
  even : length bytes % 4 ≡ 0
  small : length bytes ≤ most

even-add : (a b : ℕ) → a % 4 ≡ 0 → b % 4 ≡ 0 → (a + b) % 4 ≡ 0
even-add a b p q = omega (arith, p, q)

even-pad : (n : ℕ) → (n + (4 - n % 4) % 4) % 4 ≡ 0
even-pad n = omega arith

sized-append : (xs ys : List ℕ) (a b : ℕ) → IsSized xs a → IsSized ys b → IsSized (xs ++ ys) (a + b)
sized-append xs ys a b p q =
    record {
      even = rw (length-append xs ys) (even-add (length xs) (length ys) p.even q.even);
      small = rw (length-append xs ys) (omega (arith, p.small, q.small));
    }

sized_four : (n : ℕ) → IsSized (four n) 4
unfolding four
sized_four n = record { even = refl; small = omega arith }

sized_eight : (n : ℕ) → IsSized (eight n) 8
unfolding eight
sized_eight n = record { even = refl; small = omega arith }

sized_twos : (a b : ℕ) → IsSized (two a ++ two b) 4
unfolding two
sized_twos a b = record { even = refl; small = omega arith }

length-padded : (xs : List ℕ) → length (padded_block xs) ≡ length xs + (4 - length xs % 4) % 4
unfolding padded_block block_padding zeros
length-padded xs = length-append xs (replicate ((4 - length xs % 4) % 4) 0) ∙ rw (length-replicate {A = ℕ} ((4 - length xs % 4) % 4) 0) refl

sized_padded : (xs : List ℕ) (most : ℕ) → length xs ≤ most → IsSized (padded_block xs) (most + 3)
sized_padded xs most h =
    record {
      even = rw (length-padded xs) (even-pad (length xs));
      small = rw (length-padded xs) (omega (arith, h));
    }

length-option : (code : ℕ) (xs : List ℕ) → length (option_of code xs) ≡ 4 + length (padded_block xs)
unfolding option_of two
length-option code xs = omega arith

sized_option_of : (code : ℕ) (xs : List ℕ) → length xs ≤ 65535 → IsSized (option_of code xs) 65542
sized_option_of code xs h =
    let p = sized_padded xs 65535 h in
    record {
      even = rw (length-option code xs) (even-add 4 (length (padded_block xs)) refl p.even);
      small = rw (length-option code xs) (omega (arith, p.small));
    }

sized_option : (code : ℕ) (xs : List ℕ) → IsSized (option code xs) 65542
sized_option code xs = sized_option_of code (cut 65535 xs) (rw (length-take (min (length xs) 65535) xs) (omega arith))

sized_section : IsSized section_body 65600
sized_section =
    let front = sized-append (four 0x1A2B3C4D) (two 1 ++ two 0) 4 4 (sized_four 0x1A2B3C4D) (sized_twos 1 0) in
    let told = sized-append (option 4 (codes "run_pcap")) (four 0) 65542 4 (sized_option 4 (codes "run_pcap")) (sized_four 0) in
    let rest = sized-append (eight 18446744073709551615) (option 4 (codes "run_pcap") ++ four 0) 8 65546 (sized_eight 18446744073709551615) told in
    let all = sized-append (four 0x1A2B3C4D ++ (two 1 ++ two 0)) (eight 18446744073709551615 ++ (option 4 (codes "run_pcap") ++ four 0)) 8 65554 front rest in
    record { even = all.even; small = omega (arith, all.small) }

sized_link : IsSized (two 1 ++ (two 0 ++ four 0)) 8
unfolding two four
sized_link = record { even = refl; small = omega arith }

sized_interface : (name : List ℕ) → IsSized (interface_body name) 131200
sized_interface name =
    let clock = sized-append (option 9 (3 ∷ [])) (four 0) 65542 4 (sized_option 9 (3 ∷ [])) (sized_four 0) in
    let rest = sized-append (option 2 name) (option 9 (3 ∷ []) ++ four 0) 65542 65546 (sized_option 2 name) clock in
    let all = sized-append (two 1 ++ (two 0 ++ four 0)) (option 2 name ++ (option 9 (3 ∷ []) ++ four 0)) 8 131088 sized_link rest in
    record { even = all.even; small = omega (arith, all.small) }

sized_comment : (comment : List ℕ) → IsSized (comment_option comment) 65546
unfolding comment_option
sized_comment [] = record { even = refl; small = omega arith }
sized_comment (c ∷ comment) = sized-append (option 1 (c ∷ comment)) (four 0) 65542 4 (sized_option 1 (c ∷ comment)) (sized_four 0)

sized_packet : (interface time : ℕ) (comment bytes : List ℕ) → IsSized (packet_body interface time comment bytes) 330000
sized_packet interface time comment bytes =
    let shown : List ℕ = cut most_shown bytes in
    let moment = sized-append (four (time / 4294967296)) (four time) 4 4 (sized_four (time / 4294967296)) (sized_four time) in
    let front = sized-append (four interface) (four (time / 4294967296) ++ four time) 4 8 (sized_four interface) moment in
    let data_ = sized_padded shown 262144 (rw (length-take (min (length bytes) most_shown) bytes) (omega arith)) in
    let told = sized-append (padded_block shown) (comment_option comment) 262147 65546 data_ (sized_comment comment) in
    let lengths = sized-append (four (length bytes)) (padded_block shown ++ comment_option comment) 4 327693 (sized_four (length bytes)) told in
    let rest = sized-append (four (length shown)) (four (length bytes) ++ (padded_block shown ++ comment_option comment)) 4 327697 (sized_four (length shown)) lengths in
    let all = sized-append (four interface ++ (four (time / 4294967296) ++ four time)) (four (length shown) ++ (four (length bytes) ++ (padded_block shown ++ comment_option comment))) 12 327701 front rest in
    record { even = all.even; small = omega (arith, all.small) }

long : (n : ℕ) → length (four n) ≡ 4
unfolding four
long n = refl

length-block : (kind : ℕ) (body : List ℕ) → length (block kind body) ≡ 12 + length body
unfolding block
length-block kind body =
    length-append (four kind) (four (12 + length body) ++ (body ++ four (12 + length body)))
    ∙ rw (length-append (four (12 + length body)) (body ++ four (12 + length body)), length-append body (four (12 + length body)), long kind, long (12 + length body)) (omega arith)

opened : (kind : ℕ) (body : List ℕ) → block kind body ≡ four kind ++ (four (12 + length body) ++ (body ++ four (12 + length body)))
unfolding block
opened kind body = refl

is_block : (kind : ℕ) (body : List ℕ) (most : ℕ) → IsSized body most → most ≤ 1000000 → IsBlock kind body (block kind body)
is_block kind body most h small =
    record {
      spelled = opened kind body ∙ ap (λ (n : ℕ). four kind ++ (four n ++ (body ++ four n))) (sym (length-block kind body));
      even = rw (length-block kind body) (even-add 12 (length body) refl h.even);
      small = rw (length-block kind body) (omega (arith, h.small, small));
    }

are_packets : (ports : List Port) (packets : List Captured) → AreBlocks (packets_in ports packets) (packets_of ports packets)
unfolding packets_in packets_of packet packet_block
are_packets ports [] = refl
are_packets ports (p ∷ packets) =
    let body = packet_body (interface_of ports p.way) p.time p.comment (frame_of p.way p.payload) in
    (block 6 body, packets_of ports packets, is_block 6 body 330000 (sized_packet (interface_of ports p.way) p.time p.comment (frame_of p.way p.payload)) (omega arith), refl, are_packets ports packets)

are_interfaces : (ports all : List Port) (packets : List Captured) → AreBlocks (interfaces_in ports (packets_in all packets)) (interfaces ports ++ packets_of all packets)
unfolding interfaces_in interfaces interface_block
are_interfaces [] all packets = are_packets all packets
are_interfaces (p ∷ ports) all packets = (
  interface_block (port_name p),
  interfaces ports ++ packets_of all packets,
  is_block 1 (interface_body (port_name p)) 131200 (sized_interface (port_name p)) (omega arith),
  append_assoc (interface_block (port_name p)) (interfaces ports) (packets_of all packets),
  are_interfaces ports all packets,
)

pub are_blocks : (ports : List Port) (packets : List Captured) → AreBlocks (blocks_of ports packets) (capture_of ports packets)
unfolding capture_of head section_block interface_block
are_blocks ports packets =
    let rest : List ℕ = interfaces ports ++ packets_of ports packets in
    let control : List ℕ = interface_block (codes "control") in
    let members : List ℕ = interface_block (codes "controllers") in (
      section_block,
      control ++ (members ++ rest),
      is_block 0x0A0D0D0A section_body 65600 sized_section (omega arith),
      append_assoc section_block (control ++ members) rest ∙ ap (λ (l : List ℕ). section_block ++ l) (append_assoc control members rest),
      (
        control,
        members ++ rest,
        is_block 1 (interface_body (codes "control")) 131200 (sized_interface (codes "control")) (omega arith),
        refl,
        (members, rest, is_block 1 (interface_body (codes "controllers")) 131200 (sized_interface (codes "controllers")) (omega arith), refl, are_interfaces ports ports packets),
      ),
    )
