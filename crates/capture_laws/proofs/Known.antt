-- Each packet is of an interface that is told of, and directions and addresses are apart.
use Rattle.std.proofs.Common.{◌≡◌, ◌≤◌, ◌<◌, ◌%◌, ℕ, ◌+◌, ◌*◌, Bool, true, false, cond, nat_eq, List, [], ◌∷◌, ◌++◌, length, refl, eq-eqb, ap, arith}
use Rattle.std.proofs.lemmas.Bool.{eqb-false}
use Rattle.std.specs.List.{AllByRecursion}
use Rattle.journal.specs.declared.journal.Actor.{Actor}
use Rattle.journal.specs.declared.journal.Actor.TheVariants.{Controller, Switch}
use Rattle.capture_laws.specs.declared.shapes.Captured.{Captured}
use Rattle.capture_laws.specs.declared.shapes.Port.{Port}
use Rattle.capture_laws.specs.declared.shapes.Way.{Way}
use Rattle.capture_laws.specs.declared.shapes.Way.TheVariants.{Segment, Frame}
use Rattle.capture_laws.specs.Frames.{ip}
use Rattle.capture_laws.specs.Interfaces.{interface_of, interface_place_of, ports_from, ports_of_packets, same_port, with_packet_port}
use Rattle.capture_laws.specs.Packets.{HasByte}
use Rattle.capture_laws.specs.Streams.{direction, end_number}

-- ends, directions and addresses are apart
same_end : (a b : Actor) → HasByte a → HasByte b → end_number a ≡ end_number b → a ≡ b
same_end (Controller c) (Controller d) p q e = ap (λ (n : ℕ). Controller n) e
same_end (Controller c) (Switch t) p q e = absurd (omega (arith, p, e))
same_end (Switch s) (Controller d) p q e = absurd (omega (arith, q, e))
same_end (Switch s) (Switch t) p q e = ap (λ (n : ℕ). Switch n) (less s t e)
  where
    less : (m n : ℕ) → 256 + m ≡ 256 + n → m ≡ n
    less m n h = omega (arith, h)

same_byte : (base m n : ℕ) → m < 256 → n < 256 → base + (m + 1) % 256 ≡ base + (n + 1) % 256 → m ≡ n
same_byte base m n p q e = omega (arith, p, q, e)

small_end : (a : Actor) → HasByte a → end_number a < 512
small_end (Controller c) p = omega (arith, p)
small_end (Switch s) p = omega (arith, p)

split : (a b c d : ℕ) → b < 512 → d < 512 → a * 512 + b ≡ c * 512 + d → (a ≡ c) × (b ≡ d)
split a b c d p q e = (omega (arith, p, q, e), omega (arith, p, q, e))

pub directions_apart : (a b c d : Actor) → HasByte a → HasByte b → HasByte c → HasByte d → direction a b ≡ direction c d → (a ≡ c) × (b ≡ d)
directions_apart a b c d p q r s e =
    let ends = split (end_number a) (end_number b) (end_number c) (end_number d) (small_end b q) (small_end d s) e in
    (same_end a c p r ends.0, same_end b d q s ends.1)

pub addresses_apart : (a b : Actor) → HasByte a → HasByte b → ip a ≡ ip b → a ≡ b
addresses_apart (Controller c) (Controller d) p q e = ap (λ (n : ℕ). Controller n) (same_byte 0xC0000200 c d p q e)
addresses_apart (Controller c) (Switch t) p q e = absurd (omega (arith, p, q, e))
addresses_apart (Switch s) (Controller d) p q e = absurd (omega (arith, p, q, e))
addresses_apart (Switch s) (Switch t) p q e = ap (λ (n : ℕ). Switch n) (same_byte 0xC6336400 s t p q e)

-- a port that is told of stays so
abbrev IsThere : Port → List Port → Type 0
IsThere p ports = interface_place_of p ports < length ports

there-append : (p : Port) (xs ys : List Port) → IsThere p xs → IsThere p (xs ++ ys)
unfolding interface_place_of
there-append p [] ys h = absurd (omega (arith, h))
there-append p (q ∷ xs) ys h = by_test (same_port p q) h (λ k. there-append p xs ys k)
  where
    by_test : (b : Bool) → cond b 0 (1 + interface_place_of p xs) < length (q ∷ xs) → (IsThere p xs → IsThere p (xs ++ ys)) → cond b 0 (1 + interface_place_of p (xs ++ ys)) < length (q ∷ xs ++ ys)
    by_test true k others = omega arith
    by_test false k others = let more = others (omega (arith, k)) in omega (arith, more)

same_self : (p : Port) → same_port p p ≡ true
same_self p = rw (eq-eqb p.switch p.switch refl, eq-eqb p.port p.port refl) refl

there_now : (p : Port) (xs : List Port) → IsThere p (xs ++ p ∷ [])
unfolding interface_place_of
there_now p [] = rw (same_self p) (omega arith)
there_now p (q ∷ xs) = by_test (same_port p q) (there_now p xs)
  where
    by_test : (b : Bool) → IsThere p (xs ++ p ∷ []) → cond b 0 (1 + interface_place_of p (xs ++ p ∷ [])) < length (q ∷ xs ++ p ∷ [])
    by_test true more = omega arith
    by_test false more = omega (arith, more)

at_most : (p : Port) (xs : List Port) → interface_place_of p xs ≤ length xs
unfolding interface_place_of
at_most p [] = omega arith
at_most p (q ∷ xs) = by_test (same_port p q) (at_most p xs)
  where
    by_test : (b : Bool) → interface_place_of p xs ≤ length xs → cond b 0 (1 + interface_place_of p xs) ≤ length (q ∷ xs)
    by_test true more = omega arith
    by_test false more = omega (arith, more)

with_there : (p : Port) (way : Way) (ports : List Port) → IsThere p ports → IsThere p (with_packet_port way ports)
with_there p (Segment from to sequence acknowledged ends) ports h = h
with_there p (Frame q) ports h = by_test (nat_eq (interface_place_of q ports) (length ports))
  where
    by_test : (b : Bool) → IsThere p (cond b (ports ++ q ∷ []) ports)
    by_test true = there-append p ports (q ∷ []) h
    by_test false = h

kept_there : (p : Port) (packets : List Captured) (ports : List Port) → IsThere p ports → IsThere p (ports_from packets ports)
unfolding ports_from
kept_there p [] ports h = h
kept_there p (x ∷ packets) ports h = kept_there p packets (with_packet_port x.way ports) (with_there p x.way ports h)

added_there : (q : Port) (ports : List Port) → IsThere q (with_packet_port (Frame q) ports)
added_there q ports = by_test (nat_eq (interface_place_of q ports) (length ports)) refl
  where
    by_test : (b : Bool) → nat_eq (interface_place_of q ports) (length ports) ≡ b → IsThere q (cond b (ports ++ q ∷ []) ports)
    by_test true is = there_now q ports
    by_test false is = let most = at_most q ports in let other = eqb-false (interface_place_of q ports) (length ports) is in omega (arith, most, other)

-- the interface of a packet among those that are told of
told_one : (way : Way) (packets : List Captured) (ports : List Port) →
    interface_of (ports_from packets (with_packet_port way ports)) way < 2 + length (ports_from packets (with_packet_port way ports))
told_one (Segment (Controller c) (Controller d) sequence acknowledged ends) packets ports = omega arith
told_one (Segment (Controller c) (Switch t) sequence acknowledged ends) packets ports = omega arith
told_one (Segment (Switch s) (Controller d) sequence acknowledged ends) packets ports = omega arith
told_one (Segment (Switch s) (Switch t) sequence acknowledged ends) packets ports = omega arith
told_one (Frame q) packets ports = let there = kept_there q packets (with_packet_port (Frame q) ports) (added_there q ports) in omega (arith, there)

all_told : (packets : List Captured) (ports : List Port) →
    AllByRecursion (λ x. interface_of (ports_from packets ports) x.way < 2 + length (ports_from packets ports)) packets
unfolding ports_from
all_told [] ports = tt
all_told (x ∷ packets) ports = (told_one x.way packets ports, all_told packets (with_packet_port x.way ports))

pub told : (packets : List Captured) → AllByRecursion (λ x. interface_of (ports_of_packets packets) x.way < 2 + length (ports_of_packets packets)) packets
told packets = all_told packets []
