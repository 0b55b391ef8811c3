-- A setup that is read is within the limits.
use Rattle.std.proofs.Common.{rules, ◌≡◌, ◌<◌, ◌≤◌, ◌-◌, ◌%◌, ◌^◌, ◌&&◌, ◌||◌, ◌==◌, nat_le, not, ℕ, Bool, true, false, List, [], ◌∷◌, ◌++◌, length, refl, sym, subst, ◌∙◌, arith}
use Rattle.std.proofs.lemmas.Option.{slice_get-get_or}
use Rattle.std.specs.Prelude.{slice_index, Contains, Option, Some, None}
use Rattle.std.specs.List.{AllByRecursion}
use Rattle.std.proofs.lemmas.Bool.{and_parts}
use Rattle.of_types.specs.declared.setup.Link.{Link}
use Rattle.of_types.specs.declared.setup.Prefix.{Prefix}
use Rattle.of_types.specs.declared.setup.Setup.{Setup}
use Rattle.of_types.specs.Setups.{is_group, IsPort, IsAddressPrefix, AreApart, ends_of}
use Rattle.journal.proofs.All.{all_append}
use Rattle.report.specs.OneLine.{is_port_number, may_join_line, is_asked}
use Rattle.wires.specs.Wires.{is_taken}
use Rattle.wires.proofs.Apart.{same_end_sym, apart_link, free_is, not_true}

-- ---- tests

or_is : (x y : Bool) (P : Type 0) → (x || y) ≡ true → (x ≡ true → P) → (y ≡ true → P) → P
or_is true y P e one other = one refl
or_is false y P e one other = other e

number_is : (m n : ℕ) → (m == n) ≡ true → m ≡ n
number_is m n e = search (rules, e)

pub group_is : (n : ℕ) → is_group n ≡ true → Contains (1 ∷ 3 ∷ 5 ∷ 7 ∷ []) n
group_is n e =
    let P = Contains (1 ∷ 3 ∷ 5 ∷ 7 ∷ []) n in
    or_is (n == 1 || n == 3 || n == 5) (n == 7) P e
    (λ e. or_is (n == 1 || n == 3) (n == 5) P e
    (λ e. or_is (n == 1) (n == 3) P e (λ e. (0, omega arith, sym (number_is n 1 e))) (λ e. (1, omega arith, sym (number_is n 3 e))))
    (λ e. (2, omega arith, sym (number_is n 5 e))))
    (λ e. (3, omega arith, sym (number_is n 7 e)))

-- ---- wires between ports, whose ends stand once

pub record AreLinks (setup : Setup) (links : List Link) : Type 0 where
  pub between : AllByRecursion (λ l. IsPort setup l.switch l.port × IsPort setup l.peer l.peer_port) links
  pub apart : AreApart (ends_of links)

port_is : (setup : Setup) (switch port : ℕ) → is_port_number setup.ports switch port ≡ true → IsPort setup switch port
port_is setup switch port e =
    let there : switch < length setup.ports = search (rules, e) in
    let within : (1 ≤ port) × (port ≤ slice_index setup.ports switch) = search (rules, e) in
    (within.0, (slice_index setup.ports switch, slice_get-get_or setup.ports switch 0 there, within.1))

pub joined_link : (setup : Setup) (before : List Link) (l : Link) → AreLinks setup before → may_join_line setup.ports before l ≡ true → AreLinks setup (before ++ l ∷ [])
joined_link setup before l h e =
    let four = and_parts (is_port_number setup.ports l.switch l.port && is_port_number setup.ports l.peer l.peer_port && not (l.switch == l.peer && l.port == l.peer_port) && not (is_taken l.switch l.port before)) (not (is_taken l.peer l.peer_port before)) e in
    let three = and_parts (is_port_number setup.ports l.switch l.port && is_port_number setup.ports l.peer l.peer_port && not (l.switch == l.peer && l.port == l.peer_port)) (not (is_taken l.switch l.port before)) four.0 in
    let two = and_parts (is_port_number setup.ports l.switch l.port && is_port_number setup.ports l.peer l.peer_port) (not (l.switch == l.peer && l.port == l.peer_port)) three.0 in
    let one = and_parts (is_port_number setup.ports l.switch l.port) (is_port_number setup.ports l.peer l.peer_port) two.0 in
    record {
      between = all_append (λ l. IsPort setup l.switch l.port × IsPort setup l.peer l.peer_port) before (l ∷ []) h.between
          ((port_is setup l.switch l.port one.0, port_is setup l.peer l.peer_port one.1), tt);
      apart = apart_link before l h.apart (free_is l.switch l.port before three.1) (free_is l.peer l.peer_port before four.1)
          (same_end_sym (l.switch, l.port) (l.peer, l.peer_port) ∙ not_true (l.switch == l.peer && l.port == l.peer_port) two.1);
    }

-- ---- rules

pub prefix_is : (p : Prefix) → (nat_le p.length 32 && p.address % 2 ^ (32 - p.length) == 0) ≡ true → IsAddressPrefix p
prefix_is p e =
    let parts = and_parts (nat_le p.length 32) (p.address % 2 ^ (32 - p.length) == 0) e in
    record { short = (let le = parts.0 in search (rules, le)); clean = number_is (p.address % 2 ^ (32 - p.length)) 0 parts.1 }

proto_is : (proto : ℕ) → proto == 0 || proto == 6 || proto == 17 ≡ true → Contains (0 ∷ 6 ∷ 17 ∷ []) proto
proto_is proto e =
    or_is (proto == 0 || proto == 6) (proto == 17) (Contains (0 ∷ 6 ∷ 17 ∷ []) proto) e
    (λ e. or_is (proto == 0) (proto == 6) (Contains (0 ∷ 6 ∷ 17 ∷ []) proto) e (λ e. (0, omega arith, sym (number_is proto 0 e))) (λ e. (1, omega arith, sym (number_is proto 6 e))))
    (λ e. (2, omega arith, sym (number_is proto 17 e)))

named_proto : (proto : ℕ) → proto == 6 || proto == 17 ≡ true → Contains (0 ∷ 6 ∷ 17 ∷ []) proto
named_proto proto e = or_is (proto == 6) (proto == 17) (Contains (0 ∷ 6 ∷ 17 ∷ []) proto) e (λ e. (1, omega arith, sym (number_is proto 6 e))) (λ e. (2, omega arith, sym (number_is proto 17 e)))

pub asked_proto : (proto : ℕ) (port : Option ℕ) → is_asked proto port ≡ true → Contains (0 ∷ 6 ∷ 17 ∷ []) proto
asked_proto proto None e = proto_is proto e
asked_proto proto (Some port) e = named_proto proto e

pub asked_portless : (proto : ℕ) (port : Option ℕ) → is_asked proto port ≡ true → proto ≡ 0 → port ≡ None
asked_portless proto None e none = refl
asked_portless proto (Some port) e none = absurd (no_port (subst (λ p. is_asked p (Some port) ≡ true) none e))
  where
    no_port : false ≡ true → ⊥
    no_port e = cc
