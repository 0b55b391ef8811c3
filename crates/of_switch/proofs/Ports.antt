-- Ports that pass a test, among those numbered on from one.
use Rattle.std.proofs.Common.{◌≡◌, ℕ, ◌+◌, ◌-◌, ◌≤◌, ◌<◌, ◌≢◌, Bool, true, false, List, [], ◌∷◌, ◌++◌, length, length-append, drop, take, get_or, refl, sym, ◌∙◌, ap, inl, inr, arith, suc, zero}
use Rattle.std.specs.Prelude.{nat_eq, nat_le, nat_lt, ◌&&◌, ◌||◌, ◌⊎◌, not, filter, flat_map, if◌then◌else◌}
use Rattle.std.specs.List.{list_any, range_with_len}
use Rattle.std.proofs.lemmas.Bool.{eq-eqb, ne_eqb, leb-true, leb-false, and_parts, cases_order}
use Rattle.std.proofs.lemmas.List.{append_assoc, append-nil, drop_more, drop_all}
use Rattle.std.proofs.lemmas.List.Concat.{flat_map-append}
use Rattle.std.proofs.Math.ListN.{set, replicate}
use Rattle.of_types.specs.SmallSets.{places_from, with_number, without_number, AscendWithin}
use Rattle.of_types.proofs.Places.{places-insert, places-remove}
use Rattle.journal.specs.declared.journal.Letter.{Letter}
use Rattle.of_switch.specs.declared.says.SwitchSays.{SwitchSays}
use Rattle.of_switch.specs.State.{SwitchState, ports_up}
use Rattle.of_switch.specs.Events.{is_port, is_port_down, with_port}
use Rattle.of_switch.specs.Forwarding.{is_port_up, over_links}
use Rattle.of_switch.specs.Drafts.{Draft, with_letters, other_port}

-- one outside is not among them
pub only-outside : (f : ℕ → Bool) (first n x : ℕ) → (x < first) ⊎ (first + n ≤ x) → filter (λ p. nat_eq p x) (filter f (range_with_len first n)) ≡ []
only-outside f first zero x out = refl
only-outside f first (suc n) x out =
    let beyond : (x < first + 1) ⊎ (first + 1 + n ≤ x) = elim out [ inl low ↦ inl (omega (arith, low)) | inr high ↦ inr (omega (arith, high)) ] in
    let apart : first ≢ x = elim out [ inl low ↦ omega (arith, low) | inr high ↦ omega (arith, high) ] in
    by_test apart (f first) (only-outside f (first + 1) n x beyond)
  where
    by_test : first ≢ x → (b : Bool) → filter (λ p. nat_eq p x) (filter f (range_with_len (first + 1) n)) ≡ [] →
        filter (λ p. nat_eq p x) (if b then first ∷ filter f (range_with_len (first + 1) n) else filter f (range_with_len (first + 1) n)) ≡ []
    by_test apart true none = rw (ne_eqb first x apart) none
    by_test apart false none = none

-- one that fails the test is not
pub only-failing : (f : ℕ → Bool) (first n x : ℕ) → f x ≡ false → filter (λ p. nat_eq p x) (filter f (range_with_len first n)) ≡ []
only-failing f first zero x fails = refl
only-failing f first (suc n) x fails = elim (cases_order first x) [
  | inl same ↦ let gone : f first ≡ false = ap f same ∙ fails in rw gone (only-failing f (first + 1) n x fails)
  | inr (inl below) ↦ let apart : first ≢ x = omega (arith, below) in by_test apart (f first) (only-failing f (first + 1) n x fails)
  | inr (inr above) ↦ let apart : first ≢ x = omega (arith, above) in by_test apart (f first) (only-failing f (first + 1) n x fails)
]
  where
    by_test : first ≢ x → (b : Bool) → filter (λ p. nat_eq p x) (filter f (range_with_len (first + 1) n)) ≡ [] →
        filter (λ p. nat_eq p x) (if b then first ∷ filter f (range_with_len (first + 1) n) else filter f (range_with_len (first + 1) n)) ≡ []
    by_test apart true none = rw (ne_eqb first x apart) none
    by_test apart false none = none

-- one within that passes is there once
pub only-passing : (f : ℕ → Bool) (first n x : ℕ) → first ≤ x → x < first + n → f x ≡ true → filter (λ p. nat_eq p x) (filter f (range_with_len first n)) ≡ x ∷ []
only-passing f first zero x low high passes = absurd (omega (arith, low, high))
only-passing f first (suc n) x low high passes = elim (cases_order first x) [
  | inl same ↦
      let there : f first ≡ true = ap f same ∙ passes in
      let none = only-outside f (first + 1) n x (inl (omega (arith, same))) in
      rw (there, eq-eqb first x same, none) (ap (λ (p : ℕ). p ∷ []) same)
  | inr (inl below) ↦ let apart : first ≢ x = omega (arith, below) in by_test apart (f first) (only-passing f (first + 1) n x (omega (arith, below)) (omega (arith, high)) passes)
  | inr (inr above) ↦ absurd (omega (arith, low, above))
]
  where
    by_test : first ≢ x → (b : Bool) → filter (λ p. nat_eq p x) (filter f (range_with_len (first + 1) n)) ≡ x ∷ [] →
        filter (λ p. nat_eq p x) (if b then first ∷ filter f (range_with_len (first + 1) n) else filter f (range_with_len (first + 1) n)) ≡ x ∷ []
    by_test apart true one = rw (ne_eqb first x apart) one
    by_test apart false one = one

-- any passes where some are left
pub any-none : (p : ℕ → Bool) (xs : List ℕ) → filter p xs ≡ [] → list_any p xs ≡ false
any-none p [] none = refl
any-none p (x ∷ xs) none = by_test (p x) (λ rest. any-none p xs rest) none
  where
    by_test : (b : Bool) → (filter p xs ≡ [] → list_any p xs ≡ false) → (if b then x ∷ filter p xs else filter p xs) ≡ [] → (b || list_any p xs) ≡ false
    by_test true later some = absurd cc
    by_test false later rest = later rest

pub any-some : (p : ℕ → Bool) (y : ℕ) (ys xs : List ℕ) → filter p xs ≡ y ∷ ys → list_any p xs ≡ true
any-some p y ys [] some = absurd cc
any-some p y ys (x ∷ xs) some = by_test (p x) (λ rest. any-some p y ys xs rest) some
  where
    by_test : (b : Bool) → (filter p xs ≡ y ∷ ys → list_any p xs ≡ true) → (if b then x ∷ filter p xs else filter p xs) ≡ y ∷ ys → (b || list_any p xs) ≡ true
    by_test true later first = refl
    by_test false later rest = later rest

-- a place is set to whether its port is down
pub places-set : (port i : ℕ) (flags : List Bool) (up : Bool) → port ≡ 1 + i → i < length flags →
    places_from 1 (set flags i (not up)) ≡ (if up then without_number port (places_from 1 flags) else with_number port (places_from 1 flags))
places-set port i flags true same within = places-remove port 1 i flags same within
places-set port i flags false same within = places-insert port 1 i flags same within

-- where all ports are up, none is down
pub places-none : (first n : ℕ) → places_from first (replicate n false) ≡ []
unfolding places_from
places-none first zero = refl
places-none first (suc n) = places-none (first + 1) n

-- there are at most as many places as there are flags
pub places-few : (first : ℕ) (flags : List Bool) → length (places_from first flags) ≤ length flags
unfolding places_from
places-few first [] = omega arith
places-few first (true ∷ flags) = omega (arith, places-few (first + 1) flags)
places-few first (false ∷ flags) = omega (arith, places-few (first + 1) flags)

-- a port is up where it is there and not down
pub up-inside : (f : ℕ → Bool) (n port : ℕ) → 1 ≤ port → port ≤ n → list_any (λ p. nat_eq p port) (filter f (range_with_len 1 n)) ≡ f port
up-inside f n port low high = by_test (f port) refl
  where
    by_test : (b : Bool) → f port ≡ b → list_any (λ p. nat_eq p port) (filter f (range_with_len 1 n)) ≡ b
    by_test true passes = any-some (λ p. nat_eq p port) port [] (filter f (range_with_len 1 n)) (only-passing f 1 n port low (omega (arith, high)) passes)
    by_test false fails = any-none (λ p. nat_eq p port) (filter f (range_with_len 1 n)) (only-failing f 1 n port fails)

pub up-outside : (f : ℕ → Bool) (n port : ℕ) → (port < 1) ⊎ (1 + n ≤ port) → list_any (λ p. nat_eq p port) (filter f (range_with_len 1 n)) ≡ false
up-outside f n port out = any-none (λ p. nat_eq p port) (filter f (range_with_len 1 n)) (only-outside f 1 n port out)

-- a port that a switch has is numbered so
pub port-inside : (s : SwitchState) (port : ℕ) → is_port s port ≡ true → (1 ≤ port) × (port ≤ s.ports)
port-inside s port there = let p = and_parts (nat_le 1 port) (nat_le port s.ports) there in (leb-true 1 port p.0, leb-true port s.ports p.1)

pub port-outside : (s : SwitchState) (port : ℕ) → is_port s port ≡ false → (port < 1) ⊎ (1 + s.ports ≤ port)
port-outside s port there = by_test (nat_le 1 port) refl there
  where
    by_test : (b : Bool) → nat_le 1 port ≡ b → (b && nat_le port s.ports) ≡ false → (port < 1) ⊎ (1 + s.ports ≤ port)
    by_test true low high = let h = leb-false port s.ports high in inr (omega (arith, h))
    by_test false low high = let h = leb-false 1 port low in inl (omega (arith, h))

-- whether a port is up, by whether it is there and down
pub up-there : (s : SwitchState) (port : ℕ) (there down : Bool) → is_port s port ≡ there → is_port_down s port ≡ down → (there && not down) ≡ is_port_up s port
up-there s port true down there is =
    let p = port-inside s port there in
    ap not (sym is) ∙ sym (up-inside (λ k. not (is_port_down s k)) s.ports port p.0 p.1)
up-there s port false down there is = sym (up-outside (λ k. not (is_port_down s k)) s.ports port (port-outside s port there))

-- one more port of those that are down
pub down-taken : (n : ℕ) (ports more : List ℕ) (flags : List Bool) → n < length flags → get_or flags n false ≡ true → more ≡ ports ++ (n + 1) ∷ [] →
    more ++ places_from (n + 1 + 1) (drop (n + 1) flags) ≡ ports ++ places_from (n + 1) (drop n flags)
unfolding places_from
down-taken n ports more flags h e added = rw (added, drop_more flags n false h, e) (append_assoc ports ((n + 1) ∷ []) (places_from (n + 1 + 1) (drop (n + 1) flags)))

pub down-passed : (n : ℕ) (ports : List ℕ) (flags : List Bool) → n < length flags → get_or flags n false ≡ false →
    ports ++ places_from (n + 1 + 1) (drop (n + 1) flags) ≡ ports ++ places_from (n + 1) (drop n flags)
unfolding places_from
down-passed n ports flags h e = rw (drop_more flags n false h, e) refl

pub down-all : (n : ℕ) (ports : List ℕ) (flags : List Bool) → length flags ≤ n → ports ++ places_from (n + 1) (drop n flags) ≡ places_from 1 flags → ports ≡ places_from 1 flags
unfolding places_from
down-all n ports flags h all = let rest : ports ++ places_from (n + 1) (drop n flags) ≡ ports = rw (drop_all n flags h, append-nil ports) refl in sym rest ∙ all

-- flags as they are made
pub flags-none : (n m : ℕ) (start flags : List Bool) → flags ≡ take n start ++ replicate (n - m) false → start ≡ [] → m ≡ 0 → places_from 1 flags ≡ []
flags-none n m start flags made empty none =
    rw made (rw empty (rw none (take-nothing n (n - 0))))
  where
    take-nothing : (k l : ℕ) → places_from 1 (take k [] ++ replicate l false) ≡ []
    take-nothing zero l = places-none 1 l
    take-nothing (suc k) l = places-none 1 l

-- the ports from a place on that are up, but one
abbrev pub others_from : SwitchState → ℕ → ℕ → List ℕ
others_from s in_port place = filter (λ p. not (nat_eq p in_port)) (filter (λ p. not (is_port_down s p)) (range_with_len (place + 1) (s.ports - place)))

-- a frame has gone to those before a place
pub record Flooding (s : SwitchState) (in_port : ℕ) (frame : List ℕ) (start : Draft) (place count : ℕ) (d : Draft) : Type 0 where
  pub counted : count + length (others_from s in_port place) ≡ length (others_from s in_port 0)
  pub few : count ≤ place
  pub said : with_letters d (flat_map (over_links s frame) (others_from s in_port place)) ≡ with_letters start (flat_map (over_links s frame) (others_from s in_port 0))

-- one port after another
others-first : (s : SwitchState) (in_port place : ℕ) → place < s.ports → others_from s in_port place ≡ other_port s in_port (place + 1) ++ others_from s in_port (place + 1)
others-first s in_port place within =
    let more : s.ports - place ≡ suc (s.ports - (place + 1)) = omega arith in
    rw more (by_tests (not (is_port_down s (place + 1))) (not (nat_eq (place + 1) in_port)) (filter (λ p. not (is_port_down s p)) (range_with_len (place + 1 + 1) (s.ports - (place + 1)))) refl)
  where
    by_tests : (up other : Bool) (rest : List ℕ) → not (nat_eq (place + 1) in_port) ≡ other →
        filter (λ p. not (nat_eq p in_port)) (if up then (place + 1) ∷ rest else rest)
        ≡ filter (λ p. not (nat_eq p in_port)) (if up then (place + 1) ∷ [] else []) ++ filter (λ p. not (nat_eq p in_port)) rest
    by_tests true true rest e = rw e refl
    by_tests true false rest e = rw e refl
    by_tests false other rest e = refl

other-few : (s : SwitchState) (in_port port : ℕ) → length (other_port s in_port port) ≤ 1
other-few s in_port port = by_tests (not (is_port_down s port)) (not (nat_eq port in_port)) refl
  where
    by_tests : (up other : Bool) → not (nat_eq port in_port) ≡ other → length (filter (λ p. not (nat_eq p in_port)) (if up then port ∷ [] else [])) ≤ 1
    by_tests true true e = rw e (omega arith)
    by_tests true false e = rw e (omega arith)
    by_tests false other e = omega arith

-- letters are added one list after another
letters-first : (s : SwitchState) (frame ports more : List ℕ) (d : Draft) →
    with_letters (with_letters d (flat_map (over_links s frame) ports)) (flat_map (over_links s frame) more) ≡ with_letters d (flat_map (over_links s frame) (ports ++ more))
letters-first s frame ports more d =
    ap (λ (ls : List (Letter SwitchSays)). record d { letters = ls })
    (append_assoc d.letters (flat_map (over_links s frame) ports) (flat_map (over_links s frame) more)
    ∙ ap (λ (ls : List (Letter SwitchSays)). d.letters ++ ls) (sym (flat_map-append (over_links s frame) ports more)))

-- a frame goes to one more
pub flood-more : (s : SwitchState) (in_port : ℕ) (frame : List ℕ) (start : Draft) (place count more : ℕ) (d d' : Draft) → Flooding s in_port frame start place count d → place < s.ports →
    more ≡ length (other_port s in_port (place + 1)) → d' ≡ with_letters d (flat_map (over_links s frame) (other_port s in_port (place + 1))) → Flooding s in_port frame start (place + 1) (count + more) d'
flood-more s in_port frame start place count more d d' so within is said =
    let first = others-first s in_port place within in
    let counts : length (others_from s in_port place) ≡ length (other_port s in_port (place + 1)) + length (others_from s in_port (place + 1)) =
    ap (λ (ps : List ℕ). length ps) first ∙ length-append (other_port s in_port (place + 1)) (others_from s in_port (place + 1)) in
    record {
      counted = omega (arith, so.counted, counts, is);
      few = omega (arith, so.few, is, other-few s in_port (place + 1));
      said =
          ap (λ (x : Draft). with_letters x (flat_map (over_links s frame) (others_from s in_port (place + 1)))) said
          ∙ letters-first s frame (other_port s in_port (place + 1)) (others_from s in_port (place + 1)) d
          ∙ ap (λ (ps : List ℕ). with_letters d (flat_map (over_links s frame) ps)) (sym first)
          ∙ so.said;
    }

-- nothing is added
pub no-letters : (d : Draft) → d ≡ with_letters d []
no-letters d = ap (λ (ls : List (Letter SwitchSays)). record d { letters = ls }) (sym (append-nil d.letters))

-- and then it has gone to all
pub flood-starts : (s : SwitchState) (in_port : ℕ) (frame : List ℕ) (start : Draft) → Flooding s in_port frame start 0 0 start
flood-starts s in_port frame start = record { counted = omega arith; few = omega arith; said = refl }

pub flood-ends : (s : SwitchState) (in_port : ℕ) (frame : List ℕ) (start : Draft) (place count : ℕ) (d : Draft) → Flooding s in_port frame start place count d → s.ports ≤ place →
    (count ≡ length (filter (λ p. not (nat_eq p in_port)) (ports_up s))) × (d ≡ with_letters start (flat_map (over_links s frame) (filter (λ p. not (nat_eq p in_port)) (ports_up s))))
flood-ends s in_port frame start place count d so past =
    let none : others_from s in_port place ≡ [] = let zero_left : s.ports - place ≡ 0 = omega arith in rw zero_left refl in
    let counts : length (others_from s in_port place) ≡ 0 = ap (λ (ps : List ℕ). length ps) none in
    let whole : s.ports - 0 ≡ s.ports = omega arith in
    let all : others_from s in_port 0 ≡ filter (λ p. not (nat_eq p in_port)) (ports_up s) =
    ap (λ (n : ℕ). filter (λ p. not (nat_eq p in_port)) (filter (λ p. not (is_port_down s p)) (range_with_len 1 n))) whole in
    let total : count ≡ length (others_from s in_port 0) = omega (arith, so.counted, counts) in (
      total ∙ ap (λ (ps : List ℕ). length ps) all,
      no-letters d
          ∙ ap (λ (ps : List ℕ). with_letters d (flat_map (over_links s frame) ps)) (sym none)
          ∙ so.said
          ∙ ap (λ (ps : List ℕ). with_letters start (flat_map (over_links s frame) ps)) all,
    )

-- the one port, where it is up
one-port : (s : SwitchState) (port : ℕ) (there down : Bool) → is_port s port ≡ there → is_port_down s port ≡ down → filter (λ p. nat_eq p port) (ports_up s) ≡ (if there && not down then port ∷ [] else [])
one-port s port true false there up =
    let p = port-inside s port there in only-passing (λ k. not (is_port_down s k)) 1 s.ports port p.0 (omega (arith, p.1)) (ap not up)
one-port s port true true there down = only-failing (λ k. not (is_port_down s k)) 1 s.ports port (ap not down)
one-port s port false down there is = only-outside (λ k. not (is_port_down s k)) 1 s.ports port (port-outside s port there)

pub only-up : (s : SwitchState) (port : ℕ) (up : Bool) → is_port_up s port ≡ up → filter (λ p. nat_eq p port) (ports_up s) ≡ (if up then port ∷ [] else [])
only-up s port up is =
    one-port s port (is_port s port) (is_port_down s port) refl refl
    ∙ ap (λ (b : Bool). if b then port ∷ [] else []) (up-there s port (is_port s port) (is_port_down s port) refl refl ∙ is)

-- the letters of one port
pub one-list : (s : SwitchState) (frame : List ℕ) (port : ℕ) (d : Draft) → with_letters d (over_links s frame port) ≡ with_letters d (flat_map (over_links s frame) (port ∷ []))
one-list s frame port d = ap (λ (ls : List (Letter SwitchSays)). with_letters d ls) (sym (append-nil (over_links s frame port)))

-- a number is in a set that it has joined, and not in one that it has left
any-middle : (n : ℕ) (xs ys : List ℕ) → list_any (λ d. nat_eq d n) (xs ++ n ∷ ys) ≡ true
any-middle n [] ys = rw (eq-eqb n n refl) refl
any-middle n (x ∷ xs) ys = by_test (nat_eq x n) (any-middle n xs ys)
  where
    by_test : (b : Bool) → list_any (λ d. nat_eq d n) (xs ++ n ∷ ys) ≡ true → (b || list_any (λ d. nat_eq d n) (xs ++ n ∷ ys)) ≡ true
    by_test true later = refl
    by_test false later = later

any-without : (n : ℕ) (ns : List ℕ) → list_any (λ d. nat_eq d n) (without_number n ns) ≡ false
any-without n [] = refl
any-without n (m ∷ ns) = by_test (nat_eq m n) refl (any-without n ns)
  where
    by_test : (b : Bool) → nat_eq m n ≡ b → list_any (λ d. nat_eq d n) (without_number n ns) ≡ false →
        list_any (λ d. nat_eq d n) (if not b then m ∷ without_number n ns else without_number n ns) ≡ false
    by_test true same later = later
    by_test false other later = rw other later

-- a port that went down is down, and one that came up is not
pub down-then : (s : SwitchState) (port : ℕ) (up : Bool) → not (is_port_down (with_port s port up) port) ≡ up
down-then s port true = ap not (any-without port s.down)
down-then s port false = ap not (any-middle port (filter (λ m. nat_lt m port) s.down) (filter (λ m. nat_lt port m) s.down))

-- a port that a switch doesn't have is not among those that are down
pub places-outside : (port first : ℕ) (flags : List Bool) → (port < first) ⊎ (first + length flags ≤ port) → list_any (λ m. nat_eq m port) (places_from first flags) ≡ false
unfolding places_from
places-outside port first [] out = refl
places-outside port first (true ∷ flags) out =
    let apart : first ≢ port = elim out [ inl low ↦ omega (arith, low) | inr high ↦ omega (arith, high) ] in
    let beyond : (port < first + 1) ⊎ (first + 1 + length flags ≤ port) = elim out [ inl low ↦ inl (omega (arith, low)) | inr high ↦ inr (omega (arith, high)) ] in
    rw (ne_eqb first port apart) (places-outside port (first + 1) flags beyond)
places-outside port first (false ∷ flags) out =
    let beyond : (port < first + 1) ⊎ (first + 1 + length flags ≤ port) = elim out [ inl low ↦ inl (omega (arith, low)) | inr high ↦ inr (omega (arith, high)) ] in
    places-outside port (first + 1) flags beyond

-- the first of ascending numbers ascend, and each of them is within the bounds
pub ascend-take : (n low high : ℕ) (ns : List ℕ) → AscendWithin low high ns → AscendWithin low high (take n ns)
ascend-take zero low high ns a = tt
ascend-take (suc n) low high [] a = tt
ascend-take (suc n) low high (m ∷ ns) a = (a.0, a.1, ascend-take n (m + 1) high ns a.2)

pub ascend-all : (low high : ℕ) (ns : List ℕ) → AscendWithin low high ns → (k d : ℕ) → k < length ns → (low ≤ get_or ns k d) × (get_or ns k d ≤ high)
ascend-all low high [] a k d h = absurd (omega (arith, h))
ascend-all low high (m ∷ ns) a zero d h = (a.0, a.1)
ascend-all low high (m ∷ ns) a (suc k) d h = let later = ascend-all (m + 1) high ns a.2 k d (omega (arith, h)) in (omega (arith, a.0, later.0), later.1)
