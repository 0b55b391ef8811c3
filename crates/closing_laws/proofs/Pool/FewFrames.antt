-- What a command puts on links: its frames stand before its result, and are no more than the ports of a switch.
use Rattle.std.proofs.Common.{◌≡◌, ◌≤◌, ◌<◌, ◌⊎◌, inl, inr, ℕ, zero, suc, ◌+◌, ◌-◌, ◌*◌, Bool, true, false, ◌&&◌, List, [], ◌∷◌, ◌++◌, length, map, drop, refl, sym, ap, subst, arith, length-append}
use Rattle.std.specs.Prelude.{nat_eq, not, ◌||◌, flat_map, filter, if◌then◌else◌}
use Rattle.std.specs.List.{list_any, range_with_len}
use Rattle.std.proofs.lemmas.Bool.{and_parts, cases_lt, cond_both, eqb-true, or_parts}
use Rattle.std.proofs.lemmas.List.{length-map, map-append}
use Rattle.std.proofs.lemmas.List.FromFn.{length-range_with_len}
use Rattle.std.proofs.lemmas.List.Sums.{count_by-le-length}
use Rattle.of_types.specs.declared.message.Order.{Order}
use Rattle.of_types.specs.declared.message.Order.TheVariants as order
use Rattle.of_types.specs.declared.message.Outcome.{Outcome}
use Rattle.of_types.specs.declared.message.Outcome.TheVariants as outcome
use Rattle.of_types.specs.declared.numbers.TheConstants.{ALL_PORTS, FLOOD, IN_PORT, TO_CONTROLLER}
use Rattle.of_types.specs.declared.refusal.TheConstants.{NOT_MASTER}
use Rattle.of_types.specs.declared.setup.Link.{Link}
use Rattle.of_types.specs.Setups.{AreApart, ends_of}
use Rattle.journal.specs.declared.journal.Actor.TheVariants as actor
use Rattle.journal.specs.declared.journal.Letter.{Letter}
use Rattle.command_buffer.specs.declared.buffer.Offer.{Offer}
use Rattle.command_buffer.specs.declared.buffer.Offer.TheVariants.{Ahead, Execute, Full, Repeat}
use Rattle.command_buffer.specs.Results.{offer_of}
use Rattle.of_switch.specs.declared.says.SwitchSays.{SwitchSays}
use Rattle.app_core.specs.Orders.{Ascend, HasFewOutputs, most_ports}
use Rattle.of_switch.specs.State.{SwitchState, SwitchTurn, own_number_of, ports_up, quiet_switch, switch_refuses, then_turn}
use Rattle.of_switch.specs.Commands.{done_as, executes, on_command, on_offer, result_letter, result_of, settled}
use Rattle.of_switch.specs.Events.{is_port_down}
use Rattle.of_switch.specs.Forwarding.{over_link, over_links, puts_all, puts_out, sends_to, targets}
use Rattle.role_fence.specs.Fence.{may_execute}
use Rattle.run_spec.specs.States.{switch_message}
use Rattle.closing_laws.specs.Ways.{Sent, sent_by}
use Rattle.closing_laws.proofs.Measure.CommandCounts.{fewer_filter}
use Rattle.closing_laws.proofs.Pool.Rooms.{is_frame, is_result, waits}
use Rattle.closing_laws.proofs.Pool.Waiting.{waits_append, waits_cons}
use Rattle.closing_laws.proofs.Truths.Wires.{is_end}

-- ---- wires

-- a port that is no end has no wire
no_wire : (frame : List ℕ) (switch port : ℕ) (links : List Link) → list_any (is_end switch port) (ends_of links) ≡ false → flat_map (over_link frame switch port) links ≡ []
no_wire frame switch port [] none = refl
no_wire frame switch port (l ∷ links) none = by_tests (nat_eq l.switch switch && nat_eq l.port port) (nat_eq l.peer switch && nat_eq l.peer_port port) refl refl none (no_wire frame switch port links)
  where
    by_tests : (a b : Bool) → is_end switch port (l.switch, l.port) ≡ a → is_end switch port (l.peer, l.peer_port) ≡ b → (a || (b || list_any (is_end switch port) (ends_of links))) ≡ false →
        (list_any (is_end switch port) (ends_of links) ≡ false → flat_map (over_link frame switch port) links ≡ []) → over_link frame switch port l ++ flat_map (over_link frame switch port) links ≡ []
    by_tests true b is_a is_b none rest = absurd cc
    by_tests false true is_a is_b none rest = absurd cc
    by_tests false false is_a is_b none rest = rw (is_a, is_b) (rest none)

-- any other has one
one_wire : (frame : List ℕ) (switch port : ℕ) (links : List Link) → AreApart (ends_of links) → length (flat_map (over_link frame switch port) links) ≤ 1
one_wire frame switch port [] apart = omega arith
one_wire frame switch port (l ∷ links) apart = by_tests (is_end switch port (l.switch, l.port)) (is_end switch port (l.peer, l.peer_port)) refl refl (one_wire frame switch port links apart.1.1)
  where
    others : List (Letter SwitchSays)
    others = flat_map (over_link frame switch port) links

    -- where the first end of the wire is the port
    at_first : is_end switch port (l.switch, l.port) ≡ true → length others ≡ 0
    at_first is =
        let same = and_parts (nat_eq l.switch switch) (nat_eq l.port port) is in
        let free = (or_parts (is_end l.switch l.port (l.peer, l.peer_port)) (list_any (is_end l.switch l.port) (ends_of links)) apart.0).1 in
        let here : list_any (is_end switch port) (ends_of links) ≡ false =
        subst (λ (k : ℕ). list_any (is_end k port) (ends_of links) ≡ false) (eqb-true l.switch switch same.0)
        (subst (λ (k : ℕ). list_any (is_end l.switch k) (ends_of links) ≡ false) (eqb-true l.port port same.1) free) in
        ap (λ (ls : List (Letter SwitchSays)). length ls) (no_wire frame switch port links here)

    at_second : is_end switch port (l.peer, l.peer_port) ≡ true → length others ≡ 0
    at_second is =
        let same = and_parts (nat_eq l.peer switch) (nat_eq l.peer_port port) is in
        let here : list_any (is_end switch port) (ends_of links) ≡ false =
        subst (λ (k : ℕ). list_any (is_end k port) (ends_of links) ≡ false) (eqb-true l.peer switch same.0)
        (subst (λ (k : ℕ). list_any (is_end l.peer k) (ends_of links) ≡ false) (eqb-true l.peer_port port same.1) apart.1.0) in
        ap (λ (ls : List (Letter SwitchSays)). length ls) (no_wire frame switch port links here)

    by_tests : (a b : Bool) → is_end switch port (l.switch, l.port) ≡ a → is_end switch port (l.peer, l.peer_port) ≡ b → length others ≤ 1 → length (over_link frame switch port l ++ others) ≤ 1
    by_tests true b is_a is_b rest = let none = at_first is_a in rw is_a (omega (arith, none))
    by_tests false true is_a is_b rest = let none = at_second is_b in rw (is_a, is_b) (omega (arith, none))
    by_tests false false is_a is_b rest = rw (is_a, is_b) rest

-- ---- ports

-- a frame goes to ports of the switch
few_targets : (s : SwitchState) (port output : ℕ) → length (targets s port output) ≤ s.ports
few_targets s port output =
    cond_both (nat_eq output FLOOD || nat_eq output ALL_PORTS) _ _ Few (λ _. few (λ p. not (nat_eq p port)))
    (λ _. cond_both (nat_eq output IN_PORT) _ _ Few (λ _. few (λ p. nat_eq p port)) (λ _. cond_both (nat_eq output port) _ _ Few (λ _. omega arith) (λ _. few (λ p. nat_eq p output))))
  where
    Few : List ℕ → Type 0
    Few ports = length ports ≤ s.ports

    few : (test : ℕ → Bool) → Few (filter test (ports_up s))
    few test =
        let a = fewer_filter test (ports_up s) in
        let b = fewer_filter (λ p. not (is_port_down s p)) (range_with_len 1 s.ports) in
        let c = length-range_with_len 1 s.ports in
        omega (arith, a, b, c)

-- over at most one wire each
few_sent : (s : SwitchState) (frame ports : List ℕ) → AreApart (ends_of s.links) → length (flat_map (over_links s frame) ports) ≤ length ports
few_sent s frame [] apart = omega arith
few_sent s frame (port ∷ ports) apart =
    let one = one_wire frame (own_number_of s) port s.links apart in
    let rest = few_sent s frame ports apart in
    let parts = length-append (over_links s frame port) (flat_map (over_links s frame) ports) in
    omega (arith, one, rest, parts)

-- ---- ports, each once

-- a port stands once at most among numbers, and not at all where it is none of them
none_of : (test : ℕ → Bool) (output a n : ℕ) → (output < a) ⊎ (a + n ≤ output) → length (filter (λ p. nat_eq p output) (filter test (range_with_len a n))) ≡ 0
none_of test output a zero apart = refl
none_of test output a (suc n) apart =
    by_tests (test a) (nat_eq a output) refl
    (none_of test output (a + 1) n (elim apart [ inl below ↦ inl (omega (arith, below)) | inr above ↦ inr (omega (arith, above)) ]))
  where
    rest : List ℕ
    rest = filter test (range_with_len (a + 1) n)

    here : nat_eq a output ≡ true → ⊥
    here e = let same = eqb-true a output e in elim apart [ inl below ↦ omega (arith, same, below) | inr above ↦ omega (arith, same, above) ]

    by_tests : (t e : Bool) → nat_eq a output ≡ e → length (filter (λ p. nat_eq p output) rest) ≡ 0 → length (filter (λ p. nat_eq p output) (if t then a ∷ rest else rest)) ≡ 0
    by_tests false e is others = others
    by_tests true true is others = absurd (here is)
    by_tests true false is others = rw is others

one_of : (test : ℕ → Bool) (output a n : ℕ) → length (filter (λ p. nat_eq p output) (filter test (range_with_len a n))) ≤ 1
one_of test output a zero = omega arith
one_of test output a (suc n) = by_tests (test a) (nat_eq a output) refl (one_of test output (a + 1) n)
  where
    rest : List ℕ
    rest = filter test (range_with_len (a + 1) n)

    by_tests : (t e : Bool) → nat_eq a output ≡ e → length (filter (λ p. nat_eq p output) rest) ≤ 1 → length (filter (λ p. nat_eq p output) (if t then a ∷ rest else rest)) ≤ 1
    by_tests false e is others = others
    by_tests true true is others =
        let same = eqb-true a output is in
        let none = none_of test output (a + 1) n (inl (omega (arith, same))) in
        rw is (omega (arith, none))
    by_tests true false is others = rw is others

-- so an output that is a port stands for that port at most
module _ (s : SwitchState) (port output : ℕ) (is_port : output ≤ most_ports) where
  abbrev up : ℕ → Bool
  up p = not (list_any (λ d. nat_eq d p) s.down)

  -- with as many ports as there are in what is bounded
  by_targets : (most : ℕ) → length (filter (λ p. nat_eq p output) (filter up (range_with_len 1 s.ports))) ≤ most → length (targets s port output) ≤ most
  by_targets most few =
      cond_both (nat_eq output FLOOD || nat_eq output ALL_PORTS) _ _ Few (λ all. absurd (no_flood (nat_eq output FLOOD) (nat_eq output ALL_PORTS) refl refl all))
      (λ _. cond_both (nat_eq output IN_PORT) _ _ Few (λ own. absurd (let same = eqb-true output IN_PORT own in omega (arith, same, is_port)))
      (λ _. cond_both (nat_eq output port) _ _ Few (λ _. omega arith) (λ _. few)))
    where
      Few : List ℕ → Type 0
      Few ports = length ports ≤ most

      no_flood : (a b : Bool) → nat_eq output FLOOD ≡ a → nat_eq output ALL_PORTS ≡ b → (a || b) ≡ true → ⊥
      no_flood true b is_a is_b h = let same = eqb-true output FLOOD is_a in omega (arith, same, is_port)
      no_flood false true is_a is_b h = let same = eqb-true output ALL_PORTS is_b in omega (arith, same, is_port)
      no_flood false false is_a is_b h = absurd cc

  one_target : length (targets s port output) ≤ 1
  one_target = by_targets 1 (one_of up output 1 s.ports)

  no_target : s.ports < output → length (targets s port output) ≤ 0
  no_target above = by_targets 0 (let none = none_of up output 1 s.ports (inr (omega (arith, above))) in omega (arith, none))

-- what one output of a command puts on links
few_put : (s : SwitchState) (port output : ℕ) (frame : List ℕ) (most : ℕ) → AreApart (ends_of s.links) → length (targets s port output) ≤ most → length (puts_out quiet_switch port frame output s).letters ≤ most
few_put s port output frame most apart few =
    cond_both (nat_eq output TO_CONTROLLER) (quiet_switch s) (sends_to frame (targets s port output) s) (λ (t : SwitchTurn). length t.letters ≤ most) (λ _. omega arith)
    (λ _. let sent = few_sent s frame (targets s port output) apart in omega (arith, sent, few))

-- a switch with these ports, whose wires are apart
record IsLike (ports : ℕ) (s : SwitchState) : Type 0 where
  pub ports_are : s.ports ≡ ports
  pub apart : AreApart (ends_of s.links)

still_like : (ports : ℕ) (s : SwitchState) (port output : ℕ) (frame : List ℕ) → IsLike ports s → IsLike ports (puts_out quiet_switch port frame output s).state
still_like ports s port output frame like =
    cond_both (nat_eq output TO_CONTROLLER) (quiet_switch s) (sends_to frame (targets s port output) s) (λ (t : SwitchTurn). IsLike ports t.state) (λ _. like)
    (λ _. record { ports_are = like.ports_are; apart = like.apart })

-- ports that ascend: from the least one on each of the switch gets the frame once at most
ascending_put : (ports port : ℕ) (frame outputs : List ℕ) (least : ℕ) (t : SwitchTurn) → IsLike ports t.state → Ascend least outputs →
    length (puts_all quiet_switch port frame outputs t).letters ≤ length t.letters + (suc ports - least)
ascending_put ports port frame [] least t like ascend = omega arith
ascending_put ports port frame (output ∷ outputs) least t like ascend =
    let here = puts_out quiet_switch port frame output t.state in
    let rest = ascending_put ports port frame outputs (suc output) (then_turn t (puts_out quiet_switch port frame output)) (still_like ports t.state port output frame like) ascend.2 in
    let joined = length-append t.letters here.letters in
    let low = ascend.0 in
    let high = ascend.1 in
    let are = like.ports_are in
    elim (cases_lt ports output) [
      | inl above ↦
          let none = few_put t.state port output frame 0 like.apart (no_target t.state port output high (omega (arith, above, are))) in
          omega (arith, rest, joined, none, above)
      | inr within ↦
          let one = few_put t.state port output frame 1 like.apart (one_target t.state port output high) in
          omega (arith, rest, joined, one, within, low)
    ]

-- what an order of few outputs puts on links
pub few_done : (s : SwitchState) (result : Outcome) (what : Order) → AreApart (ends_of s.links) → HasFewOutputs what → length (done_as result what s).letters ≤ s.ports
few_done s outcome.Done (order.PacketOut out) apart (inl few) = by_actions out.actions few
  where
    by_actions : (outputs : List ℕ) → length outputs ≤ 1 → length (done_as outcome.Done (order.PacketOut (record out { actions = outputs })) s).letters ≤ s.ports
    by_actions [] few = omega arith
    by_actions (output ∷ []) few = few_put s out.in_port output out.payload s.ports apart (few_targets s out.in_port output)
    by_actions (output ∷ next ∷ outputs) few = absurd (omega (arith, few))
few_done s outcome.Done (order.PacketOut out) apart (inr ascend) =
    let sent = ascending_put s.ports out.in_port out.payload out.actions 1 (quiet_switch s) (record { ports_are = refl; apart = apart }) ascend in
    omega (arith, sent)
few_done s outcome.Done (order.FlowMod change) apart few = omega arith
few_done s (outcome.Failed kind code) what apart few = omega arith
few_done s outcome.Cleared what apart few = omega arith

-- ---- frames and results

-- at each place of what waits there is a result for each 48 frames
abbrev pub AreFollowed : List Sent → Type 0
AreFollowed waiting = (k : ℕ) → waits is_frame (drop k waiting) ≤ 48 * waits is_result (drop k waiting)

pub followed_append : (xs ys : List Sent) → AreFollowed xs → AreFollowed ys → AreFollowed (xs ++ ys)
followed_append [] ys a b k = b k
followed_append (m ∷ xs) ys a b zero =
    let first = a 0 in
    let later = b 0 in
    let frames = waits_append is_frame (m ∷ xs) ys in
    let results = waits_append is_result (m ∷ xs) ys in
    omega (arith, first, later, frames, results)
followed_append (m ∷ xs) ys a b (suc k) = followed_append xs ys (λ j. a (suc j)) b k

-- no frames
pub followed_none : (xs : List Sent) → waits is_frame xs ≡ 0 → AreFollowed xs
followed_none [] none k = by_place k
  where
    by_place : (j : ℕ) → waits is_frame (drop j []) ≤ 48 * waits is_result (drop j [])
    by_place zero = omega arith
    by_place (suc j) = omega arith
followed_none (m ∷ xs) none zero = omega (arith, none)
followed_none (m ∷ xs) none (suc k) = let parts = waits_cons is_frame m xs in followed_none xs (omega (arith, none, parts)) k

-- frames, and a result behind them
pub followed_result : (xs : List Sent) (r : Sent) → waits is_frame xs ≤ 48 → is_result r.said ≡ true → is_frame r.said ≡ false → AreFollowed (xs ++ r ∷ [])
followed_result [] r few is other k =
    followed_none (r ∷ []) (let parts = waits_cons is_frame r [] in let first = ap {B = ℕ} (λ (b : Bool). if b then 1 else 0) other in omega (arith, parts, first)) k
followed_result (m ∷ xs) r few is other zero =
    let frames = waits_append is_frame (m ∷ xs) (r ∷ []) in
    let results = waits_append is_result (m ∷ xs) (r ∷ []) in
    let a = waits_cons is_frame r [] in
    let b = waits_cons is_result r [] in
    let no_frame = ap {B = ℕ} (λ (b : Bool). if b then 1 else 0) other in
    let one = ap {B = ℕ} (λ (b : Bool). if b then 1 else 0) is in
    omega (arith, few, frames, results, a, b, no_frame, one)
followed_result (m ∷ xs) r few is other (suc k) = let parts = waits_cons is_frame m xs in followed_result xs r (omega (arith, few, parts)) is other k

-- a command with few outputs, at a switch whose wires are apart
module _ (s : ℕ) (sw : SwitchState) (apart : AreApart (ends_of sw.links)) (few : sw.ports ≤ 48) where
  abbrev Follow : SwitchTurn → Type 0
  Follow turn = AreFollowed (map (sent_by switch_message (actor.Switch s)) turn.letters)

  -- no letters, or one that is no frame
  pub none_follow : (state : SwitchState) → Follow (quiet_switch state)
  none_follow state = followed_none [] refl

  -- a command that is carried out
  executed_follow : (through me view number : ℕ) (what : Order) → HasFewOutputs what → Follow (executes (settled sw through) me view number what)
  executed_follow through me view number what outputs =
      subst AreFollowed (sym (map-append (sent_by switch_message (actor.Switch s)) done.letters (told ∷ [])))
      (followed_result (map (sent_by switch_message (actor.Switch s)) done.letters) (sent_by switch_message (actor.Switch s) told) short refl refl)
    where
      done : SwitchTurn
      done = done_as (result_of (settled sw through) what) what (settled sw through)

      told : Letter SwitchSays
      told = result_letter (settled sw through) me number (result_of (settled sw through) what)

      short : waits is_frame (map (sent_by switch_message (actor.Switch s)) done.letters) ≤ 48
      short =
          let all = few_done (settled sw through) (result_of (settled sw through) what) what apart outputs in
          let count = count_by-le-length (λ (m : Sent). is_frame m.said) (map (sent_by switch_message (actor.Switch s)) done.letters) in
          let same = length-map done.letters (sent_by switch_message (actor.Switch s)) in
          omega (arith, all, count, same, few)

  offered_follow : (through me view number : ℕ) (what : Order) (o : Offer) → HasFewOutputs what → Follow (on_offer (settled sw through) me view number what o)
  offered_follow through me view number what Execute outputs = executed_follow through me view number what outputs
  offered_follow through me view number what (Repeat result) outputs =
      followed_result [] (sent_by switch_message (actor.Switch s) (result_letter (settled sw through) me number result)) (omega arith) refl refl
  offered_follow through me view number what Ahead outputs = none_follow (settled sw through)
  offered_follow through me view number what Full outputs = none_follow (settled sw through)

  pub command_follows : (me xid view number through : ℕ) (what : Order) → HasFewOutputs what → Follow (on_command sw me xid view number through what)
  command_follows me xid view number through what outputs =
      cond_both (may_execute sw.fence me view) _ _ Follow (λ _. offered_follow through me view number what (offer_of (settled sw through).results number) outputs)
      (λ _. followed_none (map (sent_by switch_message (actor.Switch s)) (switch_refuses sw me xid NOT_MASTER).letters) refl)
