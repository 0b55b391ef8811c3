-- Routing keeps the laws of rules: it asks for the rows of 63 switches and a frame at most, or for a frame for each switch.
use Rattle.std.proofs.Common.{◌≡◌, ◌≤◌, ◌<◌, ◌+◌, ◌-◌, inl, inr, ℕ, zero, suc, Bool, true, false, List, [], ◌∷◌, length, map, take, Option, Some, None, refl, sym, subst, arith}
use Rattle.std.specs.Prelude.{nat_eq, filter, flat_map, reverse, slice_index, unwrap_or, if◌then◌else◌}
use Rattle.std.specs.List.{AllByRecursion, range_with_len}
use Rattle.std.proofs.lemmas.Bool.{cond_both}
use Rattle.std.proofs.lemmas.List.{length-append, length-map, length-reverse, length-take}
use Rattle.of_types.specs.declared.message.Command.{Command}
use Rattle.of_types.specs.declared.message.Event.{Event}
use Rattle.of_types.specs.declared.message.Happening.{Happening}
use Rattle.of_types.specs.declared.message.Happening.TheVariants as happening
use Rattle.of_types.specs.declared.numbers.TheConstants.{LONGEST_FRAME, TO_CONTROLLER}
use Rattle.of_types.specs.declared.setup.Setup.{Setup}
use Rattle.of_types.specs.Header.{number_at}
use Rattle.of_types.specs.Setups.{IsSetup}
use Rattle.app_core.specs.declared.switch_port.Leg.{Leg}
use Rattle.app_core.specs.declared.switch_port.SwitchPort.{SwitchPort}
use Rattle.app_core.specs.Chain.{routing_of, routing_rule}
use Rattle.app_core.specs.Orders.{AreBytes, AreGoodCommands, Ascend, IsGoodCommand, IsShort}
use Rattle.app_core.specs.Routes.{IsWalk, is_same_port, other_end, route}
use Rattle.app_core.specs.Routing.{Routing, arrival, frame_out, frame_out_if, first_output, open_ports, flooded, legs, path_row, installed, routed, forgetting_ends, place_of_destination, routing_after, routing_commands}
use Rattle.app_core.specs.Learning.{forgetting_rows}
use Rattle.app_core.specs.Rules.{HasLaws, state_after}
use Rattle.app_core.proofs.All.{all_append, all_flat, all_made, all_reverse, all_take}
use Rattle.app_core.proofs.Linked.{are_ports, over_ports, port_bounds}
use Rattle.app_core.proofs.Routes.{route_means}
use Rattle.app_core.proofs.Spelled.{address_below, addressed_valid, any_valid}

-- ---- how many

one_each : (f : ℕ → List Command) → ((k : ℕ) → length (f k) ≤ 1) → (a n : ℕ) → length (flat_map f (range_with_len a n)) ≤ n
one_each f one a zero = omega arith
one_each f one a (suc n) = let l = length-append (f a) (flat_map f (range_with_len (a + 1) n)) in let o = one a in let m = one_each f one (a + 1) n in omega (arith, l, o, m)

one_out : (switch : ℕ) (frame ports : List ℕ) → length (frame_out_if switch frame ports) ≤ 1
one_out switch frame ports = by_none (nat_eq (length ports) 0)
  where
    by_none : (b : Bool) → length (if b then [] else frame_out switch TO_CONTROLLER frame ports ∷ []) ≤ 1
    by_none true = omega arith
    by_none false = omega arith

module _ (setup : Setup) (is : IsSetup setup) where
  flooded_few : (down : List SwitchPort) (at : SwitchPort) (frame : List ℕ) → length (flooded setup down at frame) ≤ 64
  flooded_few down at frame =
      let m = one_each (λ s. frame_out_if s frame (open_ports setup down at s)) (λ s. one_out s frame (open_ports setup down at s)) 0 (length setup.ports) in
      let few = is.few in
      omega (arith, m, few)

  installed_few : (at : SwitchPort) (frame : List ℕ) (target : SwitchPort) (o : Option (List SwitchPort)) → length (installed setup at frame target o) ≤ 64
  installed_few at frame target None = omega arith
  installed_few at frame target (Some walk) =
      let ls = take 63 (legs setup at.port walk target) in
      let rows = map (path_row (unwrap_or (number_at 6 0 frame) 0)) (reverse (take 63 (legs setup at.port walk target))) in
      let a = length-map (reverse (take 63 (legs setup at.port walk target))) (path_row (unwrap_or (number_at 6 0 frame) 0)) in
      let b = length-reverse (take 63 (legs setup at.port walk target)) in
      let c = length-take 63 (legs setup at.port walk target) in
      simp length-append (omega (arith, a, b, c))

  routed_few : (down : List SwitchPort) (at : SwitchPort) (frame : List ℕ) (o : Option SwitchPort) → length (routed setup down at frame o) ≤ 64
  routed_few down at frame None = flooded_few down at frame
  routed_few down at frame (Some target) = by_same (is_same_port target at)
    where
      by_same : (b : Bool) → length (if b then [] else installed setup at frame target (route setup down at.switch target.switch)) ≤ 64
      by_same true = omega arith
      by_same false = installed_few at frame target (route setup down at.switch target.switch)

  forgetting_few : (switch port : ℕ) (o : Option SwitchPort) → length (forgetting_ends switch port o) ≤ 2
  forgetting_few switch port None = omega arith
  forgetting_few switch port (Some end) = omega arith

  -- at most 64 commands: 63 rows and a frame, or a frame for each switch
  pub commands_few : (r : Routing) (switch : ℕ) (what : Happening) → length (routing_commands setup r switch what) ≤ 64
  commands_few r switch (happening.PacketIn p) = routed_few r.down (record { switch = switch; port = p.in_port }) p.payload (place_of_destination r.hosts (number_at 6 0 p.payload))
  commands_few r switch (happening.PortStatus p) = by_up p.up
    where
      by_up : (b : Bool) → length (if b then [] else forgetting_ends switch p.port (other_end setup.links (record { switch = switch; port = p.port }))) ≤ 64
      by_up true = omega arith
      by_up false = let f = forgetting_few switch p.port (other_end setup.links (record { switch = switch; port = p.port })) in omega (arith, f)
  commands_few r switch (happening.FlowRemoved f) = omega arith

-- ---- each

-- numbers that ascend
ascend_less : (a b : ℕ) (ports : List ℕ) → a ≤ b → Ascend b ports → Ascend a ports
ascend_less a b [] less h = tt
ascend_less a b (port ∷ ports) less h = (let low = h.0 in omega (arith, low, less), h.1, h.2)

ascending : (test : ℕ → Bool) (a n : ℕ) → a + n ≤ 49 → Ascend a (filter test (range_with_len a n))
ascending test a zero few = tt
ascending test a (suc n) few =
    let rest = ascending test (a + 1) n (omega (arith, few)) in
    cond_both (test a) (a ∷ filter test (range_with_len (a + 1) n)) (filter test (range_with_len (a + 1) n)) (Ascend a)
    (λ _. (omega arith, omega (arith, few), ascend_less (suc a) (a + 1) (filter test (range_with_len (a + 1) n)) (omega arith) rest))
    (λ _. ascend_less a (a + 1) (filter test (range_with_len (a + 1) n)) (omega arith) rest)

ascend_short : (a : ℕ) (ports : List ℕ) → Ascend a ports → length ports ≤ 49 - a
ascend_short a [] h = omega arith
ascend_short a (port ∷ ports) h = let rest = ascend_short (suc port) ports h.2 in let low = h.0 in let high = h.1 in omega (arith, rest, low, high)

module _ (setup : Setup) (is : IsSetup setup) where
  open_ascend : (down : List SwitchPort) (at : SwitchPort) (switch : ℕ) → switch < length setup.ports → Ascend 1 (open_ports setup down at switch)
  open_ascend down at switch there = ascending _ 1 (slice_index setup.ports switch) (let f = (is.ports switch 0 there).1 in omega (arith, f))

  legs_there : (down : List SwitchPort) (walk : List SwitchPort) (input from : ℕ) (target : SwitchPort) → from < length setup.ports → IsWalk setup down from target.switch walk →
      AllByRecursion (λ (leg : Leg). leg.switch < length setup.ports) (legs setup input walk target)
  legs_there down [] input from target there e = (subst (λ (n : ℕ). n < length setup.ports) e there, tt)
  legs_there down (hop ∷ hops) input from target there (at, (end, link, rest)) =
      (subst (λ (n : ℕ). n < length setup.ports) (sym at) there, legs_there down hops (arrival setup hop) end.switch target (port_bounds setup is end (over_ports setup down is hop end link).1).0 rest)

  module _ (event : Event) (there : event.switch < length setup.ports) (frame : List ℕ) (short : IsShort event.what → (length frame ≤ LONGEST_FRAME) × AreBytes frame) where
    abbrev Is : Command → Type 0
    Is c = IsGoodCommand setup event c

    sent_to : (switch in_port : ℕ) (ports : List ℕ) → switch < length setup.ports → Ascend 1 ports → Is (frame_out switch in_port frame ports)
    sent_to switch in_port ports within ascend = record {
      named = within;
      few = inr ascend;
      sendable = λ s. let f = short s in let few = ascend_short 1 ports ascend in (tt, (let long = f.0 in omega (arith, long, few)), f.1);
    }

    out_if : (switch : ℕ) (ports : List ℕ) → switch < length setup.ports → Ascend 1 ports → AllByRecursion Is (frame_out_if switch frame ports)
    out_if switch ports within ascend =
        cond_both (nat_eq (length ports) 0) [] (frame_out switch TO_CONTROLLER frame ports ∷ []) (AllByRecursion Is) (λ _. tt) (λ _. (sent_to switch TO_CONTROLLER ports within ascend, tt))

    flooded_lawful : (down : List SwitchPort) (at : SwitchPort) → AllByRecursion Is (flooded setup down at frame)
    flooded_lawful down at =
        all_flat Is (λ switch. frame_out_if switch frame (open_ports setup down at switch)) 0 (length setup.ports)
        (λ k low high. out_if k (open_ports setup down at k) (omega (arith, high)) (open_ascend down at k (omega (arith, high))))

    row_lawful : (leg : Leg) → leg.switch < length setup.ports → Is (path_row (unwrap_or (number_at 6 0 frame) 0) leg)
    row_lawful leg within = record { named = within; few = tt; sendable = λ s. (addressed_valid leg.input (unwrap_or (number_at 6 0 frame) 0) (address_below frame (short s).1), omega arith, tt) }

    installed_lawful : (down : List SwitchPort) (at : SwitchPort) → at.switch ≡ event.switch → (target : SwitchPort) (o : Option (List SwitchPort)) → route setup down at.switch target.switch ≡ o →
        AllByRecursion Is (installed setup at frame target o)
    installed_lawful down at here target None e = tt
    installed_lawful down at here target (Some walk) e =
        let within = subst (λ (n : ℕ). n < length setup.ports) (sym here) there in
        let ls = take 63 (legs setup at.port walk target) in
        let all = legs_there down walk at.port at.switch target within (route_means setup down target.switch is at.switch walk e).walks in
        all_append Is (map (path_row (unwrap_or (number_at 6 0 frame) 0)) (reverse ls)) (frame_out at.switch at.port frame (first_output walk target ∷ []) ∷ [])
        (all_made (λ (leg : Leg). leg.switch < length setup.ports) Is (path_row (unwrap_or (number_at 6 0 frame) 0)) row_lawful (reverse ls)
        (all_reverse (λ (leg : Leg). leg.switch < length setup.ports) ls (all_take (λ (leg : Leg). leg.switch < length setup.ports) 63 (legs setup at.port walk target) all)))
        (record { named = within; few = inl (omega arith); sendable = λ s. let f = short s in (tt, (let long = f.0 in omega (arith, long)), f.1) }, tt)

    routed_lawful : (down : List SwitchPort) (at : SwitchPort) → at.switch ≡ event.switch → (o : Option SwitchPort) → AllByRecursion Is (routed setup down at frame o)
    routed_lawful down at here None = flooded_lawful down at
    routed_lawful down at here (Some target) =
        cond_both (is_same_port target at) [] (installed setup at frame target (route setup down at.switch target.switch)) (AllByRecursion Is) (λ _. tt)
        (λ _. installed_lawful down at here target (route setup down at.switch target.switch) refl)

  module _ (event : Event) (there : event.switch < length setup.ports) where
    gone_lawful : (switch port : ℕ) → switch < length setup.ports → IsGoodCommand setup event (forgetting_rows switch port)
    gone_lawful switch port within = record { named = within; few = tt; sendable = λ _. (any_valid, omega arith, tt) }

    ends_lawful : (port : ℕ) (o : Option SwitchPort) → other_end setup.links (record { switch = event.switch; port = port }) ≡ o → AreGoodCommands setup event (forgetting_ends event.switch port o)
    ends_lawful port None e = (gone_lawful event.switch port there, tt)
    ends_lawful port (Some end) e =
        (gone_lawful event.switch port there, (gone_lawful end.switch end.port (port_bounds setup is end (are_ports setup setup.links is.links (record { switch = event.switch; port = port }) end e).1).0, tt))

  routing_lawful : (r : Routing) (event : Event) → event.switch < length setup.ports → (what : Happening) → event.what ≡ what → AreGoodCommands setup event (routing_commands setup r event.switch what)
  routing_lawful r event there (happening.PacketIn p) e =
      routed_lawful event there p.payload (λ s. subst (λ (w : Happening). IsShort w) e s) r.down (record { switch = event.switch; port = p.in_port }) refl (place_of_destination r.hosts (number_at 6 0 p.payload))
  routing_lawful r event there (happening.PortStatus p) e =
      cond_both p.up [] (forgetting_ends event.switch p.port (other_end setup.links (record { switch = event.switch; port = p.port }))) (AreGoodCommands setup event) (λ _. tt)
      (λ _. ends_lawful event there p.port (other_end setup.links (record { switch = event.switch; port = p.port })) refl)
  routing_lawful r event there (happening.FlowRemoved f) e = tt

pub routing_laws : HasLaws routing_rule
routing_laws = record {
  lawful = λ setup is state event there. routing_lawful setup is (routing_after setup (routing_of state) event.switch event.what) event there event.what refl;
  few = λ setup is before event there. commands_few setup is (routing_after setup (routing_of (state_after routing_rule setup before)) event.switch event.what) event.switch event.what;
}
