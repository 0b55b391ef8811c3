-- What routing does is the step of its kind.
use Rattle.std.proofs.Common.{◌≡◌, ◌<◌, ◌≤◌, ◌+◌, ℕ, Bool, true, false, List, [], ◌∷◌, ◌++◌, length, Option, Some, None, refl, sym, ap, ◌∙◌, subst, arith}
use Rattle.std.specs.Prelude.{nat_eq, nat_lt, ◌&&◌, if◌then◌else◌}
use Rattle.std.proofs.lemmas.Bool.{and_parts, le-ltb, lt-ltb}
use Rattle.std.proofs.lemmas.List.{append-nil}
use Rattle.of_types.specs.declared.message.Command.{Command}
use Rattle.of_types.specs.declared.message.Event.{Event}
use Rattle.of_types.specs.declared.message.Happening.TheVariants as happening
use Rattle.of_types.specs.declared.message.PacketIn.{PacketIn}
use Rattle.of_types.specs.declared.message.PortStatus.{PortStatus}
use Rattle.of_types.specs.declared.numbers.TheConstants.{ANY_PORT}
use Rattle.of_types.specs.declared.setup.Setup.{Setup}
use Rattle.of_types.specs.Header.{number_at}
use Rattle.of_types.specs.Lives.{is_switch_up}
use Rattle.of_types.specs.Setups.{IsSetup}
use Rattle.app_core.specs.declared.host.Host.{Host}
use Rattle.app_core.specs.declared.switch_port.SwitchPort.{SwitchPort}
use Rattle.app_core.specs.Chain.{flat_routing, most_given, part_next, routing}
use Rattle.app_core.specs.Learning.{is_single}
use Rattle.app_core.specs.Parts.{PartSteps}
use Rattle.app_core.specs.Routes.{route, IsWalk}
use Rattle.app_core.specs.Routing.{placed_host, with_place, place_of_destination, installed, routed, forgetting_ends, routing_commands}
use Rattle.app_core.proofs.Paths.{routing_more, routing_steps}
use Rattle.route_app.specs.declared.part.Known.{Known}
use Rattle.route_app.specs.declared.wires.Wires.{Wires}
use Rattle.route_app.specs.Knowing.{source_over, routing_in, changed, restarted_routing, Reacts}
use Rattle.route_app.specs.Places.{hosts_on}
use Rattle.route_app.specs.Wired.{IsWires, end_over}
use Rattle.app_core.proofs.Linked.{over_ports, port_bounds}
use Rattle.app_core.proofs.Routes.{route_means}
use Rattle.route_app.proofs.Wiring.{end_is, edge_is}

-- a walk ends at a switch of the setup, if it begins at one
walk_within : (setup : Setup) (down : List SwitchPort) → IsSetup setup → (walk : List SwitchPort) (from to : ℕ) → from < length setup.ports → IsWalk setup down from to walk → to < length setup.ports
walk_within setup down is [] from to h e = subst (λ n. n < length setup.ports) e h
walk_within setup down is (hop ∷ hops) from to h (at, (end, link, rest)) =
    walk_within setup down is hops end.switch to (port_bounds setup is end (over_ports setup down is hop end link).1).0 rest

pub no_far_route : (setup : Setup) (down : List SwitchPort) → IsSetup setup → (from to : ℕ) → from < length setup.ports → length setup.ports ≤ to → route setup down from to ≡ None
no_far_route setup down is from to h far = by_route (route setup down from to) refl
  where
    by_route : (o : Option (List SwitchPort)) → route setup down from to ≡ o → route setup down from to ≡ None
    by_route None e = e
    by_route (Some walk) e = absurd (let t = walk_within setup down is walk from to h (route_means setup down to is from walk e).walks in omega (arith, t, far))

module _ (setup : Setup) where
  pub source_is : (wires : Wires) → IsWires setup wires → (hosts : List Host) (at : SwitchPort) (o : Option ℕ) → source_over wires hosts at o ≡ with_place setup hosts at o
  source_is wires w hosts at None = refl
  source_is wires w hosts at (Some address) = ap (λ b. if b && is_single address then placed_host hosts address at else hosts) (edge_is setup wires w at)

  -- nothing is sent to a switch that there is not
  pub far_silent : (down : List SwitchPort) (wires : Wires) → IsWires setup wires → (at : SwitchPort) (frame : List ℕ) (target : SwitchPort) → at.switch < length setup.ports → wires.switches ≤ target.switch → (before : List Command) →
      before ≡ before ++ installed setup at frame target (route setup down at.switch target.switch)
  far_silent down wires w at frame target h far before =
      let n = w.switches in
      rw (no_far_route setup down w.is at.switch target.switch h (omega (arith, n, far))) (sym (append-nil before))

  -- a frame
  pub frame_reacts : (wires : Wires) → IsWires setup wires → (old new : Known) (switch : ℕ) (p : PacketIn) (seen : Option SwitchPort) (before after : List Command) →
      hosts_on new.places.entries ≡ source_over wires (hosts_on old.places.entries) (record { switch = switch; port = p.in_port }) (number_at 6 6 p.payload) →
      new.links.down.items ≡ old.links.down.items →
      seen ≡ place_of_destination (hosts_on new.places.entries) (number_at 6 0 p.payload) →
      after ≡ before ++ routed setup old.links.down.items (record { switch = switch; port = p.in_port }) p.payload seen →
      Reacts setup old new switch (happening.PacketIn p) before after
  frame_reacts wires w old new switch p seen before after hosts down is_seen out =
      record {
        knows = rw (down, hosts ∙ source_is wires w (hosts_on old.places.entries) (record { switch = switch; port = p.in_port }) (number_at 6 6 p.payload)) refl;
        asks = rw down (out ∙ ap (λ o. before ++ routed setup old.links.down.items (record { switch = switch; port = p.in_port }) p.payload o) is_seen);
      }

  -- a port
  pub port_reacts : (wires : Wires) → IsWires setup wires → (old new : Known) (switch : ℕ) (p : PortStatus) (before after : List Command) → is_switch_up (happening.PortStatus p) ≡ false →
      routing_in new ≡ changed (routing_in old) switch p →
      after ≡ before ++ (if p.up then [] else forgetting_ends switch p.port (end_over wires (record { switch = switch; port = p.port }))) →
      Reacts setup old new switch (happening.PortStatus p) before after
  port_reacts wires w old new switch p before after plain knows out =
      record {
        knows = knows ∙ (rw plain refl);
        asks = out ∙ ap (λ o. before ++ (if p.up then [] else forgetting_ends switch p.port o)) (end_is setup wires w (record { switch = switch; port = p.port }));
      }

  -- a switch
  pub switch_reacts : (old new : Known) (switch : ℕ) (p : PortStatus) (before : List Command) → is_switch_up (happening.PortStatus p) ≡ true → routing_in new ≡ restarted_routing (routing_in old) switch →
      Reacts setup old new switch (happening.PortStatus p) before before
  switch_reacts old new switch p before up knows =
      let parts = and_parts (nat_eq p.reason 0 && nat_eq p.port ANY_PORT) p.up up in
      record { knows = knows ∙ (rw up refl); asks = rw parts.1 (sym (append-nil before)) }

  -- what it ensures for an event
  module _ (wires : Wires) (w : IsWires setup wires) (old : Known) (event : Event) where
    there_is : (b : Bool) → nat_lt event.switch wires.switches ≡ b → nat_lt event.switch (length setup.ports) ≡ b
    there_is b e = ap (λ n. nat_lt event.switch n) (sym w.switches) ∙ e

    pub reacts : (new : Known) (before after : List Command) → event.switch < wires.switches → Reacts setup old new event.switch event.what before after →
        PartSteps (part_next routing setup (flat_routing (routing_in old)) event) (flat_routing (routing_in new)) before after false × (length after ≤ length before + most_given routing)
    reacts new before after low h =
        let in_setup = there_is true (lt-ltb event.switch wires.switches low) in
        let asks = h.asks ∙ ap (λ r. before ++ routing_commands setup r event.switch event.what) h.knows in
        (routing_steps setup (routing_in old) event (routing_in new) before after (rw in_setup h.knows) (rw in_setup asks), routing_more setup (routing_in old) event w.is before after asks)

    pub passes : (before : List Command) → wires.switches ≤ event.switch →
        PartSteps (part_next routing setup (flat_routing (routing_in old)) event) (flat_routing (routing_in old)) before before false × (length before ≤ length before + most_given routing)
    passes before high =
        let out = there_is false (le-ltb event.switch wires.switches high) in
        (routing_steps setup (routing_in old) event (routing_in old) before before (rw out refl) (rw out (sym (append-nil before))), omega arith)
