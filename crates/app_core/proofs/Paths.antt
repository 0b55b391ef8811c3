-- A step of routing, over what it knows.
use Rattle.std.proofs.Common.{◌≡◌, ◌≤◌, ◌+◌, ◌*◌, ◌++◌, Bool, true, false, List, [], ◌∷◌, length, refl, sym, ap, subst, arith, length-append}
use Rattle.std.specs.Prelude.{nat_lt, if◌then◌else◌}
use Rattle.std.proofs.lemmas.List.{take_at, drop_at}
use Rattle.of_types.specs.declared.message.Command.{Command}
use Rattle.of_types.specs.declared.message.Event.{Event}
use Rattle.of_types.specs.declared.setup.Setup.{Setup}
use Rattle.of_types.specs.Setups.{IsSetup}
use Rattle.app_core.specs.declared.host.Host.{Host}
use Rattle.app_core.specs.declared.switch_port.SwitchPort.{SwitchPort}
use Rattle.app_core.specs.Chain.{flat, flat_ports, ports_of, flat_routing, routing_of, routing, routing_rule, routing_step, most_given, part_next, starting}
use Rattle.app_core.specs.PartRule.{PartRule, rule_step}
use Rattle.app_core.specs.Parts.{PartSteps}
use Rattle.app_core.specs.Routing.{Routing, routing_after, routing_commands}
use Rattle.app_core.proofs.Hosts.{hosts_of-flat}
use Rattle.app_core.proofs.RoutingLaws.{commands_few}
use Rattle.app_core.proofs.Rows.{routing_row}

pub routing_starts : starting routing ≡ 0 ∷ []
routing_starts = ap (λ (rule : PartRule). rule.starts) routing_row

pub routing_most : most_given routing ≡ 64
routing_most = ap (λ (rule : PartRule). rule.most) routing_row

length-flat : (hosts : List Host) → length (flat hosts) ≡ 3 * length hosts
length-flat [] = refl
length-flat (h ∷ hosts) = let l = length-flat hosts in omega (arith, l)

ports_of-flat : (ports : List SwitchPort) → ports_of (flat_ports ports) ≡ ports
ports_of-flat [] = refl
ports_of-flat (p ∷ ports) = ap (λ l. p ∷ l) (ports_of-flat ports)

pub routing_of-flat : (r : Routing) → routing_of (flat_routing r) ≡ r
routing_of-flat r =
    rw (take_at (flat r.hosts) (flat_ports r.down) (3 * length r.hosts) (length-flat r.hosts), drop_at (flat r.hosts) (flat_ports r.down) (3 * length r.hosts) (length-flat r.hosts), hosts_of-flat r.hosts, ports_of-flat r.down) refl

module _ (setup : Setup) (r : Routing) (event : Event) where
  abbrev knows_after : Routing
  knows_after = routing_after setup r event.switch event.what

  abbrev asked : List Command
  asked = routing_commands setup knows_after event.switch event.what

  choice : (b : Bool) → nat_lt event.switch (length setup.ports) ≡ b →
      rule_step routing_rule setup (flat_routing r) event
      ≡ record { state = flat_routing (if b then knows_after else r); commands = if b then asked else []; stops = false }
  choice true there = rw there (ap (λ (x : Routing). routing_step setup x event) (routing_of-flat r))
  choice false there = rw there refl

  -- what a part of this kind ensures, by what it knows and its commands
  pub routing_steps : (new : Routing) (before after : List Command) →
      new ≡ (if nat_lt event.switch (length setup.ports) then knows_after else r) →
      after ≡ before ++ (if nat_lt event.switch (length setup.ports) then asked else []) →
      PartSteps (part_next routing setup (flat_routing r) event) (flat_routing new) before after false
  unfolding part_next
  routing_steps new before after knows asks =
      subst (λ (rule : PartRule). PartSteps (rule_step rule setup (flat_routing r) event) (flat_routing new) before after false) (sym routing_row)
      (rw (choice (nat_lt event.switch (length setup.ports)) refl) (record { state_is = ap flat_routing knows; commands_are = asks; stops_is = refl }))

  -- how many commands it appends
  pub routing_more : IsSetup setup → (before after : List Command) → after ≡ before ++ asked → length after ≤ length before + most_given routing
  routing_more is before after asks = rw asks (omega (arith, routing_most, length-append before asked, commands_few setup is knows_after event.switch event.what))
