use Rattle.std.proofs.Common.{◌∙◌, ◌+◌, ◌-◌, ◌<◌, ◌≤◌, false, length, inl, inr, arith, ap, sym}
use Rattle.std.specs.Prelude.{◌⊎◌}
use Rattle.std.proofs.lemmas.List.{get_or_default}
use Rattle.of_types.proofs.Places.{places-any}
use Rattle.of_switch.specs.State.{SwitchState}
use Rattle.of_switch.specs.Events.{is_port_down}
use Rattle.of_switch.proofs.Ports.{port-inside, port-outside, places-outside}
use Rattle.of_switch.proofs.switch.Switch.is_down.Goals as goal

pub returns-then-is_port : goal.returns-then-is_port
returns-then-is_port c =
    let flags = c.self.inside.down.items in
    let port = c.args.port in
    let ports = ap (λ (s : SwitchState). s.ports) c.self.view_is in
    let there = port-inside c.args.self.now port (sym c.if-is_port.ensures) in
    c.index.ensures
    ∙ get_or_default flags (port - 1) c.index.result.now false (omega (arith, ports, there.0, there.1))
    ∙ places-any port 1 (port - 1) flags (omega (arith, there.0)) (omega (arith, ports, there.0, there.1))
    ∙ ap (λ (s : SwitchState). is_port_down s port) c.self.view_is

pub returns-else-is_port : goal.returns-else-is_port
returns-else-is_port c =
    let port = c.args.port in
    let ports = ap (λ (s : SwitchState). s.ports) c.self.view_is in
    let out : (port < 1) ⊎ (1 + length c.self.inside.down.items ≤ port) =
    elim (port-outside c.args.self.now port (sym c.if-is_port.ensures)) [ inl low ↦ inl low | inr high ↦ inr (omega (arith, ports, high)) ] in
    c.if-is_port.false ∙ sym (places-outside port 1 c.self.inside.down.items out) ∙ ap (λ (s : SwitchState). is_port_down s port) c.self.view_is
