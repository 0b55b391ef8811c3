use Rattle.std.proofs.Common.{◌∙◌, true, false, sym, refl}
use Rattle.of_switch.specs.Events.{is_port_down}
use Rattle.of_switch.proofs.Ports.{up-there}
use Rattle.of_switch.proofs.switch.Switch.is_up.Goals as goal

pub returns-then-is_port : goal.returns-then-is_port
returns-then-is_port c = up-there c.args.self.now c.args.port true c.is_down.result (sym c.if-is_port.ensures) (sym c.is_down.ensures)

pub returns-else-is_port : goal.returns-else-is_port
returns-else-is_port c = c.if-is_port.false ∙ up-there c.args.self.now c.args.port false (is_port_down c.args.self.now c.args.port) (sym c.if-is_port.ensures) refl
