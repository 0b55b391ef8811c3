use Rattle.std.proofs.Common.{◌-◌, not, arith, ap}
use Rattle.std.proofs.Math.ListN.{length-set}
use Rattle.of_switch.specs.State.{SwitchState}
use Rattle.of_switch.specs.Events.{with_port}
use Rattle.of_switch.proofs.Ports.{places-set}
use Rattle.of_switch.proofs.switch.Switch.set_port.Goals as goal

pub returns : goal.returns
returns c =
    let flags = c.self.inside.down.items in
    let ports = ap (λ (s : SwitchState). s.ports) c.self.view_is in
    rw (length-set flags (c.args.port - 1) (not c.args.up), places-set c.args.port (c.args.port - 1) flags c.args.up (omega arith) (omega (arith, ports)))
    (ap (λ (s : SwitchState). with_port s c.args.port c.args.up) c.self.view_is)
