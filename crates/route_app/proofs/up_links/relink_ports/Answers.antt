use Rattle.std.proofs.Common.{sym}
use Rattle.route_app.proofs.Relinking.{no_ports, ports_more}
use Rattle.route_app.proofs.up_links.relink_ports.Goals as goal

pub ports-init : goal.ports-init
ports-init c = sym (no_ports c.args.wires.now c.args.down.now c.args.table.now.items c.args.switch)

pub ports-preserved : goal.ports-preserved
ports-preserved c =
    ports_more c.args.wires.now c.args.down.now c.args.table.now.items c.args.switch c.ports.port c.ports.table.items c.relink.new.table.items c.ports.invariant c.relink.ensures
