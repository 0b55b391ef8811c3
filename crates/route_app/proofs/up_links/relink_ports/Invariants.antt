use Rattle.std.proofs.Common.{◌≡◌}
use Rattle.route_app.specs.UpLinks.{relinked_ports}
use Rattle.route_app.proofs.up_links.relink_ports.Given as goal

abbrev pub invariant-ports : goal.invariant-ports
invariant-ports l = l.table.items ≡ relinked_ports l.wires l.down l.fn.table.items l.switch l.port
