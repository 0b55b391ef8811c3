use Rattle.std.proofs.Common.{◌≡◌, drop, []}
use Rattle.capture_laws.specs.Interfaces.{ports_from}
use Rattle.capture.proofs.interfaces.ports_of.Given as goal

abbrev pub invariant-packets : goal.invariant-packets
invariant-packets l = ports_from (drop l.packet-index l.packets) l.ports ≡ ports_from l.packets []
