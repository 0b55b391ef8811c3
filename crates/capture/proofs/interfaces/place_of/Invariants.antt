use Rattle.std.proofs.Common.{◌≡◌, ◌+◌, drop}
use Rattle.capture_laws.specs.Interfaces.{interface_place_of}
use Rattle.capture.proofs.interfaces.place_of.Given as goal

abbrev pub invariant-ports : goal.invariant-ports
invariant-ports l = l.place + interface_place_of l.port (drop l.place l.ports) ≡ interface_place_of l.port l.ports
