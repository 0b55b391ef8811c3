use Rattle.std.proofs.Common.{◌≡◌, ◌++◌, drop}
use Rattle.capture_laws.specs.Interfaces.{interfaces}
use Rattle.capture.proofs.interfaces.write_interfaces.Given as goal

abbrev pub invariant-ports : goal.invariant-ports
invariant-ports l = l.out ++ interfaces (drop l.port-index l.ports) ≡ l.initial.out ++ interfaces l.ports
