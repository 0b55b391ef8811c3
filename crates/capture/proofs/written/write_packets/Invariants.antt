use Rattle.std.proofs.Common.{◌≡◌, ◌++◌, drop}
use Rattle.capture_laws.specs.Interfaces.{packets_of}
use Rattle.capture.proofs.written.write_packets.Given as goal

abbrev pub invariant-packets : goal.invariant-packets
invariant-packets l = l.out ++ packets_of l.ports (drop l.packet-index l.packets) ≡ l.initial.out ++ packets_of l.ports l.packets
