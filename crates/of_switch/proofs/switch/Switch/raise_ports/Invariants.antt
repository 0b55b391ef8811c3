use Rattle.std.proofs.Common.{◌≡◌, ◌+◌, ◌-◌, ◌≤◌, drop, length}
use Rattle.event_buffer.specs.Buffer.{most_held}
use Rattle.of_switch.specs.Drafts.{with_ports}
use Rattle.of_switch.proofs.switch.Switch.raise_ports.Given as goal

abbrev pub invariant-loop-port : goal.invariant-loop-port
invariant-loop-port l = record {
  so : with_ports l.self (drop l.port-index l.ports) l.draft ≡ with_ports l.self l.ports l.fn.draft;
  room : l.draft.held + (length l.ports - l.port-index) ≤ most_held;
}
