use Rattle.std.proofs.Common.{◌≡◌, drop}
use Rattle.of_switch.specs.Forwarding.{packet_in_of}
use Rattle.of_switch.specs.Drafts.{with_outputs, with_packet}
use Rattle.of_switch.proofs.switch.Switch.put_each.Given as goal

abbrev pub invariant-loop-output : goal.invariant-loop-output
invariant-loop-output l =
    with_outputs l.self (with_packet (packet_in_of l.row l.port l.frame)) l.port l.frame (drop l.output-index l.output-items) l.draft
    ≡ with_outputs l.self (with_packet (packet_in_of l.row l.port l.frame)) l.port l.frame l.row.actions l.fn.draft
