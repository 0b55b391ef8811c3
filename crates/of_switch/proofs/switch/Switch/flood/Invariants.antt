use Rattle.of_switch.proofs.Ports.{Flooding}
use Rattle.of_switch.proofs.switch.Switch.flood.Given as goal

abbrev pub invariant-loop-index : goal.invariant-loop-index
invariant-loop-index l = Flooding l.self l.in_port l.frame l.fn.draft l.index l.count l.draft
