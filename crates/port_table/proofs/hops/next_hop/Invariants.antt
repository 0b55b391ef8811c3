use Rattle.port_table.specs.Hops.{HasNone}
use Rattle.port_table.proofs.hops.next_hop.Given as goal

abbrev pub invariant-loop-port : goal.invariant-loop-port
invariant-loop-port l = HasNone l.row l.levels l.wanted l.port
