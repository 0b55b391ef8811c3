use Rattle.std.proofs.Common.{◌≡◌, ◌++◌, drop}
use Rattle.of_messages.specs.Canonical.{actions_of}
use Rattle.of_messages.proofs.writing.put_actions.Given as goal

abbrev pub invariant-loop-port : goal.invariant-loop-port
invariant-loop-port l = l.out ++ actions_of (drop l.port-index l.ports) ≡ l.fn.out ++ actions_of l.ports
