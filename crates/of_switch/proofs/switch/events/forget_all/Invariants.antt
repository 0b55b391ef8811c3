use Rattle.std.proofs.Common.{◌≡◌, drop}
use Rattle.of_switch.specs.Drafts.{forgets}
use Rattle.of_switch.proofs.switch.events.forget_all.Given as goal

abbrev pub invariant-loop-port : goal.invariant-loop-port
invariant-loop-port l =
    record l.history { buffer = forgets (drop l.port-index l.ports) l.history.buffer }
    ≡ record l.fn.history { buffer = forgets l.ports l.fn.history.buffer }
