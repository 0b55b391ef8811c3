use Rattle.dispatcher.proofs.Ledgers.{Settling}
use Rattle.dispatcher.proofs.ledger.Ledger.settle_each.Given as goal

abbrev pub invariant-commands : goal.invariant-commands
invariant-commands l = Settling l.fn.self l.self l.commands l.command-index
