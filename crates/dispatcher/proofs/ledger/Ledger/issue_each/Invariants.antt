use Rattle.std.proofs.Common.{◌≤◌, ◌+◌, length, vec_capacity}
use Rattle.dispatcher.proofs.Ledgers.{Issuing}
use Rattle.dispatcher.proofs.ledger.Ledger.issue_each.Given as goal

abbrev pub invariant-commands : goal.invariant-commands
invariant-commands l =
    Issuing l.fn.self l.self l.fn.commands l.command-iterator.rest.items l.issued.items × (length l.issued.items + length l.command-iterator.rest.items ≤ vec_capacity l.issued)
