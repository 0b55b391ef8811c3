use Rattle.audit.proofs.Issues.{Issuing}
use Rattle.audit.proofs.issuing.Issuer.issue_each.Given as goal

abbrev pub invariant-commands : goal.invariant-commands
invariant-commands l = Issuing l.fn.self l.self l.fn.commands l.command-iterator.rest.items l.names
