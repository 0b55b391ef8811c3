use Rattle.audit.proofs.Issues.{IssuingAll}
use Rattle.audit.proofs.issuing.issue_all.Given as goal

abbrev pub invariant-events : goal.invariant-events
invariant-events l = IssuingAll l.events l.fn.lists.items l.event-index l.lists.rest.items l.names l.issuer
