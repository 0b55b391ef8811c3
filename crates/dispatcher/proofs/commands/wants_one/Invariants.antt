use Rattle.std.proofs.Common.{◌≡◌, length}
use Rattle.std.specs.List.{list_any}
use Rattle.dispatcher.specs.Ledger.{first_commands, wants}
use Rattle.dispatcher.proofs.commands.wants_one.Given as goal

abbrev pub invariant-commands : goal.invariant-commands
invariant-commands l = list_any (wants l.ledger l.marks.marks) l.commands ≡ list_any (wants l.ledger l.marks.marks) (first_commands l.ledger.pending.items)

abbrev pub decreases-commands : goal.decreases-commands
decreases-commands l = length l.commands
