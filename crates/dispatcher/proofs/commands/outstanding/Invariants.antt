use Rattle.std.proofs.Common.{◌≡◌, take, map, filter}
use Rattle.dispatcher.specs.Few.{values_in}
use Rattle.dispatcher.specs.Ledger.{as_numbered, is_outstanding}
use Rattle.dispatcher.proofs.commands.outstanding.Given as goal

abbrev pub invariant-loop-command : goal.invariant-loop-command
invariant-loop-command l = values_in l.list ≡ map (as_numbered l.ledger) (filter (is_outstanding l.ledger l.marks.marks) (take l.command-index l.command-items))
