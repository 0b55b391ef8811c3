use Rattle.std.proofs.Common.{◌≡◌, replicate}
use Rattle.flow_table.proofs.changes.copies_of.Given as goal

abbrev pub invariant-loop : goal.invariant-loop
invariant-loop l = l.copies.items ≡ replicate l.counter l.change.actions
