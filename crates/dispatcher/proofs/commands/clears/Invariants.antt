use Rattle.std.proofs.Common.{◌≡◌, ◌≤◌, map, filter}
use Rattle.std.specs.List.{range_with_len}
use Rattle.dispatcher.specs.Few.{values_in}
use Rattle.dispatcher.specs.Ledger.{cleared_of_life, has_told}
use Rattle.dispatcher.proofs.commands.clears.Given as goal

abbrev pub invariant-loop-switch : goal.invariant-loop-switch
invariant-loop-switch l = (l.switch ≤ l.switches) × (values_in l.list ≡ map (cleared_of_life l.ledger) (filter (has_told l.ledger l.commands) (range_with_len 0 l.switch)))
