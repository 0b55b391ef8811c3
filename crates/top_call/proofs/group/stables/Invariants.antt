use Rattle.std.proofs.Common.{◌≡◌, length}
use Rattle.std.specs.List.{AllByRecursion}
use Rattle.journal.specs.Stables.{pair_of}
use Rattle.top_call.proofs.group.stables.Given as goal

abbrev pub invariant-making : goal.invariant-making
invariant-making l = record {
  count : length l.stables.items ≡ l.counter;
  each : AllByRecursion (λ stable. pair_of stable ≡ (0, 0)) l.stables.items;
}
