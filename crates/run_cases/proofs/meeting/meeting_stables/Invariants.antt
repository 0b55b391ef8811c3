use Rattle.std.proofs.Common.{◌≡◌, length}
use Rattle.std.specs.List.{AllByRecursion}
use Rattle.journal.specs.Stables.{pair_of}
use Rattle.run_cases.proofs.meeting.meeting_stables.Given as goal

abbrev pub invariant-making : goal.invariant-making
invariant-making l = record {
  count : length l.stables.items ≡ l.controller;
  each : AllByRecursion (λ guest. pair_of guest.stable ≡ (0, 0)) l.stables.items;
}
