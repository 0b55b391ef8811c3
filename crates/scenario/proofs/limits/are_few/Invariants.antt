use Rattle.std.proofs.Common.{◌≡◌, ◌≤◌, take}
use Rattle.std.specs.List.{sum_by}
use Rattle.scenario.specs.declared.limits.TheConstants.{MOST_STEPS}
use Rattle.scenario.specs.Limits.{times_of}
use Rattle.scenario.proofs.limits.are_few.Given as goal

abbrev pub invariant-loop-step : goal.invariant-loop-step
invariant-loop-step l = record {
  counted : l.turns ≡ sum_by times_of (take l.step-index l.steps);
  few : l.turns ≤ MOST_STEPS;
}
