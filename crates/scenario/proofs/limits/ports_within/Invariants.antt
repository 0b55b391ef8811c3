use Rattle.std.proofs.Common.{◌≡◌, drop, length}
use Rattle.scenario.specs.declared.scenario.FaultKind.TheVariants.{Limit}
use Rattle.scenario.specs.declared.scenario.FaultPlace.TheVariants.{Switch}
use Rattle.scenario.specs.Faults.{each, each_alone}
use Rattle.scenario.specs.Limits as limits
use Rattle.scenario.proofs.limits.ports_within.Given as goal

abbrev pub invariant-switches : goal.invariant-switches
invariant-switches l = record {
  so_far : each_alone Limit Switch limits.ports_within l.switches ≡ each Limit Switch (λ before. limits.ports_within) l.counts (drop l.index l.switches);
  count : length l.counts ≡ l.index;
}
