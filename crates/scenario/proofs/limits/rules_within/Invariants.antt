use Rattle.std.proofs.Common.{◌≡◌, drop, length}
use Rattle.scenario.specs.declared.scenario.FaultKind.TheVariants.{Limit}
use Rattle.scenario.specs.declared.scenario.FaultPlace.TheVariants.{Deny}
use Rattle.scenario.specs.Faults.{each, each_alone}
use Rattle.scenario.specs.Limits as limits
use Rattle.scenario.proofs.limits.rules_within.Given as goal

abbrev pub invariant-rules : goal.invariant-rules
invariant-rules l = record {
  so_far : each_alone Limit Deny limits.rule_within l.written ≡ each Limit Deny (λ before. limits.rule_within) l.rules (drop l.index l.written);
  count : length l.rules ≡ l.index;
}
