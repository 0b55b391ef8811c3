use Rattle.std.proofs.Common.{◌≡◌, [], drop, length}
use Rattle.scenario.specs.declared.scenario.FaultKind.TheVariants.{Limit}
use Rattle.scenario.specs.declared.scenario.FaultPlace.TheVariants.{Link}
use Rattle.scenario.specs.Faults.{each}
use Rattle.scenario.specs.Limits as limits
use Rattle.scenario.proofs.limits.links_within.Given as goal

abbrev pub invariant-links : goal.invariant-links
invariant-links l = record {
  so_far : each Limit Link (limits.link_within l.ports) [] l.written ≡ each Limit Link (limits.link_within l.ports) l.links (drop l.index l.written);
  count : length l.links ≡ l.index;
}
