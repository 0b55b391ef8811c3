use Rattle.std.proofs.Common.{◌≡◌, map, drop, length}
use Rattle.serde_json.specs.View.{view}
use Rattle.scenario.specs.declared.scenario.FaultKind.TheVariants.{Shape}
use Rattle.scenario.specs.Faults.{each, each_alone}
use Rattle.scenario.proofs.reading.read_each.Given as goal

abbrev pub invariant-values : goal.invariant-values
invariant-values g l = record {
  so_far : each_alone Shape g.L.Listed.stands g.L.Listed.said (map view l.values) ≡ each Shape g.L.Listed.stands (λ before. g.L.Listed.said) l.items (map view (drop l.index l.values));
  count : length l.items ≡ l.index;
}
