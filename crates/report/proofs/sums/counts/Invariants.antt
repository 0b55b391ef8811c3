use Rattle.std.proofs.Common.{◌≡◌, ◌≤◌, ◌*◌, ◌^◌, length, take}
use Rattle.std.specs.Prelude.{sum_by}
use Rattle.report.proofs.sums.counts.Given as goal

abbrev pub invariant-loop-told : goal.invariant-loop-told
invariant-loop-told l = record {
  events : l.events ≡ sum_by (λ t. length t.events) (take l.told-index l.switches);
  few_events : l.events ≤ 2 ^ 64 * l.told-index;
  executed : l.executed ≡ sum_by (λ t. length t.executed) (take l.told-index l.switches);
  few_executed : l.executed ≤ 2 ^ 64 * l.told-index;
  rows : l.rows ≡ sum_by (λ t. length t.rows) (take l.told-index l.switches);
  few_rows : l.rows ≤ 2 ^ 64 * l.told-index;
}
