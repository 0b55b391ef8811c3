use Rattle.std.proofs.Common.{◌≡◌, ◌≤◌, ◌*◌, ◌^◌, length, take, map}
use Rattle.std.specs.Prelude.{sum_by}
use Rattle.world_record.specs.Shows as shows
use Rattle.world_record.proofs.told.told_counts.Given as goal

abbrev pub invariant-loop-switch : goal.invariant-loop-switch
invariant-loop-switch g l = record {
  events : l.events ≡ sum_by (λ t. length t.events) (map shows.told_of (take l.switch-index l.switch-items));
  few_events : l.events ≤ 2 ^ 64 * l.switch-index;
  executed : l.executed ≡ sum_by (λ t. length t.executed) (map shows.told_of (take l.switch-index l.switch-items));
  few_executed : l.executed ≤ 2 ^ 64 * l.switch-index;
  rows : l.rows ≡ sum_by (λ t. length t.rows) (map shows.told_of (take l.switch-index l.switch-items));
  few_rows : l.rows ≤ 2 ^ 64 * l.switch-index;
}
