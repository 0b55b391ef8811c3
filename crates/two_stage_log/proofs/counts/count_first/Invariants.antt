use Rattle.std.proofs.Common.{◌≡◌, ◌+◌, ◌≤◌, drop, take}
use Rattle.of_types.specs.Lives.{count_in}
use Rattle.vr_log.specs.Log.{received}
use Rattle.two_stage_log.proofs.counts.count_first.Given as goal

abbrev pub invariant-loop-entry : goal.invariant-loop-entry
invariant-loop-entry l = record {
  counted : l.count + count_in l.switch l.life (take l.left (received (drop l.entry-index l.entries))) ≡ count_in l.switch l.life (take l.events (received l.entries));
  small : l.count ≤ l.entry-index;
}
