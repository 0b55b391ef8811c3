use Rattle.std.proofs.Common.{◌≡◌, ◌≤◌, take}
use Rattle.world_record.specs.Shows.{head_turns}
use Rattle.world_record.proofs.turns_in.Given as goal

abbrev pub invariant-loop-head : goal.invariant-loop-head
invariant-loop-head l = record {
  counted : l.turns ≡ head_turns (take l.head-index l.heads);
  few : l.turns ≤ l.head-index;
}
