use Rattle.std.proofs.Common.{◌≡◌, ◌≤◌, ◌+◌, ◌++◌, map, take, Some}
use Rattle.std.specs.Vec.{vec_len, vec_capacity}
use Rattle.journal.proofs.order.push_each.Given as goal

abbrev pub invariant-loop-index : goal.invariant-loop-index
invariant-loop-index g l = record {
  items : l.slots.items ≡ l.fn.slots.items ++ map (λ letter. Some letter.to) (take l.index l.letters);
  room : vec_len l.slots + l.count ≤ vec_capacity l.slots + l.index;
}
