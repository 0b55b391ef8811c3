use Rattle.std.proofs.Common.{◌≡◌, ◌≤◌, ◌+◌, ◌++◌, length, map, take, vec_len, vec_capacity}
use Rattle.journal.specs.Mailbags.{moved}
use Rattle.journal.proofs.packed.add_slips.Given as goal

abbrev pub invariant-loop-slip : goal.invariant-loop-slip
invariant-loop-slip l = record {
  items : l.slips.items ≡ l.fn.slips.items ++ map (moved l.base) (take l.slip-index l.more);
  room : vec_len l.slips + length l.more ≤ vec_capacity l.slips + l.slip-index;
}
