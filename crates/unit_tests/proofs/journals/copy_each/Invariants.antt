use Rattle.std.proofs.Common.{◌≡◌, ◌≤◌, ◌+◌, ◌++◌, length, take, vec_len, vec_capacity}
use Rattle.unit_tests.proofs.journals.copy_each.Given as goal

abbrev pub invariant-loop-each : goal.invariant-loop-each
invariant-loop-each l = record {
  items : l.bag.items ≡ l.fn.bag.items ++ take l.each-index l.more;
  room : vec_len l.bag + length l.more ≤ vec_capacity l.bag + l.each-index;
}
