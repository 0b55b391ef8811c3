use Rattle.std.proofs.Common.{◌≡◌, ◌++◌, ◌+◌, vec_capacity, vec_len}
use Rattle.std.specs.Vec.Iter.{into_iter_items, into_iter_len}
use Rattle.running.proofs.leaving.put_back.Given as goal

abbrev pub invariant-rest : goal.invariant-rest
invariant-rest g l = record {
  items : l.list.items ++ into_iter_items l.rest ≡ l.fn.list.items ++ into_iter_items l.fn.rest;
  long : vec_len l.list + into_iter_len l.rest ≡ vec_len l.fn.list + into_iter_len l.fn.rest;
  capacity : vec_capacity l.list ≡ vec_capacity l.fn.list;
}

abbrev pub decreases-rest : goal.decreases-rest
decreases-rest g l = into_iter_len l.rest
