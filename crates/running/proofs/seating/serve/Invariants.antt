use Rattle.std.proofs.Common.{◌≡◌, ◌+◌, ◌++◌, drop, length, vec_capacity, vec_len}
use Rattle.std.specs.Vec.Iter.{into_iter_items, into_iter_len}
use Rattle.running.specs.Runs.{served}
use Rattle.running.proofs.seating.serve.Given as goal

abbrev pub invariant-loop-controller : goal.invariant-loop-controller
invariant-loop-controller g l = record {
  beside : l.beside.items ≡ l.fn.beside.items ++ served l.yielded (into_iter_items l.fn.stables);
  stables : into_iter_items l.stables ≡ drop (length l.yielded) (into_iter_items l.fn.stables);
  left : into_iter_len l.stables + length l.yielded ≡ into_iter_len l.fn.stables;
  long : vec_len l.beside ≡ vec_len l.fn.beside + length l.yielded;
  capacity : vec_capacity l.beside ≡ vec_capacity l.fn.beside;
}
