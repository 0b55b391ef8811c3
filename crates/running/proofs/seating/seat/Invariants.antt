use Rattle.std.proofs.Common.{◌≡◌, ◌+◌, ◌++◌, drop, length, vec_capacity, vec_len}
use Rattle.std.specs.Vec.Iter.{into_iter_items, into_iter_len}
use Rattle.running.specs.Runs.{seated}
use Rattle.running.proofs.seating.seat.Given as goal

abbrev pub invariant-loop-player : goal.invariant-loop-player
invariant-loop-player g l = record {
  tasks : l.tasks.items ≡ l.fn.tasks.items ++ seated (into_iter_items l.fn.places) l.yielded;
  places : into_iter_items l.places ≡ drop (length l.yielded) (into_iter_items l.fn.places);
  left : into_iter_len l.places + length l.yielded ≡ into_iter_len l.fn.places;
  long : vec_len l.tasks ≡ vec_len l.fn.tasks + length l.yielded;
  capacity : vec_capacity l.tasks ≡ vec_capacity l.fn.tasks;
}
