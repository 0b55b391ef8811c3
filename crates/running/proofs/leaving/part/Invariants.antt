use Rattle.std.proofs.Common.{◌≡◌, ◌++◌, map, vec_capacity}
use Rattle.running.specs.Runs.{controller_of, stable_of}
use Rattle.running.proofs.leaving.part.Given as goal

abbrev pub invariant-loop-one : goal.invariant-loop-one
invariant-loop-one g l = record {
  controllers : l.controllers.items ≡ l.fn.controllers.items ++ map controller_of l.yielded;
  stables : l.stables.items ≡ l.fn.stables.items ++ map stable_of l.yielded;
  capacity : vec_capacity l.controllers ≡ vec_capacity l.fn.controllers;
  capacity2 : vec_capacity l.stables ≡ vec_capacity l.fn.stables;
}
