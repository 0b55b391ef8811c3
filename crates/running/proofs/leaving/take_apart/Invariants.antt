use Rattle.std.proofs.Common.{◌≡◌, ◌++◌, map, vec_capacity}
use Rattle.running.specs.Runs.{first_stop, seat_place_of, player_of}
use Rattle.running.proofs.leaving.take_apart.Given as goal

abbrev pub invariant-loop-task : goal.invariant-loop-task
invariant-loop-task g l = record {
  rest : l.fn.tasks.items ≡ l.yielded ++ l.task-iterator.rest.items;
  places : l.places.items ≡ l.fn.places.items ++ map seat_place_of l.yielded;
  players : l.players.items ≡ l.fn.players.items ++ map player_of l.yielded;
  capacity : vec_capacity l.places ≡ vec_capacity l.fn.places;
  capacity2 : vec_capacity l.players ≡ vec_capacity l.fn.players;
  stop : l.stop ≡ first_stop l.fn.first l.yielded;
}
