use Rattle.std.proofs.Common.{◌≡◌, ◌≤◌, length, take, drop, map, [], None, vec_capacity}
use Rattle.shared_wire.specs.Rule.{seat_view_of}
use Rattle.shared_wire.specs.Places.{fresh}
use Rattle.shared_wire.proofs.board.seat_all.Given as goal

abbrev pub invariant-loop-actor : goal.invariant-loop-actor
invariant-loop-actor g l = record {
  table : l.first.table_id ≡ l.initial.first.table_id;
  id : l.first.id ≡ 0;
  me : l.first.me ≡ (seat_view_of [] (take l.actor-index l.actors) (drop l.actor-index l.actors) None, []);
  places : l.places.items ≡ map (fresh l.initial.first.table_id) (take l.actor-index l.actors);
  room : length l.actors ≤ vec_capacity l.places;
}
