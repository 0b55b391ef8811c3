use Rattle.std.proofs.Common.{◌++◌, ◌∷◌, [], length, rules, refl, sym, ◌∙◌, ap, arith, length-append}
use Rattle.std.specs.Prelude.{option_to_list}
use Rattle.std.specs.Vec.Iter.{into_iter_items}
use Rattle.running.specs.Runs.{task_of}
use Rattle.running.proofs.Lists.{drop_next, nothing_seated, seated_next}
use Rattle.running.proofs.seating.seat.Goals as goal

pub loop-player-init : goal.loop-player-init
loop-player-init g c = record {
  tasks = nothing_seated c.args.tasks.now.items (into_iter_items c.args.places.now);
  places = refl;
  left = search rules;
  long = search rules;
  capacity = refl;
}

pub loop-player-preserved : goal.loop-player-preserved
loop-player-preserved g c =
    let left = ap (λ o. option_to_list o ++ into_iter_items c.next-in-loop-player.new.self) (sym c.in-Some-next.is) ∙ sym c.next-in-loop-player.ensures.items ∙ c.loop-player.invariant.places in
    let one = ap (λ o. length (option_to_list o)) c.in-Some-next.is in
    let its = c.next-in-loop-player.ensures.len in
    let more = length-append c.loop-player.yielded (c.in-Some.player ∷ []) in
    let left_before = c.loop-player.invariant.left in
    let long_before = c.loop-player.invariant.long in
    let pushed = c.push_reserved.ensures.len in
    record {
      tasks = c.push_reserved.ensures.items ∙ ap (λ t. c.loop-player.tasks.items ++ t ∷ []) c.task_at.ensures ∙ ap (λ l. l ++ task_of c.in-Some-next.place c.in-Some.player ∷ []) c.loop-player.invariant.tasks
          ∙ seated_next c.args.tasks.now.items (into_iter_items c.args.places.now) (into_iter_items c.next-in-loop-player.new.self) c.loop-player.yielded c.in-Some-next.place c.in-Some.player left;
      places = drop_next c.loop-player.yielded (into_iter_items c.args.places.now) (into_iter_items c.next-in-loop-player.new.self) c.in-Some.player c.in-Some-next.place left;
      left = omega (arith, one, its, more, left_before);
      long = omega (arith, more, long_before, pushed);
      capacity = search rules;
    }
