use Rattle.std.proofs.Common.{rules, ◌≡◌, ◌∙◌, ◌∷◌, [], ◌++◌, ap, sym, map, length, length-append, append_assoc, append-nil, arith}
use Rattle.std.proofs.lemmas.List.{length-map, nil_from_length}
use Rattle.thread_rules.specs.Rules.{worst}
use Rattle.running.specs.Runs.{first_stop, seat_place_of, player_of}
use Rattle.running.proofs.Stops.{map_next, stops_next}
use Rattle.running.proofs.leaving.take_apart.Goals as goal

pub loop-task-preserved : goal.loop-task-preserved
loop-task-preserved g c = record {
  rest = c.loop-task.invariant.rest ∙ ap (λ l. c.loop-task.yielded ++ l) c.in-Some.ensures.steps.0 ∙ sym (append_assoc c.loop-task.yielded (c.in-Some.task ∷ []) c.next.new.self.rest.items);
  places = map_next seat_place_of c.push_reserved.new.self.items c.loop-task.places.items c.args.places.now.items c.loop-task.yielded c.in-Some.task c.push_reserved.ensures.items c.loop-task.invariant.places;
  players = map_next player_of c.push_reserved-in-loop-task.new.self.items c.loop-task.players.items c.args.players.now.items c.loop-task.yielded c.in-Some.task c.push_reserved-in-loop-task.ensures.items c.loop-task.invariant.players;
  capacity = search rules;
  capacity2 = search rules;
  stop = c.worst-stop.ensures ∙ ap (λ s. worst s c.in-Some.task.stop) c.loop-task.invariant.stop ∙ sym (stops_next c.args.first c.loop-task.yielded c.in-Some.task);
}

pub returns-clause-stop : goal.returns-clause-stop
returns-clause-stop g c =
    let rest = c.loop-task.task-iterator.rest in
    let end : rest.items ≡ [] = nil_from_length rest.items (sym rest.ok.0 ∙ c.in-None.ensures.steps.0) in
    let whole = c.loop-task.invariant.rest ∙ ap (λ l. c.loop-task.yielded ++ l) end ∙ append-nil c.loop-task.yielded in
    c.loop-task.invariant.stop ∙ ap (λ l. first_stop c.args.first l) (sym whole)

pub returns-clause-long : goal.returns-clause-long
returns-clause-long g c =
    let rest = c.loop-task.task-iterator.rest in
    let end : rest.items ≡ [] = nil_from_length rest.items (sym rest.ok.0 ∙ c.in-None.ensures.steps.0) in
    let whole = c.loop-task.invariant.rest ∙ ap (λ l. c.loop-task.yielded ++ l) end ∙ append-nil c.loop-task.yielded in
    let tasks = ap (λ l. length l) whole in
    let places = ap (λ l. length l) c.loop-task.invariant.places ∙ length-append c.args.places.now.items (map seat_place_of c.loop-task.yielded) in
    let players = ap (λ l. length l) c.loop-task.invariant.players ∙ length-append c.args.players.now.items (map player_of c.loop-task.yielded) in
    let each = length-map c.loop-task.yielded seat_place_of in
    let both = length-map c.loop-task.yielded player_of in
    let a = c.loop-task.places.ok.0 in
    let b = c.loop-task.players.ok.0 in
    let d = c.args.places.now.ok.0 in
    let e = c.args.players.now.ok.0 in
    let f = c.args.tasks.ok.0 in
    (omega (arith, tasks, places, each, a, d, f), omega (arith, tasks, players, both, b, e, f))
