use Rattle.std.proofs.Common.{◌≡◌, ◌++◌, ℕ, length, map, drop, sym, ◌∙◌, ap, subst, arith}
use Rattle.std.specs.Prelude.{All, vec_len}
use Rattle.std.specs.Vec.Iter.{into_iter_items}
use Rattle.std.proofs.lemmas.List.Elements.{All-append}
use Rattle.shared_wire.specs.Places.{fresh, IsPartOf, PlaceState}
use Rattle.shared_wire.specs.Rule.{AreNamed}
use Rattle.running.specs.Playing.{ServedPlays, SwitchPlays}
use Rattle.running.specs.Runs.{controller_of, first_stop, seat_place_of, player_of, seated, served, stable_of}
use Rattle.running.specs.Tasks.{AllRan, MayBegin}
use Rattle.running.proofs.Distinct.{how_many}
use Rattle.running.proofs.Lists.{behind_none, contains_each, map_long, no_items, served_long}
use Rattle.running.proofs.Seats.{actors_stay, all_seated, boards_stay, members_seated, others_seated}
use Rattle.running.proofs.run.play_together.Goals as goal

pub seat-requires-clause-room : goal.seat-requires-clause-room
seat-requires-clause-room g c =
    let none = c.requires.room.none in
    let room = c.requires.room.members in
    let long = c.serve.ensures.long in
    omega (arith, none.0, none.1, room, long)

pub seat-requires-clause-places : goal.seat-requires-clause-places
seat-requires-clause-places g c =
    let none = c.requires.room.none in
    let long = c.serve.ensures.long in
    let all = ap length c.requires.places ∙ map_long (fresh c.args.ready.board.id) c.args.ready.board.actors ∙ ap length c.requires.actors ∙ how_many (length c.args.controllers.items) (length c.args.switches.items) in
    let its = c.args.ready.places.ok.0 in
    let group = c.args.controllers.ok.0 in
    let places = c.into_iter-places.ensures.len in
    omega (arith, none.0, long, all, its, group, places)

pub seat-requires-2-clause-places : goal.seat-requires-2-clause-places
seat-requires-2-clause-places g c =
    let none = c.requires.room.none in
    let long = c.serve.ensures.long in
    let left = c.seat.ensures.left in
    let all = ap length c.requires.places ∙ map_long (fresh c.args.ready.board.id) c.args.ready.board.actors ∙ ap length c.requires.actors ∙ how_many (length c.args.controllers.items) (length c.args.switches.items) in
    let its = c.args.ready.places.ok.0 in
    let group = c.args.controllers.ok.0 in
    let count = c.args.switches.ok.0 in
    let places = c.into_iter-places.ensures.len in
    omega (arith, none.0, long, left, all, its, group, count, places)

pub run_both-members-requires-clause-members : goal.run_both-members-requires-clause-members
run_both-members-requires-clause-members g c = λ κs bounds.
    let none = c.requires.room.none in
    subst (λ l. All (MayBegin (ServedPlays g.A.App.law g.W.Stable.saving g.B.Body.sealing) c.args.ready.board.id c.args.steps.now) l)
    (sym (members_seated c.seat.new.tasks.items c.args.ready.members.items _ c.args.ready.places.items c.serve.new.beside.items c.args.ready.served.items c.args.controllers.items _ c.args.stables.now.items
    c.seat.ensures.tasks (no_items c.args.ready.members.len c.args.ready.members.items c.args.ready.members.ok.0 none.1) c.into_iter-places.ensures.rest
    c.serve.ensures.served (no_items c.args.ready.served.len c.args.ready.served.items c.args.ready.served.ok.0 none.0) (c.into_iter-all.ensures.rest ∙ ap (λ v. v.items) c.replace.ensures.value)))
    c.requires.members

pub run_both-members-requires-clause-others : goal.run_both-members-requires-clause-others
run_both-members-requires-clause-others g c = λ κs bounds.
    let none = c.requires.room.none in
    let long = c.serve.ensures.long in
    let group = c.args.controllers.ok.0 in
    subst (λ l. All (MayBegin (SwitchPlays g.B.Body.sealing) c.args.ready.board.id c.args.steps.now) l)
    (sym (others_seated c.seat-2.new.tasks.items c.args.ready.others.items _ _ c.args.ready.places.items c.args.switches.items (vec_len c.serve.new.beside) (length c.args.controllers.items)
    c.seat-2.ensures.tasks (no_items c.args.ready.others.len c.args.ready.others.items c.args.ready.others.ok.0 none.2) c.seat.ensures.places c.into_iter-places.ensures.rest (omega (arith, none.0, long, group))))
    c.requires.others

pub take_apart-stop-requires : goal.take_apart-stop-requires
take_apart-stop-requires g c =
    let none = c.requires.room.none in
    let left = c.requires.room.none_left in
    let places = c.requires.room.left_places in
    let room = c.requires.room.left_served in
    let beside = c.serve.ensures.long in
    let members = c.seat.ensures.long in
    let ran = c.run_both-members.ensures.long in
    record { room = (omega (arith, none.0, none.1, left.0, places, beside, members, ran.0), omega (arith, none.0, none.1, left.1, room, beside, members, ran.0)) }

pub take_apart-stop-requires-2 : goal.take_apart-stop-requires-2
take_apart-stop-requires-2 g c =
    let none = c.requires.room.none in
    let left = c.requires.room.none_left in
    let places = c.requires.room.left_places in
    let room = c.requires.room.left_switches in
    let beside = c.serve.ensures.long in
    let members = c.seat.ensures.long in
    let others = c.seat-2.ensures.long in
    let ran = c.run_both-members.ensures.long in
    let apart = c.take_apart-stop.ensures.long in
    let same = c.take_apart-stop.ensures.room in
    record { room = (omega (arith, none.0, none.1, none.2, left.0, places, beside, members, others, ran.0, ran.1, apart.0, same.0), omega (arith, none.2, left.3, room, others, ran.1)) }

pub part-requires : goal.part-requires
part-requires g c =
    let none = c.requires.room.none in
    let left = c.requires.room.none_left in
    let room = c.requires.room.left_controllers in
    let stables = c.requires.room.left_stables in
    let enough = c.requires.served in
    let beside = c.serve.ensures.long in
    let members = c.seat.ensures.long in
    let ran = c.run_both-members.ensures.long in
    let apart = c.take_apart-stop.ensures.long in
    record { room = (omega (arith, none.0, none.1, left.1, left.2, room, beside, members, ran.0, apart.1), omega (arith, none.0, none.1, left.1, left.4, stables, enough, beside, members, ran.0, apart.1)) }

pub put_back-requires : goal.put_back-requires
put_back-requires g c =
    let none = c.requires.room.none in
    let left = c.requires.room.none_left in
    let stables = c.requires.room.left_stables in
    let beside = c.serve.ensures.long in
    let rest = c.serve.ensures.left in
    let members = c.seat.ensures.long in
    let ran = c.run_both-members.ensures.long in
    let apart = c.take_apart-stop.ensures.long in
    let parted = c.part.ensures.long in
    let same = c.part.ensures.room in
    let all = c.into_iter-all.ensures.len in
    let its = ap (λ v. vec_len v) c.replace.ensures.value in
    record { room = omega (arith, none.0, none.1, left.1, left.4, stables, beside, rest, members, ran.0, apart.1, parted, same, all, its) }

pub close-requires-clause-board : goal.close-requires-clause-board
close-requires-clause-board g c =
    let none = c.requires.room.none in
    let left = c.requires.room.none_left in
    let long = c.serve.ensures.long in
    let group = c.args.controllers.ok.0 in
    let id = c.args.ready.board.id in
    let steps = c.args.steps.now in
    let size = g.B.Body.sealing.size in
    let members = c.run_both-members.result.0.items in
    let others = c.run_both-members.result.1.items in
    let members_plays = ServedPlays g.A.App.law g.W.Stable.saving g.B.Body.sealing in
    let others_plays = SwitchPlays g.B.Body.sealing in
    let members_are = members_seated c.seat.new.tasks.items c.args.ready.members.items _ c.args.ready.places.items c.serve.new.beside.items c.args.ready.served.items c.args.controllers.items _ c.args.stables.now.items
    c.seat.ensures.tasks (no_items c.args.ready.members.len c.args.ready.members.items c.args.ready.members.ok.0 none.1) c.into_iter-places.ensures.rest
    c.serve.ensures.served (no_items c.args.ready.served.len c.args.ready.served.items c.args.ready.served.ok.0 none.0) (c.into_iter-all.ensures.rest ∙ ap (λ v. v.items) c.replace.ensures.value) in
    let others_are = others_seated c.seat-2.new.tasks.items c.args.ready.others.items _ _ c.args.ready.places.items c.args.switches.items (vec_len c.serve.new.beside) (length c.args.controllers.items)
    c.seat-2.ensures.tasks (no_items c.args.ready.others.len c.args.ready.others.items c.args.ready.others.ok.0 none.2) c.seat.ensures.places c.into_iter-places.ensures.rest (omega (arith, none.0, long, group)) in
    let members_ran = subst (λ l. AllRan members_plays size steps l members) members_are c.run_both-members.ensures.members in
    let others_ran = subst (λ l. AllRan others_plays size steps l others) others_are c.run_both-members.ensures.others in
    let places_are = c.take_apart-stop-2.ensures.places ∙ ap (λ l. l ++ map seat_place_of others) (behind_none c.take_apart-stop.new.places.items c.args.ready.left_places.items (map seat_place_of members) c.take_apart-stop.ensures.places
    (no_items c.args.ready.left_places.len c.args.ready.left_places.items c.args.ready.left_places.ok.0 left.0)) in
    subst (λ l. All (λ (p : PlaceState _). p.board ≡ id) l) (sym places_are)
    (All-append (λ (p : PlaceState _). p.board ≡ id) (map seat_place_of members) (map seat_place_of others)
    (boards_stay members_plays size steps id _ members members_ran c.requires.members) (boards_stay others_plays size steps id _ others others_ran c.requires.others))

pub close-requires-clause-all : goal.close-requires-clause-all
close-requires-clause-all g c =
    let none = c.requires.room.none in
    let left = c.requires.room.none_left in
    let long = c.serve.ensures.long in
    let group = c.args.controllers.ok.0 in
    let enough = c.requires.served in
    let its = c.args.stables.now.ok.0 in
    let id = c.args.ready.board.id in
    let actors = c.args.ready.board.actors in
    let steps = c.args.steps.now in
    let size = g.B.Body.sealing.size in
    let members = c.run_both-members.result.0.items in
    let others = c.run_both-members.result.1.items in
    let players = served c.args.controllers.items c.args.stables.now.items in
    let members_plays = ServedPlays g.A.App.law g.W.Stable.saving g.B.Body.sealing in
    let others_plays = SwitchPlays g.B.Body.sealing in
    let members_are = members_seated c.seat.new.tasks.items c.args.ready.members.items _ c.args.ready.places.items c.serve.new.beside.items c.args.ready.served.items c.args.controllers.items _ c.args.stables.now.items
    c.seat.ensures.tasks (no_items c.args.ready.members.len c.args.ready.members.items c.args.ready.members.ok.0 none.1) c.into_iter-places.ensures.rest
    c.serve.ensures.served (no_items c.args.ready.served.len c.args.ready.served.items c.args.ready.served.ok.0 none.0) (c.into_iter-all.ensures.rest ∙ ap (λ v. v.items) c.replace.ensures.value) ∙
    ap (λ p. seated p players) c.requires.places in
    let players_long = served_long c.args.controllers.items c.args.stables.now.items (omega (arith, group, enough, its)) in
    let others_are = others_seated c.seat-2.new.tasks.items c.args.ready.others.items _ _ c.args.ready.places.items c.args.switches.items (vec_len c.serve.new.beside) (length players)
    c.seat-2.ensures.tasks (no_items c.args.ready.others.len c.args.ready.others.items c.args.ready.others.ok.0 none.2) c.seat.ensures.places c.into_iter-places.ensures.rest (omega (arith, none.0, long, group, players_long)) ∙
    ap (λ p. seated (drop (length players) p) c.args.switches.items) c.requires.places in
    let members_ran = subst (λ l. AllRan members_plays size steps l members) members_are c.run_both-members.ensures.members in
    let others_ran = subst (λ l. AllRan others_plays size steps l others) others_are c.run_both-members.ensures.others in
    let places_are = c.take_apart-stop-2.ensures.places ∙ ap (λ l. l ++ map seat_place_of others) (behind_none c.take_apart-stop.new.places.items c.args.ready.left_places.items (map seat_place_of members) c.take_apart-stop.ensures.places
    (no_items c.args.ready.left_places.len c.args.ready.left_places.items c.args.ready.left_places.ok.0 left.0)) in
    let many = ap length c.requires.actors ∙ how_many (length c.args.controllers.items) (length c.args.switches.items) in
    contains_each (map (λ p. p.actor) c.take_apart-stop-2.new.places.items) actors
    (ap (map (λ p. p.actor)) places_are ∙ all_seated id actors members others players c.args.switches.items
    (actors_stay members_plays size steps id _ members members_ran) (actors_stay others_plays size steps id _ others others_ran) (omega (arith, players_long, many)))

pub returns : goal.returns
returns g c =
    let none = c.requires.room.none in
    let left = c.requires.room.none_left in
    let long = c.serve.ensures.long in
    let group = c.args.controllers.ok.0 in
    let steps = c.args.steps.now in
    let size = g.B.Body.sealing.size in
    let wire = c.close.result in
    let members = c.run_both-members.result.0.items in
    let others = c.run_both-members.result.1.items in
    let members_plays = ServedPlays g.A.App.law g.W.Stable.saving g.B.Body.sealing in
    let others_plays = SwitchPlays g.B.Body.sealing in
    let stables_are = c.into_iter-all.ensures.rest ∙ ap (λ v. v.items) c.replace.ensures.value in
    let players_are = behind_none c.take_apart-stop.new.players.items c.args.ready.left_served.items (map player_of members) c.take_apart-stop.ensures.players
    (no_items c.args.ready.left_served.len c.args.ready.left_served.items c.args.ready.left_served.ok.0 left.1) in
    record {
      members = members;
      others = others;
      members_ran = subst (λ l. AllRan members_plays size steps l members)
          (members_seated c.seat.new.tasks.items c.args.ready.members.items _ c.args.ready.places.items c.serve.new.beside.items c.args.ready.served.items c.args.controllers.items _ c.args.stables.now.items
          c.seat.ensures.tasks (no_items c.args.ready.members.len c.args.ready.members.items c.args.ready.members.ok.0 none.1) c.into_iter-places.ensures.rest
          c.serve.ensures.served (no_items c.args.ready.served.len c.args.ready.served.items c.args.ready.served.ok.0 none.0) stables_are) c.run_both-members.ensures.members;
      others_ran = subst (λ l. AllRan others_plays size steps l others)
          (others_seated c.seat-2.new.tasks.items c.args.ready.others.items _ _ c.args.ready.places.items c.args.switches.items (vec_len c.serve.new.beside) (length c.args.controllers.items)
          c.seat-2.ensures.tasks (no_items c.args.ready.others.len c.args.ready.others.items c.args.ready.others.ok.0 none.2) c.seat.ensures.places c.into_iter-places.ensures.rest (omega (arith, none.0, long, group)))
          c.run_both-members.ensures.others;
      orderly = c.close.ensures.orderly;
      within = c.close.ensures.within;
      named = subst (λ a. AreNamed a wire) c.requires.actors c.close.ensures.named;
      parts = subst (λ l. All (IsPartOf wire) l)
          (c.take_apart-stop-2.ensures.places ∙ ap (λ l. l ++ map seat_place_of others) (behind_none c.take_apart-stop.new.places.items c.args.ready.left_places.items (map seat_place_of members) c.take_apart-stop.ensures.places
          (no_items c.args.ready.left_places.len c.args.ready.left_places.items c.args.ready.left_places.ok.0 left.0))) c.close.ensures.parts;
      controllers_are = behind_none c.part.new.controllers.items c.args.ready.left_controllers.items (map controller_of c.take_apart-stop.new.players.items) c.part.ensures.controllers
          (no_items c.args.ready.left_controllers.len c.args.ready.left_controllers.items c.args.ready.left_controllers.ok.0 left.2) ∙ ap (map controller_of) players_are;
      switches_are = behind_none c.take_apart-stop-2.new.players.items c.args.ready.left_switches.items (map player_of others) c.take_apart-stop-2.ensures.players
          (no_items c.args.ready.left_switches.len c.args.ready.left_switches.items c.args.ready.left_switches.ok.0 left.3);
      stables_are = c.put_back.ensures ∙
          ap (λ l. l ++ into_iter_items c.serve.new.stables) (behind_none c.part.new.stables.items c.args.ready.left_stables.items (map stable_of c.take_apart-stop.new.players.items) c.part.ensures.stables
          (no_items c.args.ready.left_stables.len c.args.ready.left_stables.items c.args.ready.left_stables.ok.0 left.4) ∙ ap (map stable_of) players_are) ∙
          ap (λ l. map stable_of (map player_of members) ++ l) (c.serve.ensures.stables ∙ ap (λ (n : ℕ). drop n (into_iter_items c.into_iter-all.result)) group ∙ ap (λ l. drop (length c.args.controllers.items) l) stables_are);
      stop_is = c.take_apart-stop-2.ensures.stop ∙ ap (λ s. first_stop s others) c.take_apart-stop.ensures.stop;
    }
