use Rattle.std.proofs.Common.{ap, ◌∙◌, refl}
use Rattle.journal.specs.declared.journal.Turn.TheVariants as turn
use Rattle.journal.specs.Turns.{turn_entries}
use Rattle.shared_wire.proofs.Turns.{by_turn, grows, gave_back, adds, refuses, finds}
use Rattle.shared_wire.proofs.board.Board.draw.Goals as goal

pub give_wire-requires-clause-grown : goal.give_wire-requires-clause-grown
give_wire-requires-clause-grown g c =
    let size = g.B.Weight.size in
    let step = turn.Draw c.place.inside.actor c.args.choice c.args.keep in
    let me = c.take_wire-wire.ensures.me in
    let more = grows size c.place.inside.actor _ c.draw-answer.new.self c.args.post.now _ c.draw-answer.result (by_turn size c.args.post.now step _) c.draw-answer.ensures.ok c.draw-answer.ensures.err in
    record {
      about = _;
      taken = _;
      entries = more.0;
      knows = ap (λ m. m.0.known) me ∙ c.place.invariant.0.0;
      holds = ap (λ m. m.0.held) me;
      joined = more.1;
      named = more.2;
    }

pub returns-clause-ok : goal.returns-clause-ok
returns-clause-ok g c =
    let size = g.B.Weight.size in
    let step = turn.Draw c.place.inside.actor c.args.choice c.args.keep in
    let free = c.place.invariant.0 in
    let given = gave_back c.place.inside.actor _ c.draw-answer.new.self _ c.place.inside.seat.me _ c.give_wire.new.seat.me _ free refl (c.take_wire-wire.ensures.known _ free) c.take_wire-wire.ensures.me c.give_wire.ensures.me in
    rw (← c.place.view_is) (adds _ _ _ _ _ given c.place.inside.seat.table_id c.give_wire.new.seat.table_id (turn_entries size c.args.post.now step) c.draw-answer.result (by_turn size c.args.post.now step _) c.draw-answer.ensures.ok)

pub returns-clause-found : goal.returns-clause-found
returns-clause-found g c =
    let size = g.B.Weight.size in
    let step = turn.Draw c.place.inside.actor c.args.choice c.args.keep in
    let free = c.place.invariant.0 in
    let given = gave_back c.place.inside.actor _ c.draw-answer.new.self _ c.place.inside.seat.me _ c.give_wire.new.seat.me _ free refl (c.take_wire-wire.ensures.known _ free) c.take_wire-wire.ensures.me c.give_wire.ensures.me in
    rw (← c.place.view_is) (finds _ _ _ _ _ given size c.args.post.now step c.args.choice c.draw-answer.result refl c.draw-answer.ensures.ok c.draw-answer.ensures.found)

pub returns-clause-err : goal.returns-clause-err
returns-clause-err g c =
    let free = c.place.invariant.0 in
    let given = gave_back c.place.inside.actor _ c.draw-answer.new.self _ c.place.inside.seat.me _ c.give_wire.new.seat.me _ free refl (c.take_wire-wire.ensures.known _ free) c.take_wire-wire.ensures.me c.give_wire.ensures.me in
    rw (← c.place.view_is) (refuses _ _ _ _ _ given g.B.Weight.size c.place.inside.seat.table_id c.give_wire.new.seat.table_id c.args.post.now c.draw-answer.result c.draw-answer.ensures.err)
