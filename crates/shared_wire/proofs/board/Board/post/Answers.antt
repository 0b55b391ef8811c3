use Rattle.std.proofs.Common.{ap, ◌∙◌, refl}
use Rattle.journal.specs.Turns.{posting}
use Rattle.shared_wire.proofs.Turns.{by_posting, grows, gave_back, adds, refuses}
use Rattle.shared_wire.proofs.board.Board.post.Goals as goal

pub give_wire-requires-clause-grown : goal.give_wire-requires-clause-grown
give_wire-requires-clause-grown g c =
    let size = g.B.Weight.size in
    let me = c.take_wire-wire.ensures.me in
    let more = grows size c.place.inside.actor _ c.post-answer.new.self c.args.post.now _ c.post-answer.result (by_posting size c.place.inside.actor c.args.post.now _) c.post-answer.ensures.ok c.post-answer.ensures.err in
    record {
      about = _;
      taken = _;
      entries = more.0;
      knows = ap (λ m. m.0.known) me ∙ c.place.invariant.0.0;
      holds = ap (λ m. m.0.held) me;
      joined = more.1;
      named = more.2;
    }

pub returns-clause-ok : goal.returns-clause-ok
returns-clause-ok g c =
    let size = g.B.Weight.size in
    let free = c.place.invariant.0 in
    let given = gave_back c.place.inside.actor _ c.post-answer.new.self _ c.place.inside.seat.me _ c.give_wire.new.seat.me _ free refl (c.take_wire-wire.ensures.known _ free) c.take_wire-wire.ensures.me c.give_wire.ensures.me in
    rw (← c.place.view_is) (adds _ _ _ _ _ given c.place.inside.seat.table_id c.give_wire.new.seat.table_id (posting size c.place.inside.actor c.args.post.now) c.post-answer.result (by_posting size c.place.inside.actor c.args.post.now _) c.post-answer.ensures.ok)

pub returns-clause-err : goal.returns-clause-err
returns-clause-err g c =
    let free = c.place.invariant.0 in
    let given = gave_back c.place.inside.actor _ c.post-answer.new.self _ c.place.inside.seat.me _ c.give_wire.new.seat.me _ free refl (c.take_wire-wire.ensures.known _ free) c.take_wire-wire.ensures.me c.give_wire.ensures.me in
    rw (← c.place.view_is) (refuses _ _ _ _ _ given g.B.Weight.size c.place.inside.seat.table_id c.give_wire.new.seat.table_id c.args.post.now c.post-answer.result c.post-answer.ensures.err)
