use Rattle.std.proofs.Common.{ap, ◌∙◌, refl, sym, subst, [], append-nil}
use Rattle.std.specs.Prelude.{IsSome}
use Rattle.journal.specs.Places.{packet_at}
use Rattle.shared_wire.proofs.Bodies.{copied_is, lent_within, stays, still_seen}
use Rattle.shared_wire.proofs.Turns.{gave_back, adds_nothing, seen_now}
use Rattle.shared_wire.proofs.board.Board.copy_letter.Goals as goal

pub letter-index-requires : goal.letter-index-requires
letter-index-requires g c =
    let seen = subst (λ p. IsSome (packet_at c.args.packet p.seen)) (sym c.place.view_is) c.requires.seen in
    still_seen c.args.packet _ c.take_wire-wire.result (c.take_wire-wire.ensures.known _ c.place.invariant.0).1 seen

pub copy-copied-requires : goal.copy-copied-requires
copy-copied-requires g c =
    let seen = subst (λ p. IsSome (packet_at c.args.packet p.seen)) (sym c.place.view_is) c.requires.seen in
    let there = still_seen c.args.packet _ c.take_wire-wire.result (c.take_wire-wire.ensures.known _ c.place.invariant.0).1 seen in
    lent_within (packet_at c.args.packet c.take_wire-wire.result) c.letter-index.result.0.now c.letter-index.result.1 there c.letter-index.ensures

pub give_wire-requires-clause-grown : goal.give_wire-requires-clause-grown
give_wire-requires-clause-grown g c =
    let me = c.take_wire-wire.ensures.me in
    record {
      about = _;
      taken = _;
      entries = [];
      knows = ap (λ m. m.0.known) me ∙ c.place.invariant.0.0;
      holds = ap (λ m. m.0.held) me;
      joined = sym (append-nil c.take_wire-wire.result);
      named = tt;
    }

pub returns-clause-nothing : goal.returns-clause-nothing
returns-clause-nothing g c =
    let free = c.place.invariant.0 in
    let given = gave_back c.place.inside.actor _ c.take_wire-wire.result _ c.place.inside.seat.me _ c.give_wire.new.seat.me _ free refl (c.take_wire-wire.ensures.known _ free) c.take_wire-wire.ensures.me c.give_wire.ensures.me in
    rw (← c.place.view_is) (adds_nothing _ _ _ _ _ given c.place.inside.seat.table_id c.give_wire.new.seat.table_id refl)

pub returns-clause-stays : goal.returns-clause-stays
returns-clause-stays g c =
    let free = c.place.invariant.0 in
    let given = gave_back c.place.inside.actor _ c.take_wire-wire.result _ c.place.inside.seat.me _ c.give_wire.new.seat.me _ free refl (c.take_wire-wire.ensures.known _ free) c.take_wire-wire.ensures.me c.give_wire.ensures.me in
    let seen = subst (λ p. IsSome (packet_at c.args.packet p.seen)) (sym c.place.view_is) c.requires.seen in
    ap (packet_at c.args.packet) (seen_now _ _ _ _ _ given)
    ∙ stays c.args.packet _ c.take_wire-wire.result (c.take_wire-wire.ensures.known _ free).1 seen
    ∙ ap (λ p. packet_at c.args.packet p.seen) c.place.view_is

pub returns-clause-copied : goal.returns-clause-copied
returns-clause-copied g c =
    let seen = subst (λ p. IsSome (packet_at c.args.packet p.seen)) (sym c.place.view_is) c.requires.seen in
    let same = stays c.args.packet _ c.take_wire-wire.result (c.take_wire-wire.ensures.known _ c.place.invariant.0).1 seen ∙ ap (λ p. packet_at c.args.packet p.seen) c.place.view_is in
    copied_is _ _ c.letter-index.result.0.now c.args.into.now c.copy-copied.new.self c.letter-index.result.1 c.copy-copied.result same c.letter-index.ensures c.copy-copied.ensures.ok
