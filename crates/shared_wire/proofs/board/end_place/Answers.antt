use Rattle.std.proofs.Common.{rules, ap, ◌∙◌}
use lib.ListN.{get_elem?}
use Rattle.shared_wire.proofs.Steps.{joins_two}
use Rattle.shared_wire.proofs.board.end_place.Goals as goal

pub join_seat-requires : goal.join_seat-requires
join_seat-requires g c =
    let v = c.args.last.now.me.0 in
    let w = c.place.inside.seat.me.0 in
    let free = c.place.invariant.0 in
    let mine = c.requires.free in (
      search rules,
      ap (λ p. p.board) c.place.view_is ∙ c.requires.place,
      free.2,
      search rules,
      joins_two c.args.table.now.key.items c.args.last.now.id v c.place.inside.seat.id w mine.2.0 _ mine.2.1 (ap (λ l. get_elem? l 0) free.0) mine.0 free.1,
    )
