use Rattle.std.proofs.Common.{rules, ◌∷◌, [], ◌≡◌, subst, All, ap, ◌∙◌, inl}
use lib.ListN.{get_elem?}
use Rattle.shared_wire.specs.Places.{PlaceState, known_of}
use Rattle.shared_wire.proofs.Lists.{each_step, all_front, all_last, at_first}
use Rattle.shared_wire.proofs.board.end_all.Goals as goal

pub loop-place-init : goal.loop-place-init
loop-place-init g c =
    let free = c.stays.invariant.0 in
    let is = free.0 ∙ ap (λ p. known_of p ∷ []) c.stays.view_is in record {
      table = ap (λ p. p.board) c.stays.view_is ∙ all_last (λ (p : PlaceState g.row.B.Denot). p.board ≡ c.args.table.now.table_id) c.args.places.items c.pop.new.self.items c.in-Some.stays c.in-Some.ensures.items c.requires.places;
      held = free.1;
      free = free.2;
      some_known = (_, ap (λ l. get_elem? l 0) free.0);
      same = all_front (λ (p : PlaceState g.row.B.Denot). p.board ≡ c.args.table.now.table_id) c.pop.new.self.items (c.in-Some.stays ∷ []) (subst (λ ps. All (λ (p : PlaceState g.row.B.Denot). p.board ≡ c.args.table.now.table_id) ps) c.in-Some.ensures.items c.requires.places);
      each = λ n p h. each_step known_of c.args.places.items c.pop.new.self.items c.in-Some.stays [] c.stays.inside.seat.me.0.known c.in-Some.ensures.items is n p (inl h);
    }

pub loop-place-preserved : goal.loop-place-preserved
loop-place-preserved g c =
    let i = c.loop-place.invariant in record {
      table = search rules;
      held = search rules;
      free = search rules;
      some_known = at_first c.loop-place.last.me.0.known (known_of c.in-Some-pop.place ∷ []) c.end_place.new.last.me.0.known i.some_known.0 c.end_place.ensures.known i.some_known.1;
      same = all_front (λ (p : PlaceState g.row.B.Denot). p.board ≡ c.args.table.now.table_id) c.pop-in-loop-place.new.self.items (c.in-Some-pop.place ∷ []) (subst (λ ps. All (λ (p : PlaceState g.row.B.Denot). p.board ≡ c.args.table.now.table_id) ps) c.in-Some-pop.ensures.items i.same);
      each = λ n p h. each_step known_of c.loop-place.places.items c.pop-in-loop-place.new.self.items c.in-Some-pop.place c.loop-place.last.me.0.known c.end_place.new.last.me.0.known c.in-Some-pop.ensures.items c.end_place.ensures.known n p (i.each n p h);
    }
