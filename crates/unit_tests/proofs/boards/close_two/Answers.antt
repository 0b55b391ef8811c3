use Rattle.std.proofs.Common.{ℕ, List, ◌≡◌, ◌∙◌, [], ◌∷◌, ◌++◌, map, ap, sym, subst, All}
use Rattle.std.specs.Prelude.{Contains}
use Rattle.std.proofs.lemmas.List.Elements.{All-contains_itself}
use Rattle.shared_wire.specs.Places.{PlaceState}
use Rattle.unit_tests.proofs.boards.close_two.Goals as goal

pub close-requires-clause-all : goal.close-requires-clause-all
close-requires-clause-all c =
    let one = c.push_reserved.ensures.items ∙ ap (λ l. l ++ c.args.first ∷ []) c.in_ok-places.ensures.items in
    let two = c.push_reserved-2.ensures.items ∙ ap (λ l. l ++ c.args.second ∷ []) one in
    let same : map (λ (p : PlaceState (List ℕ)). p.actor) c.push_reserved-2.new.self.items ≡ c.args.board.actors =
    ap (map (λ (p : PlaceState (List ℕ)). p.actor)) two ∙ (λ i. c.requires.first.0 i ∷ c.requires.second.0 i ∷ []) ∙ sym c.requires.actors in
    subst (λ xs. All (Contains xs) c.args.board.actors) (sym same) (All-contains_itself c.args.board.actors)
