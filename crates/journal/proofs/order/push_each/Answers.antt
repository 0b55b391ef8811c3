use Rattle.std.proofs.Common.{◌≡◌, ◌<◌, ◌++◌, [], ◌∷◌, length, map, take, ap, ◌∙◌, arith, sym, append_assoc}
use Rattle.std.specs.Prelude.{Some}
use Rattle.std.proofs.lemmas.List.{map-append}
use Rattle.journal.specs.declared.journal.Letter.{Letter}
use Rattle.journal.proofs.Lists.{at_index, take_next}
use Rattle.journal.proofs.order.push_each.Goals as goal

pub loop-index-preserved : goal.loop-index-preserved
loop-index-preserved g c =
    let letters = c.args.letters.now in
    let index = c.loop-index.index in
    let is = c.loop-index.invariant in
    let within : index < length letters = omega (arith, c.loop-index-test.true, c.requires.within) in
    let here = at_index (λ l. c.receiver.result ≡ l.to) letters index within c.receiver.ensures in
    let before = map (λ (letter : Letter _). Some letter.to) (take index letters) in
    record {
      items =
          c.push_reserved.ensures.items
          ∙ ap (λ xs. xs ++ Some c.receiver.result ∷ []) is.items
          ∙ append_assoc c.args.slots.now.items before (Some c.receiver.result ∷ [])
          ∙ ap (λ a. c.args.slots.now.items ++ (before ++ Some a ∷ [])) here.2
          ∙ ap (λ xs. c.args.slots.now.items ++ xs)
          (sym (ap (map (λ (letter : Letter _). Some letter.to)) (take_next letters index here.0 here.1) ∙ map-append (λ (letter : Letter _). Some letter.to) (take index letters) (here.0 ∷ [])));
      room = omega (arith, c.push_reserved.ensures.len, c.push_reserved.ensures.capacity, is.room);
    }
