use Rattle.std.proofs.Common.{◌+◌, ◌++◌, [], ◌∷◌, ap, ◌∙◌, sym, arith}
use Rattle.std.specs.Vec.Iter.{into_iter_items}
use Rattle.journal.proofs.Lists.{next_dropped, next_taken}
use Rattle.journal.proofs.entries.next_letters.Goals as goal

pub loop-preserved : goal.loop-preserved
loop-preserved g c =
    let all = into_iter_items c.args.letters.now in
    let letter = c.in-Some-next.letter in
    let after = into_iter_items c.next-in-loop.new.self in
    let here = sym c.loop.invariant.left ∙ c.in-Some-next.ensures.items in
    record {
      post = c.in_ok-push-in-Some-next.ensures.items ∙ ap (λ ls. ls ++ letter ∷ []) c.loop.invariant.post ∙ sym (next_taken c.loop.counter all letter after here);
      left = sym (next_dropped c.loop.counter (c.loop.counter + 1) all letter after (omega arith) here);
    }
