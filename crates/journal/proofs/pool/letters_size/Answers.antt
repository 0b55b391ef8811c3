use Rattle.std.proofs.Common.{◌≡◌, ◌<◌, ◌≤◌, length, sym, arith}
use Rattle.std.proofs.lemmas.Option.{get_or_from_slice_get}
use Rattle.journal.specs.declared.journal.Letter.{Letter}
use Rattle.journal.proofs.Lists.{at_index}
use Rattle.journal.proofs.Sizes.{sized_more, sized_all}
use Rattle.journal.proofs.pool.letters_size.Goals as goal

pub loop-index-preserved : goal.loop-index-preserved
loop-index-preserved g c =
    let letters = c.args.letters.now in
    let index = c.loop-index.index in
    let within : index < length letters = omega (arith, c.loop-index-test.true, c.len-index-end.ensures) in
    let here = at_index (λ l. c.size.result ≡ g.B.Weight.size l.body) letters index within c.size.ensures in
    sized_more (λ (l : Letter _). g.B.Weight.size l.body) letters index here.0 _ c.size.result _ c.loop-index.invariant within
    (sym (get_or_from_slice_get letters index here.0 here.0 here.1)) here.2 c.saturating_add-size.ensures

pub returns : goal.returns
returns g c =
    let past : length c.args.letters.now ≤ c.loop-index.index = omega (arith, c.loop-index-test.false, c.len-index-end.ensures) in
    sized_all (λ (l : Letter _). g.B.Weight.size l.body) c.args.letters.now c.loop-index.index _ c.loop-index.invariant past
