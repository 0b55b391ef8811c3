use Rattle.std.proofs.Common.{◌≡◌, ◌<◌, ◌≤◌, ◌+◌, drop, length, sym, ap, ◌∙◌, arith}
use Rattle.std.proofs.lemmas.List.Sums.{sum_by_more}
use Rattle.std.proofs.lemmas.Option.{get_or_from_slice_get}
use Rattle.journal.specs.Limits.{pool_packets, pool_bodies}
use Rattle.journal.specs.Orderly.{fitting_count}
use Rattle.journal.proofs.Fitting.{finds_room, too_long, too_many}
use Rattle.journal.proofs.Lists.{at_index, drop_next}
use Rattle.journal.proofs.pool.count_first.Goals as goal
use Rattle.journal.proofs.pool.count_first.Goals.{then-sums-via-then-sums, then-sums-via-else-sums+then-saturating_add-gt-POOL_BYTES}

pub returns-then-sums-clause-count : goal.returns-then-sums-clause-count
returns-then-sums-clause-count g c =
    let letters = c.args.letters.now in
    let count = c.loop-count.count in
    let sums = c.loop-count.sums in
    let size = g.B.Weight.size in
    let within : count < length letters = omega (arith, c.loop-count-test.true, c.len-count-end.ensures) in
    let here = at_index (λ l. c.size-size.result ≡ size l.body) letters count within c.size-size.ensures in
    let rest = drop (count + 1) letters in
    let dropped = drop_next letters count (count + 1) here.0 (omega arith) here.1 in
    let none : fitting_count size sums.letters sums.bytes (drop count letters) ≡ 0 =
    ap (fitting_count size sums.letters sums.bytes) dropped ∙ elim c.then-sums.branch [
      | then-sums-via-then-sums w ↦
          let many : pool_packets < sums.letters + 1 = omega (arith, w.if-sums.true) in
          too_many size sums.letters sums.bytes here.0 rest many
      | then-sums-via-else-sums+then-saturating_add-gt-POOL_BYTES w ↦
          let long : pool_bodies < sums.bytes + size here.0.body = omega (arith, w.if-saturating_add-gt-POOL_BYTES.true, w.saturating_add.ensures, here.2) in
          too_long size sums.letters sums.bytes here.0 rest long
    ] in
    omega (arith, c.loop-count.invariant.whole, none)

pub loop-count-preserved : goal.loop-count-preserved
loop-count-preserved g c =
    let letters = c.args.letters.now in
    let count = c.loop-count.count in
    let sums = c.loop-count.sums in
    let size = g.B.Weight.size in
    let is = c.loop-count.invariant in
    let within : count < length letters = omega (arith, c.loop-count-test.true, c.len-count-end.ensures) in
    let here = at_index (λ l. c.size-size.result ≡ size l.body) letters count within c.size-size.ensures in
    let more = sum_by_more (λ l. size l.body) letters count here.0 within in
    let weight = ap (λ l. size l.body) (get_or_from_slice_get letters count here.0 here.0 here.1) in
    let rest = drop (count + 1) letters in
    let few : sums.letters + 1 ≤ pool_packets = omega (arith, c.if-sums.false) in
    let small : sums.bytes + size here.0.body ≤ pool_bodies = omega (arith, c.if-saturating_add-gt-POOL_BYTES.false, c.saturating_add.ensures, here.2) in
    let found : fitting_count size sums.letters sums.bytes (drop count letters) ≡ 1 + fitting_count size (sums.letters + 1) (sums.bytes + c.size-size.result) rest =
    ap (fitting_count size sums.letters sums.bytes) (drop_next letters count (count + 1) here.0 (omega arith) here.1)
    ∙ finds_room size sums.letters sums.bytes here.0 rest few small
    ∙ ap (λ w. 1 + fitting_count size (sums.letters + 1) (sums.bytes + w) rest) (sym here.2) in
    record {
      letters_are = omega (arith, is.letters_are);
      bytes_are = omega (arith, is.bytes_are, more, weight, here.2);
      whole = omega (arith, is.whole, found);
    }
