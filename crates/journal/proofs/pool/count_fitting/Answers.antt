use Rattle.std.proofs.Common.{◌≤◌, ◌+◌, length, sym, ◌∙◌, arith}
use Rattle.journal.specs.Limits.{pool_packets, pool_bodies}
use Rattle.journal.specs.Pool.{letter_bytes}
use Rattle.journal.proofs.Fitting.{all_find_room}
use Rattle.journal.proofs.pool.count_fitting.Goals as goal

pub returns-then-sums-le-POOL_BYTES-clause-count : goal.returns-then-sums-le-POOL_BYTES-clause-count
returns-then-sums-le-POOL_BYTES-clause-count g c =
    let waiting = c.args.waiting in
    let letters = c.args.letters.now in
    let few : waiting.letters + length letters ≤ pool_packets = omega (arith, c.if-sums.true, c.saturating_add.ensures, c.len-count.ensures) in
    let small : waiting.bytes + letter_bytes g.B.Weight.size letters ≤ pool_bodies = omega (arith, c.if-sums-le-POOL_BYTES.true, c.saturating_add-2.ensures, c.requires) in
    c.len-count.ensures ∙ sym (all_find_room g.B.Weight.size waiting.letters waiting.bytes letters few small)
