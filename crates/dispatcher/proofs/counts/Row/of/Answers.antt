use Rattle.std.proofs.Common.{length, ap, arith}
use Rattle.dispatcher.proofs.Counting.{counts_found, counts_nowhere}
use Rattle.dispatcher.proofs.counts.Row.of.Goals as goal

pub returns-then-place-len : goal.returns-then-place-len
returns-then-place-len c =
    let view = c.self.view_is in
    rw (← c.self.view_is)
    (counts_found c.self.inside.lives.items c.args.life c.place_of-place.result c.index.result.now (rw c.self.view_is c.place_of-place.ensures) (omega arith) c.index.ensures)

pub returns-else-place-len : goal.returns-else-place-len
returns-else-place-len c =
    counts_nowhere c.args.self.now c.args.life (omega (arith, c.place_of-place.ensures, ap length c.self.view_is))
