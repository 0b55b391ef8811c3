use Rattle.std.proofs.Common.{ap, arith, length}
use Rattle.std.proofs.lemmas.List.Sorted.{IsPermutation-trans, length_permutation}
use Rattle.std.proofs.lemmas.Result.{on_ok_weaker}
use Rattle.dispatcher.proofs.marks.ViewMarks.reserve.Goals as goal

pub invariant_of-self-2 : goal.invariant_of-self-2
invariant_of-self-2 c =
    rw c.reserve.ensures.items (IsPermutation-trans c.self.inside.acked.items c.self.inside.found.keys c.reserve-2.new.self.keys c.self.invariant.0 c.reserve-2.ensures.keys.0, c.self.invariant.1)

pub returns-clause-room : goal.returns-clause-room
returns-clause-room c =
    let reserved = c.in_ok-reserve.ensures.ok in
    let same = c.reserve.ensures.items in
    let long = c.reserve-2.ensures.keys.1 in
    let both = length_permutation c.self.inside.acked.items c.self.inside.found.keys c.self.invariant.0 in
    on_ok_weaker c.reserve-2.result (λ spare. omega (arith, reserved, ap length same, long, both, spare)) c.reserve-2.ensures.ok
