use Rattle.std.proofs.Common.{◌≡◌, length, arith}
use Rattle.top_call.specs.Play.{program_kinds}
use Rattle.ravana_run.proofs.serve.Goals as goal

pub ravana-requires-clause-chains : goal.ravana-requires-clause-chains
ravana-requires-clause-chains g c = λ κs bounds.
    let count : length c.making.chains.items ≡ 112 = let all = c.making.invariant.count in let over = c.making-test.false in let end = c.making.auto.number-end in omega (arith, all, over, end) in
    (program_kinds, record { count = count; alike = c.making.invariant.alike })
