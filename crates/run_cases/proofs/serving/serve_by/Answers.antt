use Rattle.std.proofs.Common.{◌≡◌, length, arith}
use Rattle.top_call.specs.Play.{program_kinds}
use Rattle.run_cases.proofs.serving.serve_by.Goals as goal

pub serve_chains-requires-clause-chains : goal.serve_chains-requires-clause-chains
serve_chains-requires-clause-chains g c = λ κs bounds.
    let count : length c.making.chains.items ≡ 112 = let all = c.making.invariant.count in let over = c.making-test.false in let end = c.making.auto.number-end in omega (arith, all, over, end) in
    (program_kinds, record { count = count; alike = c.making.invariant.alike })
