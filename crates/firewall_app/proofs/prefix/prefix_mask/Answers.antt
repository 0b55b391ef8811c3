use Rattle.std.proofs.Common.{◌≤◌, ◌^◌, arith}
use Rattle.std.proofs.Math.Pow.{pow_mono}
use Rattle.firewall_app.proofs.prefix.prefix_mask.Goals as goal

pub overflow_sub-result : goal.overflow_sub-result
overflow_sub-result c =
    let few : c.saturating_sub-free.result ≤ 32 = omega arith in
    let small : 2 ^ c.saturating_sub-free.result ≤ 2 ^ 32 = pow_mono {j = 32} few in
    omega arith
