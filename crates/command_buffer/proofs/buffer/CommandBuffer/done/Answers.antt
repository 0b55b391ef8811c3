use Rattle.std.proofs.Common.{◌<◌, length, ap, refl, arith}
use Rattle.command_buffer.specs.Results.{Results}
use Rattle.command_buffer.proofs.Kept.{keeps_all, results-push}
use Rattle.command_buffer.proofs.buffer.CommandBuffer.done.Goals as goal

pub invariant_of-self : goal.invariant_of-self
invariant_of-self c =
    let room : length c.self.inside.outcomes.items < 256 = omega (arith, ap (λ (r : Results). length r.outcomes) c.self.view_is, c.requires.room) in
    rw (c.push_back.ensures.items, c.self.invariant.1, keeps_all 256 c.self.inside.outcomes.items c.args.outcome room) (
      results-push (record { executed = c.self.inside.executed; outcomes = c.self.inside.outcomes.items }) c.args.outcome c.self.invariant.0 room c.requires.result,
      refl,
    )
