use Rattle.std.proofs.Common.{◌≡◌, [], ◌∷◌, ◌++◌, ap, ◌∙◌}
use Rattle.of_bytes.specs.Numbers.{number}
use Rattle.report.proofs.Outputs.{port_more}
use Rattle.report.proofs.canonical.ports_of.Goals as goal

pub loop-done-preserved : goal.loop-done-preserved
loop-done-preserved c =
    let read : c.push.new.self ≡ c.loop-done.ports ++ number 4 4 c.loop-done.rest.now ∷ [] = c.in_ok-push.ensures ∙ ap (λ n. c.loop-done.ports ++ n ∷ []) c.u32_at.ensures in
    let more = port_more c.args.count c.loop-done.done c.loop-done.ports c.loop-done.rest.now _ c.loop-done-test.true c.loop-done.invariant.long c.loop-done.invariant.ports in
    rw (read, c.split_at.ensures.back) record { long = more.0; ports = more.1 }
