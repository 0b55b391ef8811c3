use Rattle.std.proofs.Common.{◌∙◌, ℕ, length, List, arith, ap}
use Rattle.of_switch.proofs.Ports.{down-taken, down-passed, down-all, places-few}
use Rattle.of_switch.proofs.switch.ports.down_among.Goals as goal
use Rattle.of_switch.proofs.switch.ports.down_among.Goals.{then-is_down+in_ok-push, else-is_down}

pub loop-index-preserved : goal.loop-index-preserved
loop-index-preserved c =
    elim c.if-is_down.branch [
      | then-is_down+in_ok-push w ↦
          rw w.ports-is (down-taken c.loop-index.index c.loop-index.ports.items _ c.args.down.now (omega arith) w.if-is_down.true w.in_ok-push.ensures.items ∙ c.loop-index.invariant)
      | else-is_down w ↦
          rw w.ports-is (down-passed c.loop-index.index c.loop-index.ports.items c.args.down.now (omega arith) w.if-is_down.false ∙ c.loop-index.invariant)
    ]

pub returns-clause-ports : goal.returns-clause-ports
returns-clause-ports c = down-all c.loop-index.index c.loop-index.ports.items c.args.down.now (omega arith) c.loop-index.invariant

pub returns-clause-few : goal.returns-clause-few
returns-clause-few c =
    let all = ap (λ (ports : List ℕ). length ports) (down-all c.loop-index.index c.loop-index.ports.items c.args.down.now (omega arith) c.loop-index.invariant) in
    omega (arith, all, places-few 1 c.args.down.now)
