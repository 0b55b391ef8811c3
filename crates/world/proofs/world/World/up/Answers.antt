use Rattle.std.proofs.Common.{◌∙◌, ap, sym, List, take_all, length, map}
use Rattle.group_controller.specs.Turns.{state_of}
use Rattle.run_spec.specs.Committed.{members_up}
use Rattle.std.specs.Prelude.{count_by}
use Rattle.world.proofs.Counting.{members_counted, one_more_no, one_more_yes, takes}
use Rattle.world.proofs.world.World.up.Goals as goal
use Rattle.world.proofs.world.World.up.Goals.{then-takes_part, else-takes_part}

pub loop-controller-preserved : goal.loop-controller-preserved
loop-controller-preserved g c = elim c.if-takes_part.branch [
  | then-takes_part w ↦ one_more_yes c.deref-controller-items.result.now c.loop-controller.controller-index c.controller-item.result c.loop-controller.up c.if-takes_part.up c.loop-controller.invariant
      c.loop-controller-test.true c.controller-item.is (sym c.takes_part.ensures ∙ w.if-takes_part.true) w.up-is
  | else-takes_part w ↦ one_more_no c.deref-controller-items.result.now c.loop-controller.controller-index c.controller-item.result c.loop-controller.up c.if-takes_part.up c.loop-controller.invariant
      c.loop-controller-test.true c.controller-item.is (sym c.takes_part.ensures ∙ w.if-takes_part.false) w.up-is
]

pub returns : goal.returns
returns g c = c.loop-controller.invariant ∙ ap (λ (l : List _). count_by takes l) (take_all c.loop-controller.controller-index c.deref-controller-items.result.now c.loop-controller-test.false) ∙ sym (members_counted c.deref-controller-items.result.now) ∙ ap (λ (l : List _). length (members_up (map (λ x. state_of x) l))) (c.deref-controller-items.ensures.value ∙ ap (λ v. v.controllers) c.self.view_is)
