use Rattle.std.proofs.Common.{arith, ◌∙◌}
use Rattle.of_types.proofs.Places.{place-taken, place-passed, places-end}
use Rattle.of_types.proofs.small_set.SmallSet.to_vec.Goals as goal
use Rattle.of_types.proofs.small_set.SmallSet.to_vec.Goals.{then-is_member+in_ok-push, else-is_member}

pub loop-number-preserved : goal.loop-number-preserved
loop-number-preserved c =
    let bs = c.self.inside.members in
    let numbers = c.loop-number.numbers.items in
    elim c.if-is_member.branch [
      | then-is_member+in_ok-push w ↦
          rw (w.numbers-is, w.in_ok-push.ensures.items)
          (place-taken c.loop-number.number numbers bs (omega arith) w.if-is_member.true ∙ c.loop-number.invariant)
      | else-is_member w ↦
          rw w.numbers-is (place-passed c.loop-number.number numbers bs (omega arith) w.if-is_member.false ∙ c.loop-number.invariant)
    ]

pub returns : goal.returns
returns c =
    places-end c.loop-number.number c.loop-number.numbers.items c.self.inside.members (omega arith)
    ∙ c.loop-number.invariant
    ∙ c.self.view_is
