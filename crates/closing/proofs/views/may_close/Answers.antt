use Rattle.std.proofs.Common.{refl, subst}
use Rattle.journal.specs.Pool.{past}
use Rattle.run_laws.specs.Laws.{IsSuspectedUpTo}
use Rattle.closing.specs.Views.{most_view_of_a_script}
use Rattle.closing.proofs.Looking.{all_looked, head_more, head_one}
use Rattle.closing.proofs.views.may_close.Goals as goal

pub loop-head-preserved : goal.loop-head-preserved
loop-head-preserved g c =
    head_more most_view_of_a_script c.args.world.now.journal c.heads-head-items.result.now c.heads-head-items.ensures c.loop-head.head-index c.head-item.result
    c.loop-head-test.true c.head-item.is c.loop-head.invariant (c.suspects_within.ensures.0 c.if-not-suspects_within.false)

pub returns-then-not-suspects_within : goal.returns-then-not-suspects_within
returns-then-not-suspects_within g c = (
  λ no. cc,
  λ all. c.if-not-suspects_within.ensures.1
      (head_one most_view_of_a_script c.args.world.now.journal c.heads-head-items.result.now c.heads-head-items.ensures c.loop-head.head-index c.head-item.result
      c.loop-head-test.true c.head-item.is all),
)

pub returns : goal.returns
returns g c = (
  λ yes. subst (λ l. IsSuspectedUpTo most_view_of_a_script (past l))
      (all_looked c.args.world.now.journal c.heads-head-items.result.now c.heads-head-items.ensures c.loop-head.head-index c.loop-head-test.false) c.loop-head.invariant,
  λ all. refl,
)
