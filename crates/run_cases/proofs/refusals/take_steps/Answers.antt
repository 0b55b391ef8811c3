use Rattle.std.proofs.Common.{sym, subst}
use Rattle.journal.specs.Actors.{IsActor}
use Rattle.journal.specs.Turns.{turn_actor}
use Rattle.journal.proofs.All.{all_get}
use Rattle.world.proofs.Acting.{stood_at}
use Rattle.world.proofs.Turning.{keeps_then}
use Rattle.closing.proofs.Parts.{keeps_none}
use Rattle.run_cases.proofs.refusals.take_steps.Goals as goal

pub loop-step-init : goal.loop-step-init
loop-step-init g c = keeps_none g.A.App.law g.W.Stable.saving g.B.Body.sealing c.args.world.now c.args.stables.now c.requires.pairs

pub apply-requires-clause-holds : goal.apply-requires-clause-holds
apply-requires-clause-holds g c = (c.requires.holds.0, c.loop-step.invariant.holds c.requires.holds.0 c.requires.holds.1)

pub apply-requires-clause-named : goal.apply-requires-clause-named
apply-requires-clause-named g c =
    let found = stood_at c.args.steps.now c.loop-step.step-index c.step-item.result c.loop-step-test.true c.step-item.is in
    subst (λ s. IsActor s (turn_actor c.step-item.result)) (sym c.loop-step.invariant.setup)
    (all_get (λ t. IsActor c.args.world.now.setup (turn_actor t)) c.args.steps.now c.loop-step.step-index c.step-item.result c.requires.named found)

pub loop-step-preserved : goal.loop-step-preserved
loop-step-preserved g c =
    keeps_then g.A.App.law g.W.Stable.saving g.B.Body.sealing c.args.world.now c.loop-step.world c.apply.new.self c.args.stables.now c.loop-step.stables c.apply.new.stables c.loop-step.invariant c.apply.ensures.keeps

pub returns-in-Err : goal.returns-in-Err
returns-in-Err g c =
    keeps_then g.A.App.law g.W.Stable.saving g.B.Body.sealing c.args.world.now c.loop-step.world c.apply.new.self c.args.stables.now c.loop-step.stables c.apply.new.stables c.loop-step.invariant c.apply.ensures.keeps
