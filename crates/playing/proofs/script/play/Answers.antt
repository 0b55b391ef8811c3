use Rattle.std.proofs.lemmas.Result.{err_from_is_err_and}
use Rattle.world.proofs.Turning.{keeps_then}
use Rattle.playing.specs.Manners.{In_order}
use Rattle.playing.proofs.Ending.{closing_stops, played}
use Rattle.playing.proofs.script.play.Goals as goal

pub returns-in_err-do_steps-clause-stops : goal.returns-in_err-do_steps-clause-stops
returns-in_err-do_steps-clause-stops g c = let p = err_from_is_err_and c.from_residual.result c.from_residual.ensures.1 in rw (p.1, p.2) c.in_err-do_steps.ensures.stops

pub run-requires-clause-holds : goal.run-requires-clause-holds
run-requires-clause-holds g c = (c.requires.holds.0, c.in_ok-do_steps.ensures.keeps.holds c.requires.holds.0 c.requires.holds.1)

pub returns-in_err-closed-clause-keeps : goal.returns-in_err-closed-clause-keeps
returns-in_err-closed-clause-keeps g c =
    keeps_then g.A.App.law g.W.Stable.saving g.B.Body.sealing c.args.world.now c.do_steps.new.world c.run.new.world c.args.stables.now c.do_steps.new.stables c.run.new.stables
    c.in_ok-do_steps.ensures.keeps c.in_err-closed.ensures.keeps

pub returns-in_err-closed-clause-stops : goal.returns-in_err-closed-clause-stops
returns-in_err-closed-clause-stops g c =
    let p = err_from_is_err_and c.from_residual-in_err-closed.result c.from_residual-in_err-closed.ensures.1 in
    λ kinds holds. rw (p.1, p.2) (closing_stops g.A.App.law g.W.Stable.saving g.B.Body.sealing c.args.steps c.args.world.now c.args.stables.now c.do_steps.new.world c.do_steps.new.stables c.run.new.world c.run.new.stables
    c.in_ok-do_steps.ensures.keeps kinds holds (c.in_ok-do_steps.ensures.follows kinds holds) c.in_err-closed.ensures.keeps c.in_err-closed.field-0.0
    (c.in_err-closed.ensures.stops kinds (c.in_ok-do_steps.ensures.keeps.holds kinds holds)))

pub returns-clause-keeps : goal.returns-clause-keeps
returns-clause-keeps g c = keeps_then g.A.App.law g.W.Stable.saving g.B.Body.sealing c.args.world.now c.do_steps.new.world c.run.new.world c.args.stables.now c.do_steps.new.stables c.run.new.stables
    c.in_ok-do_steps.ensures.keeps c.in_ok-closed.ensures.keeps

pub returns-clause-played : goal.returns-clause-played
returns-clause-played g c = λ kinds holds. played g.A.App.law g.W.Stable.saving g.B.Body.sealing c.args.steps c.args.world.now c.args.stables.now c.do_steps.new.world c.do_steps.new.stables c.run.new.world c.run.new.stables
    c.in_ok-do_steps.ensures.keeps In_order kinds holds (c.in_ok-do_steps.ensures.follows kinds holds) c.in_ok-closed.ensures.keeps
    c.len-script.result c.len-script.ensures c.in_ok-closed.closed
    (c.in_ok-closed.ensures.closes kinds (c.in_ok-do_steps.ensures.keeps.holds kinds holds))
