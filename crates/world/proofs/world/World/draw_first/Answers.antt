use Rattle.std.proofs.Common.{refl, false}
use Rattle.std.proofs.lemmas.Result.{err_from_is_err_and}
use Rattle.journal.specs.declared.journal.Turn.TheVariants as turn
use Rattle.world.proofs.Applying.{applied, none_posted, outbox_stops, step_halts, step_keeps}
use Rattle.world.proofs.Turning.{keeps_then, on_ok, post_same, rests_keeps}
use Rattle.world.proofs.world.World.draw_first.Goals as goal

pub returns-in_err-draw_place-clause-keeps : goal.returns-in_err-draw_place-clause-keeps
returns-in_err-draw_place-clause-keeps g c =
    let law = g.A.App.law in
    let sealing = g.B.Body.sealing in
    let old = c.args.self.now in
    step_keeps law g.W.Stable.saving sealing (turn.Draw c.args.place.to 0 false) old old c.draw_place.new.self c.args.stables.now c.draw_place.new.stables
    (rests_keeps law g.W.Stable.saving sealing old old c.args.stables.now refl refl (λ kinds h. h) c.requires.pairs) c.in_err-draw_place.ensures.stops

pub returns-in_err-draw_place-clause-stops : goal.returns-in_err-draw_place-clause-stops
returns-in_err-draw_place-clause-stops g c =
    let sealing = g.B.Body.sealing in
    let old = c.args.self.now in
    let p = err_from_is_err_and c.from_residual.result c.from_residual.ensures.1 in
    rw (p.1, p.2) (step_halts g.A.App.law g.W.Stable.saving sealing (turn.Draw c.args.place.to 0 false) old old c.draw_place.new.self c.args.stables.now c.draw_place.new.stables (none_posted sealing.size old c.requires.rests) c.in_err-draw_place.ensures.stops)

pub returns-clause-applies : goal.returns-clause-applies
returns-clause-applies g c =
    let sealing = g.B.Body.sealing in
    let old = c.args.self.now in
    on_ok c.post_owed.result _ _ (λ is. applied g.A.App.law g.W.Stable.saving sealing (turn.Draw c.args.place.to 0 false) old old c.draw_place.new.self c.post_owed.new.self c.args.stables.now c.draw_place.new.stables
    (none_posted sealing.size old c.requires.rests) c.in_ok-draw_place.ensures.steps is) c.post_owed.ensures.posts

pub returns-clause-keeps : goal.returns-clause-keeps
returns-clause-keeps g c =
    let law = g.A.App.law in
    let sealing = g.B.Body.sealing in
    let last = post_same sealing.size c.draw_place.new.self c.post_owed.new.self c.post_owed.result _ c.post_owed.ensures.posts c.post_owed.ensures.stops in
    let stepped = c.in_ok-draw_place.ensures.steps.keeps in
    let ended = rests_keeps law g.W.Stable.saving sealing c.draw_place.new.self c.post_owed.new.self c.draw_place.new.stables last.0 last.1 c.post_owed.ensures.holds stepped.pairs in
    keeps_then law g.W.Stable.saving sealing _ _ _ _ _ _ stepped ended

pub returns-clause-stops : goal.returns-clause-stops
returns-clause-stops g c =
    let sealing = g.B.Body.sealing in
    let old = c.args.self.now in
    outbox_stops g.A.App.law g.W.Stable.saving sealing (turn.Draw c.args.place.to 0 false) old old c.draw_place.new.self c.post_owed.new.self c.args.stables.now c.draw_place.new.stables
    (none_posted sealing.size old c.requires.rests) c.in_ok-draw_place.ensures.steps c.post_owed.result c.post_owed.ensures.stops
