use Rattle.std.proofs.Common.{◌∙◌, List, length, sym, ap, subst}
use Rattle.std.proofs.lemmas.Result.{err_from_is_err_and}
use Rattle.world.specs.World.{Keeps, PairsStand}
use Rattle.world.proofs.Turning.{keeps_then}
use Rattle.closing.specs.Views.{most_view_of_a_script}
use Rattle.playing.specs.Manners.{Apart}
use Rattle.playing.specs.Played.{HaltsAs}
use Rattle.playing.proofs.Alone.{followed, suspected, thread_halts, written}
use Rattle.playing.proofs.Ending.{closing_halts, played}
use Rattle.playing.proofs.apart.play_apart.Goals as goal

pub returns-in_err-world-clause-halts : goal.returns-in_err-world-clause-halts
returns-in_err-world-clause-halts g c =
    let p = err_from_is_err_and c.from_residual.result c.from_residual.ensures.1 in
    λ kinds holds. rw (p.1, p.2)
    (thread_halts g.A.App.law g.W.Stable.saving g.B.Body.sealing c.args.steps.now kinds c.args.world c.args.stables.now.items c.run_threads.new.stables.items c.in_err-world.field-0.0.played c.in_err-world.field-0.0.stop
    (c.in_err-world.ensures.halts kinds holds))

pub run-ended-requires-clause-pairs : goal.run-ended-requires-clause-pairs
run-ended-requires-clause-pairs g c =
    subst (λ (l : List _). PairsStand g.W.Stable.saving l c.in_ok-world.world.controllers) (sym c.deref_mut.ensures.value) c.in_ok-world.ensures.keeps.pairs

pub run-ended-requires-clause-views : goal.run-ended-requires-clause-views
run-ended-requires-clause-views g c =
    let kinds = c.requires.holds.0 in
    suspected g.A.App.law g.W.Stable.saving g.B.Body.sealing c.args.steps.now c.args.world c.args.stables.now.items c.in_ok-world.world c.run_threads.new.stables.items c.in_ok-world.ensures.keeps kinds c.requires.holds.1
    (c.in_ok-world.ensures.follows kinds c.requires.holds.1) most_view_of_a_script c.requires.views

pub returns-in-Ok-clause-keeps : goal.returns-in-Ok-clause-keeps
returns-in-Ok-clause-keeps g c =
    let law = g.A.App.law in
    let saving = g.W.Stable.saving in
    let sealing = g.B.Body.sealing in
    let before = c.run_threads.new.stables.items in
    let is = written c.run_threads.new.stables.len c.run-ended.new.stables before c.run_threads.new.stables.ok.0 (c.run-ended.auto.stables ∙ ap (λ l. length l) c.deref_mut.ensures.value) in
    let goes_on = subst (λ (l : List _). Keeps law saving sealing c.in_ok-world.world l c.run-ended.new.world c.run-ended.new.stables) c.deref_mut.ensures.value c.in-Ok.ensures.keeps in
    subst (λ (l : List _). Keeps law saving sealing c.args.world c.args.stables.now.items c.run-ended.new.world l) (sym is)
    (keeps_then law saving sealing c.args.world c.in_ok-world.world c.run-ended.new.world c.args.stables.now.items before c.run-ended.new.stables c.in_ok-world.ensures.keeps goes_on)

pub returns-in-Ok-clause-played : goal.returns-in-Ok-clause-played
returns-in-Ok-clause-played g c = λ kinds holds.
    let law = g.A.App.law in
    let saving = g.W.Stable.saving in
    let sealing = g.B.Body.sealing in
    let before = c.run_threads.new.stables.items in
    let first = c.args.world in
    let now = c.in_ok-world.world in
    let goes_on = subst (λ (l : List _). Keeps law saving sealing now l c.run-ended.new.world c.run-ended.new.stables) c.deref_mut.ensures.value c.in-Ok.ensures.keeps in
    played law saving sealing c.args.steps.now first c.args.stables.now.items now before c.run-ended.new.world c.run-ended.new.stables c.in_ok-world.ensures.keeps Apart kinds holds
    (followed law saving sealing c.args.steps.now first c.args.stables.now.items now before c.in_ok-world.ensures.keeps kinds holds (c.in_ok-world.ensures.follows kinds holds)) goes_on
    c.len-script.result c.len-script.ensures c.in-Ok.closed
    (c.in-Ok.ensures.closes kinds (c.in_ok-world.ensures.keeps.holds kinds holds))

pub returns-in-Err-clause-halts : goal.returns-in-Err-clause-halts
returns-in-Err-clause-halts g c = λ kinds holds.
    let law = g.A.App.law in
    let saving = g.W.Stable.saving in
    let sealing = g.B.Body.sealing in
    let before = c.run_threads.new.stables.items in
    let first = c.args.world in
    let now = c.in_ok-world.world in
    let is = written c.run_threads.new.stables.len c.run-ended.new.stables before c.run_threads.new.stables.ok.0 (c.run-ended.auto.stables ∙ ap (λ l. length l) c.deref_mut.ensures.value) in
    subst (λ (l : List _). HaltsAs law saving sealing c.args.steps.now kinds first c.args.stables.now.items l c.of.result.played c.of.result.stop) (sym is)
    (rw c.of.ensures.stop
    (closing_halts law saving sealing c.args.steps.now first c.args.stables.now.items now before c.run-ended.new.world c.run-ended.new.stables c.in_ok-world.ensures.keeps kinds holds
    (followed law saving sealing c.args.steps.now first c.args.stables.now.items now before c.in_ok-world.ensures.keeps kinds holds (c.in_ok-world.ensures.follows kinds holds))
    c.in-Err.stop
    (subst (λ (l : List _). Keeps law saving sealing now l c.run-ended.new.world c.run-ended.new.stables) c.deref_mut.ensures.value c.in-Err.ensures.keeps)
    c.lawful.ensures.within
    (c.in-Err.ensures.stops kinds (c.in_ok-world.ensures.keeps.holds kinds holds))
    c.of.result.played c.of.ensures.wire c.of.ensures.controllers))
