use Rattle.std.proofs.Common.{List, refl, sym, subst}
use Rattle.std.specs.List.{AllByRecursion}
use Rattle.of_types.specs.declared.setup.Setup.{Setup}
use Rattle.journal.specs.declared.journal.Turn.{Turn}
use Rattle.journal.specs.Actors.{IsActor}
use Rattle.journal.specs.Turns.{turn_actor}
use Rattle.run_spec.specs.Bodies.{byte_bodies}
use Rattle.world.specs.World.{scene_in}
use Rattle.closing.specs.Views.{most_view_of_a_script, StepSuspectsUpTo}
use Rattle.closing.proofs.Leading.{runs_again}
use Rattle.playing.specs.Manners.{Apart}
use Rattle.top_call.specs.declared.sim.Output.TheVariants.{Report}
use Rattle.top_call.proofs.Ran.{ends_halted, fresh_pairs, ok_ending, primary_of}
use Rattle.top_call.proofs.Playing.{views_up_to, within_journal}
use Rattle.top_call.proofs.Staying.{stay_halted, stay_kept, stay_same}
use Rattle.top_call.proofs.sim.simulate_apart.Goals as goal

pub play_apart-requires-clause-holds : goal.play_apart-requires-clause-holds
play_apart-requires-clause-holds g c = λ κs bounds. (c.requires.stocked.0, c.in_ok-world.ensures.holds c.requires.stocked.0 c.requires.stocked.1)

pub play_apart-requires-clause-pairs : goal.play_apart-requires-clause-pairs
play_apart-requires-clause-pairs g c = λ κs bounds.
    let law = g.A.App.law in
    fresh_pairs law g.W.Stable.saving c.args.stables.now.items c.args.scenario.now.setup c.in_ok-world.world c.requires.stocked.0 c.requires.fresh c.in_ok-world.ensures.starts
    (c.in_ok-world.ensures.holds c.requires.stocked.0 c.requires.stocked.1)

pub play_apart-requires-clause-named : goal.play_apart-requires-clause-named
play_apart-requires-clause-named g c = λ κs bounds.
    subst (λ (l : List Turn). AllByRecursion (λ t. IsActor c.in_ok-world.world.setup (turn_actor t)) l) (sym c.as_slice.ensures)
    (subst (λ (s : Setup). AllByRecursion (λ t. IsActor s (turn_actor t)) c.args.scenario.now.steps) (sym c.in_ok-world.ensures.starts.setup_is) c.requires.is.actors)

pub play_apart-requires-clause-views : goal.play_apart-requires-clause-views
play_apart-requires-clause-views g c = λ κs bounds.
    subst (λ (l : List Turn). AllByRecursion (λ t. StepSuspectsUpTo most_view_of_a_script t) l) (sym c.as_slice.ensures) (views_up_to c.args.scenario.now.steps c.requires.is.views)

pub rested-requires-clause-script : goal.rested-requires-clause-script
rested-requires-clause-script g c =
    let kinds = c.requires.stocked.0 in
    let holds = c.in_ok-world.ensures.holds kinds c.requires.stocked.1 in
    within_journal Apart (scene_in byte_bodies c.in_ok-world.world kinds) c.as_slice.result.now c.in-Ok.rest.script c.in-Ok.rest.closed c.in-Ok.rest.world (c.in-Ok.ensures.played kinds holds)

pub rested-requires-clause-led : goal.rested-requires-clause-led
rested-requires-clause-led g c =
    let law = g.A.App.law in
    let kinds = c.requires.stocked.0 in
    let start = c.in_ok-world.world in
    let holds = c.in_ok-world.ensures.holds kinds c.requires.stocked.1 in
    primary_of law (scene_in byte_bodies start kinds) start c.in-Ok.rest.world
    (runs_again law byte_bodies start c.in-Ok.rest.world kinds c.in-Ok.ensures.keeps.setup (c.in-Ok.ensures.keeps.holds kinds holds)) refl c.in-Ok.rest.closed c.in-Ok.ensures.up

pub returns-in-Ok-clause-ends : goal.returns-in-Ok-clause-ends
returns-in-Ok-clause-ends g c =
    let law = g.A.App.law in
    let scenario = c.args.scenario.now in
    let start = c.in_ok-world.world in
    let starts = c.in_ok-world.ensures.starts in
    λ kinds stocked.
    let holds = c.in_ok-world.ensures.holds kinds stocked in
    ok_ending law g.W.Stable.saving scenario kinds start c.args.stables.now.items c.in-Ok.rest.world c.play_apart.new.stables.items starts holds
    (fresh_pairs law g.W.Stable.saving c.args.stables.now.items scenario.setup start kinds c.requires.fresh starts holds) c.in-Ok.ensures.within Apart c.as_slice.result.now c.as_slice.ensures
    c.in-Ok.rest.closed c.in-Ok.rest.script Report c.len-steps.result c.rested.result c.len-steps.ensures
    c.in-Ok.ensures.keeps (c.in-Ok.ensures.played kinds holds) c.in-Ok.ensures.up c.rested.ensures.ending c.rested.ensures.fits

pub returns-in-Err-clause-ends : goal.returns-in-Err-clause-ends
returns-in-Err-clause-ends g c =
    let law = g.A.App.law in
    let scenario = c.args.scenario.now in
    let start = c.in_ok-world.world in
    let starts = c.in_ok-world.ensures.starts in
    λ kinds stocked.
    let holds = c.in_ok-world.ensures.holds kinds stocked in
    ends_halted law g.W.Stable.saving scenario kinds start c.args.stables.now.items c.play_apart.new.stables.items starts holds
    (fresh_pairs law g.W.Stable.saving c.args.stables.now.items scenario.setup start kinds c.requires.fresh starts holds) c.as_slice.result.now c.as_slice.ensures
    c.in-Err.halt.played c.in-Err.halt.stop c.stopped.result (c.in-Err.ensures.halts kinds holds) c.stopped.ensures

pub returns-in-Ok-clause-stay : goal.returns-in-Ok-clause-stay
returns-in-Ok-clause-stay g c =
    let law = g.A.App.law in
    let kinds = c.requires.stocked.0 in
    let start = c.in_ok-world.world in
    let starts = c.in_ok-world.ensures.starts in
    let holds = c.in_ok-world.ensures.holds kinds c.requires.stocked.1 in
    stay_kept law g.W.Stable.saving kinds start c.args.stables.now.items c.play_apart.new.stables.items holds
    (fresh_pairs law g.W.Stable.saving c.args.stables.now.items c.args.scenario.now.setup start kinds c.requires.fresh starts holds) c.in-Ok.rest.world c.in-Ok.ensures.keeps

pub returns-in-Err-clause-stay : goal.returns-in-Err-clause-stay
returns-in-Err-clause-stay g c =
    let law = g.A.App.law in
    let kinds = c.requires.stocked.0 in
    let start = c.in_ok-world.world in
    let starts = c.in_ok-world.ensures.starts in
    let holds = c.in_ok-world.ensures.holds kinds c.requires.stocked.1 in
    stay_halted law g.W.Stable.saving kinds start c.args.stables.now.items c.play_apart.new.stables.items holds
    (fresh_pairs law g.W.Stable.saving c.args.stables.now.items c.args.scenario.now.setup start kinds c.requires.fresh starts holds) c.as_slice.result.now c.in-Err.halt.played c.in-Err.halt.stop (c.in-Err.ensures.halts kinds holds)

pub returns-in_err-world-clause-stay : goal.returns-in_err-world-clause-stay
returns-in_err-world-clause-stay g c = stay_same g.W.Stable.saving c.args.stables.now.items
