use Rattle.std.proofs.Common.{refl, sym, subst}
use Rattle.std.specs.List.{AllByRecursion}
use Rattle.of_types.specs.declared.setup.Setup.{Setup}
use Rattle.journal.specs.Actors.{IsActor}
use Rattle.journal.specs.Turns.{turn_actor}
use Rattle.run_spec.specs.Bodies.{byte_bodies}
use Rattle.world.specs.World.{scene_in}
use Rattle.closing.proofs.Leading.{runs_again}
use Rattle.top_call.proofs.Ran.{ends_closed, ends_stopped, fresh_pairs, primary_there, script_within}
use Rattle.top_call.proofs.Playing.{views_up_to}
use Rattle.top_call.proofs.Staying.{stay_kept, stay_same}
use Rattle.top_call.proofs.sim.simulate.Goals as goal

pub play-ended-requires-clause-holds : goal.play-ended-requires-clause-holds
play-ended-requires-clause-holds g c = (c.requires.stocked.0, c.in_ok-world.ensures.holds c.requires.stocked.0 c.requires.stocked.1)

pub play-ended-requires-clause-pairs : goal.play-ended-requires-clause-pairs
play-ended-requires-clause-pairs g c =
    let law = g.A.App.law in
    fresh_pairs law g.W.Stable.saving c.args.stables.now c.args.scenario.setup c.in_ok-world.world c.requires.stocked.0 c.requires.fresh c.in_ok-world.ensures.starts
    (c.in_ok-world.ensures.holds c.requires.stocked.0 c.requires.stocked.1)

pub play-ended-requires-clause-named : goal.play-ended-requires-clause-named
play-ended-requires-clause-named g c =
    subst (λ (s : Setup). AllByRecursion (λ t. IsActor s (turn_actor t)) c.args.scenario.steps) (sym c.in_ok-world.ensures.starts.setup_is) c.requires.is.actors

pub rested-requires-clause-script : goal.rested-requires-clause-script
rested-requires-clause-script g c =
    let kinds = c.requires.stocked.0 in
    let holds = c.in_ok-world.ensures.holds kinds c.requires.stocked.1 in
    script_within (scene_in byte_bodies c.in_ok-world.world kinds) c.args.scenario.steps c.play-ended.new.world c.play-ended.result c.in-Ok.closed c.in-Ok.script c.in-Ok.is (c.play-ended.ensures.played kinds holds)

pub rested-requires-clause-led : goal.rested-requires-clause-led
rested-requires-clause-led g c =
    let law = g.A.App.law in
    let kinds = c.requires.stocked.0 in
    let start = c.in_ok-world.world in
    let holds = c.in_ok-world.ensures.holds kinds c.requires.stocked.1 in
    primary_there law (scene_in byte_bodies start kinds) start c.play-ended.new.world
    (runs_again law byte_bodies start c.play-ended.new.world kinds c.in-Ok.ensures.keeps.setup (c.in-Ok.ensures.keeps.holds kinds holds)) refl
    c.play-ended.result c.in-Ok.closed c.in-Ok.script c.in-Ok.is c.play-ended.ensures.up

pub returns-in-Ok-clause-ends : goal.returns-in-Ok-clause-ends
returns-in-Ok-clause-ends g c =
    let law = g.A.App.law in
    let scenario = c.args.scenario in
    let start = c.in_ok-world.world in
    let starts = c.in_ok-world.ensures.starts in
    λ kinds stocked.
    let holds = c.in_ok-world.ensures.holds kinds stocked in
    ends_closed law g.W.Stable.saving scenario kinds start c.args.stables.now c.play-ended.new.world c.play-ended.new.stables starts holds
    (fresh_pairs law g.W.Stable.saving c.args.stables.now scenario.setup start kinds c.requires.fresh starts holds) c.lawful.ensures.within c.args.scenario.steps refl
    c.play-ended.result c.in-Ok.closed c.in-Ok.script c.args.output c.len-count.result c.rested.result c.in-Ok.is c.len-count.ensures
    c.play-ended.ensures.keeps (c.play-ended.ensures.played kinds holds) c.play-ended.ensures.up c.rested.ensures.ending c.rested.ensures.fits

pub returns-clause-ends : goal.returns-clause-ends
returns-clause-ends g c =
    let law = g.A.App.law in
    let scenario = c.args.scenario in
    let start = c.in_ok-world.world in
    let starts = c.in_ok-world.ensures.starts in
    λ kinds stocked.
    let holds = c.in_ok-world.ensures.holds kinds stocked in
    ends_stopped law g.W.Stable.saving scenario kinds start c.args.stables.now c.play-ended.new.world c.play-ended.new.stables starts holds
    (fresh_pairs law g.W.Stable.saving c.args.stables.now scenario.setup start kinds c.requires.fresh starts holds) c.lawful.ensures.within c.args.scenario.steps refl
    c.play-ended.result c.in-Err.stop c.args.output c.stopped.result c.in-Err.is c.play-ended.ensures.keeps (c.play-ended.ensures.stops kinds holds) c.stopped.ensures

pub play-ended-requires-clause-views : goal.play-ended-requires-clause-views
play-ended-requires-clause-views g c =
    views_up_to c.args.scenario.steps c.requires.is.views

pub returns-in-Ok-clause-stay : goal.returns-in-Ok-clause-stay
returns-in-Ok-clause-stay g c =
    let law = g.A.App.law in
    let kinds = c.requires.stocked.0 in
    let start = c.in_ok-world.world in
    let starts = c.in_ok-world.ensures.starts in
    let holds = c.in_ok-world.ensures.holds kinds c.requires.stocked.1 in
    stay_kept law g.W.Stable.saving kinds start c.args.stables.now c.play-ended.new.stables holds
    (fresh_pairs law g.W.Stable.saving c.args.stables.now c.args.scenario.setup start kinds c.requires.fresh starts holds) c.play-ended.new.world c.play-ended.ensures.keeps

pub returns-clause-stay : goal.returns-clause-stay
returns-clause-stay g c =
    let law = g.A.App.law in
    let kinds = c.requires.stocked.0 in
    let start = c.in_ok-world.world in
    let starts = c.in_ok-world.ensures.starts in
    let holds = c.in_ok-world.ensures.holds kinds c.requires.stocked.1 in
    stay_kept law g.W.Stable.saving kinds start c.args.stables.now c.play-ended.new.stables holds
    (fresh_pairs law g.W.Stable.saving c.args.stables.now c.args.scenario.setup start kinds c.requires.fresh starts holds) c.play-ended.new.world c.play-ended.ensures.keeps

pub returns-in_err-world-clause-stay : goal.returns-in_err-world-clause-stay
returns-in_err-world-clause-stay g c = stay_same g.W.Stable.saving c.args.stables.now
