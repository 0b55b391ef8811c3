use Rattle.std.proofs.Common.{◌≤◌, ◌<◌, ◌+◌, ◌-◌, ◌*◌, length, subst, arith, Err}
use Rattle.std.proofs.lemmas.Result.{err_from_is_err_and}
use Rattle.journal.specs.Pool.{past}
use Rattle.run_spec.specs.Closing.{Losing}
use Rattle.world.specs.World.{scene_in}
use Rattle.closing.specs.Closing.{ClosesIn, EndsBy, LeadsTo, ClosingStandsAt, UpTo, up_in}
use Rattle.closing.specs.Views.{most_view_of_a_closing, most_view_of_a_script, views_of_an_attempt}
use Rattle.closing.proofs.Ended.{has_ended}
use Rattle.closing.proofs.Leading.{leads_then, runs_again}
use Rattle.closing.proofs.Parts.{closes_first, few_up, keeps_none, keeps_then, raises_last, raises_none, stops_by, suspected_more, views_none}
use Rattle.closing.proofs.rest.run.Goals as goal

pub closing-init : goal.closing-init
closing-init g c =
    let law = g.A.App.law in
    let sealing = g.B.Body.sealing in
    record {
      keeps = keeps_none law g.W.Stable.saving sealing c.args.world.now c.args.stables.now c.requires.pairs;
      closes = λ kinds holds start s. s;
      views = raises_none (views_of_an_attempt * (7 - length (up_in c.args.world.now))) c.args.world.now c.args.world.now (views_none 0 c.args.world.now);
    }

pub close_once-requires-clause-holds : goal.close_once-requires-clause-holds
close_once-requires-clause-holds g c = (c.requires.holds.0, c.closing.invariant.keeps.holds c.requires.holds.0 c.requires.holds.1)

pub close_once-requires-clause-views : goal.close_once-requires-clause-views
close_once-requires-clause-views g c =
    suspected_more (most_view_of_a_script + views_of_an_attempt * (7 - length (up_in c.closing.world))) most_view_of_a_closing (past c.closing.world.journal) (omega arith) (c.closing.invariant.views most_view_of_a_script c.requires.views)

pub returns-in_err-closed-clause-keeps : goal.returns-in_err-closed-clause-keeps
returns-in_err-closed-clause-keeps g c =
    let law = g.A.App.law in
    let sealing = g.B.Body.sealing in
    keeps_then law g.W.Stable.saving sealing c.args.world.now c.closing.world c.close_once.new.world c.args.stables.now c.closing.stables c.close_once.new.stables c.closing.invariant.keeps c.in_err-closed.ensures.keeps

pub returns-in_err-closed-clause-stops : goal.returns-in_err-closed-clause-stops
returns-in_err-closed-clause-stops g c =
    let law = g.A.App.law in
    let sealing = g.B.Body.sealing in
    let p = err_from_is_err_and c.from_residual.result c.from_residual.ensures.1 in
    rw (p.1, p.2) (λ kinds holds.
    stops_by (scene_in sealing c.args.world.now kinds) c.in_err-closed.field-0.0 c.args.world.now c.close_once.new.world (leads_then law sealing (ClosesIn Losing) (ClosesIn Losing) (ClosingStandsAt EndsBy (Err c.in_err-closed.field-0.0)) c.args.world.now c.closing.world c.close_once.new.world c.closing.invariant.keeps.setup c.closing.invariant.keeps.holds c.closing.invariant.closes c.in_err-closed.ensures.closes kinds holds c.args.world.now (closes_first (scene_in sealing c.args.world.now kinds) c.args.world.now)))

pub returns-in-Some-clause-keeps : goal.returns-in-Some-clause-keeps
returns-in-Some-clause-keeps g c =
    let law = g.A.App.law in
    let sealing = g.B.Body.sealing in
    keeps_then law g.W.Stable.saving sealing c.args.world.now c.closing.world c.close_once.new.world c.args.stables.now c.closing.stables c.close_once.new.stables c.closing.invariant.keeps c.in_ok-closed.ensures.keeps

pub returns-in-Some-clause-closes : goal.returns-in-Some-clause-closes
returns-in-Some-clause-closes g c =
    let law = g.A.App.law in
    let sealing = g.B.Body.sealing in
    let kept = keeps_then law g.W.Stable.saving sealing c.args.world.now c.closing.world c.close_once.new.world c.args.stables.now c.closing.stables c.close_once.new.stables c.closing.invariant.keeps c.in_ok-closed.ensures.keeps in
    λ kinds holds.
    has_ended law sealing g.met.B.Body.faithful c.args.world.now c.close_once.new.world kinds kept.setup (kept.holds kinds holds) c.lawful.ensures.within c.in-Some.closed
    (subst (λ o. EndsBy o (scene_in sealing c.args.world.now kinds) c.args.world.now c.close_once.new.world) c.in-Some.is (leads_then law sealing (ClosesIn Losing) (ClosesIn Losing) (EndsBy c.in_ok-closed.field-0) c.args.world.now c.closing.world c.close_once.new.world c.closing.invariant.keeps.setup c.closing.invariant.keeps.holds c.closing.invariant.closes c.in_ok-closed.ensures.closes kinds holds c.args.world.now (closes_first (scene_in sealing c.args.world.now kinds) c.args.world.now)))

pub closing-preserved : goal.closing-preserved
closing-preserved g c =
    let law = g.A.App.law in
    let sealing = g.B.Body.sealing in
    let u = length (up_in c.closing.world) in
    let v = length (up_in c.close_once.new.world) in
    let less : v < u = subst (λ o. UpTo o c.closing.world c.close_once.new.world) c.in_default.is c.in_ok-closed.ensures.up in
    let seven : u ≤ 7 = few_up (scene_in sealing c.args.world.now c.requires.holds.0) c.closing.world (runs_again law sealing c.args.world.now c.closing.world c.requires.holds.0 c.closing.invariant.keeps.setup (c.closing.invariant.keeps.holds c.requires.holds.0 c.requires.holds.1)) in
    record {
      keeps = keeps_then law g.W.Stable.saving sealing c.args.world.now c.closing.world c.close_once.new.world c.args.stables.now c.closing.stables c.close_once.new.stables c.closing.invariant.keeps c.in_ok-closed.ensures.keeps;
      closes = leads_then law sealing (ClosesIn Losing) (ClosesIn Losing) (ClosesIn Losing) c.args.world.now c.closing.world c.close_once.new.world c.closing.invariant.keeps.setup c.closing.invariant.keeps.holds c.closing.invariant.closes (subst (λ o. LeadsTo law sealing (ClosesIn Losing) (EndsBy o) c.closing.world c.close_once.new.world) c.in_default.is c.in_ok-closed.ensures.closes);
      views = λ limit h. suspected_more (limit + views_of_an_attempt * (7 - u) + views_of_an_attempt) (limit + views_of_an_attempt * (7 - v)) (past c.close_once.new.world.journal) (omega (arith, less, seven)) (c.in_ok-closed.ensures.views (limit + views_of_an_attempt * (7 - u)) (c.closing.invariant.views limit h));
    }

pub returns-in_err-closed-clause-views : goal.returns-in_err-closed-clause-views
returns-in_err-closed-clause-views g c =
    raises_last (7 - length (up_in c.closing.world)) c.args.world.now c.closing.world c.close_once.new.world (omega arith) c.closing.invariant.views c.in_err-closed.ensures.views

pub returns-in-Some-clause-views : goal.returns-in-Some-clause-views
returns-in-Some-clause-views g c =
    raises_last (7 - length (up_in c.closing.world)) c.args.world.now c.closing.world c.close_once.new.world (omega arith) c.closing.invariant.views c.in_ok-closed.ensures.views
