use Rattle.std.proofs.Common.{subst, sym, ◌∙◌, ◌≡◌, ◌+◌, length, take, true}
use Rattle.std.specs.Prelude.{if◌then◌else◌, slice_get, Some}
use Rattle.std.proofs.lemmas.Result.{err_from_is_err_and}
use Rattle.journal.specs.Actors.{same_actor}
use Rattle.journal.specs.Turns.{turn_actor}
use Rattle.world.proofs.Acting.{stood_at}
use Rattle.running.specs.Apart.{steps_of}
use Rattle.running.specs.Jobs.{PlaysOn, StopsIn}
use Rattle.running.proofs.Playing.{err_at, on_ok_at}
use Rattle.running.proofs.Stepping.{count_own, next_own}
use Rattle.running.proofs.job.do_own_steps.Goals as goal

pub returns-in_err-own_step-clause-stops : goal.returns-in_err-own_step-clause-stops
returns-in_err-own_step-clause-stops g c = λ setup kinds start first.
    let r = err_from_is_err_and c.from_residual.result c.from_residual.ensures.1 in
    let same = c.loop-step.invariant.place.0 in
    let number = length (steps_of c.args.job.now.place.actor (take c.loop-step.step-index c.args.steps.now)) in
    let on = subst (λ x. PlaysOn (g.P.Seated.plays setup kinds x start) c.args.steps.now number c.loop-step.job) (sym same) (c.loop-step.invariant.on setup kinds start first) in
    rw (r.1, r.2)
    (subst (λ x. StopsIn (g.P.Seated.plays setup kinds x start) g.B.Body.sealing.size c.args.steps.now c.own_step.new.job c.in_err-own_step.field-0.0) same
    (err_at c.own_step.result _ c.in_err-own_step.field-0.0 c.in_err-own_step.was (c.own_step.ensures.stops setup kinds start c.args.steps.now number on)))

pub loop-step-preserved : goal.loop-step-preserved
loop-step-preserved g c = record {
  place = (c.own_step.ensures.place.0 ∙ c.loop-step.invariant.place.0, c.own_step.ensures.place.1 ∙ c.loop-step.invariant.place.1);
  on = λ setup kinds start first.
      let steps = c.args.steps.now in
      let a = c.args.job.now.place.actor in
      let i = c.loop-step.step-index in
      let same = c.loop-step.invariant.place.0 in
      let found = stood_at steps i c.step-item.result c.loop-step-test.true c.step-item.is in
      let number = length (steps_of a (take i steps)) in
      let on = subst (λ x. PlaysOn (g.P.Seated.plays setup kinds x start) steps number c.loop-step.job) (sym same) (c.loop-step.invariant.on setup kinds start first) in
      let next = λ (own : same_actor (turn_actor c.step-item.result) c.loop-step.job.place.actor ≡ true).
      subst (λ x. slice_get (steps_of x steps) number ≡ Some c.step-item.result) (sym same)
      (next_own a steps i c.step-item.result found (subst (λ x. same_actor (turn_actor c.step-item.result) x ≡ true) same own)) in
      let went = on_ok_at c.own_step.result _ c.in_ok-own_step.field-0 c.in_ok-own_step.was (c.own_step.ensures.on setup kinds start steps number next on) in
      let here = subst (λ x. PlaysOn (g.P.Seated.plays setup kinds x start) steps (if same_actor (turn_actor c.step-item.result) x then number + 1 else number) c.own_step.new.job) same went in
      subst (λ n. PlaysOn (g.P.Seated.plays setup kinds a start) steps n c.own_step.new.job) (sym (count_own a steps i c.step-item.result found)) here;
}
