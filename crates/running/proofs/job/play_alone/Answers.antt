use Rattle.std.proofs.Common.{subst, sym, ◌∙◌, length, IfErr}
use Rattle.running.specs.Apart.{steps_of}
use Rattle.running.specs.Jobs.{PlaysOn, StopsIn}
use Rattle.running.proofs.Playing.{on_both, on_ok_at}
use Rattle.running.proofs.job.play_alone.Goals as goal

pub returns-clause-done : goal.returns-clause-done
returns-clause-done g c = λ setup kinds start first.
    let steps = c.args.steps.now in
    let a = c.args.job.now.place.actor in
    let middle = c.do_own_steps.new.job in
    let same = c.do_own_steps.ensures.place.0 in
    let number = length (steps_of a steps) in
    let on = on_ok_at c.do_own_steps.result _ c.in_ok-do_own_steps.field-0 c.in_ok-do_own_steps.was (c.do_own_steps.ensures.on setup kinds start first) in
    let last = c.post_last.ensures.on setup kinds start steps number (subst (λ x. PlaysOn (g.P.Seated.plays setup kinds x start) steps number middle) (sym same) on) in
    on_both c.post_last.result _ _ _ last c.post_last.ensures.rests (λ done rests. record {
      on = subst (λ y. PlaysOn (g.P.Seated.plays setup kinds a start) steps (length (steps_of y steps)) c.post_last.new.job) (sym (c.post_last.ensures.place.0 ∙ same))
          (subst (λ x. PlaysOn (g.P.Seated.plays setup kinds x start) steps number c.post_last.new.job) same done);
      rests = rests;
    })

pub returns-clause-stops : goal.returns-clause-stops
returns-clause-stops g c = λ setup kinds start first.
    let steps = c.args.steps.now in
    let a = c.args.job.now.place.actor in
    let middle = c.do_own_steps.new.job in
    let same = c.do_own_steps.ensures.place.0 in
    let number = length (steps_of a steps) in
    let on = on_ok_at c.do_own_steps.result _ c.in_ok-do_own_steps.field-0 c.in_ok-do_own_steps.was (c.do_own_steps.ensures.on setup kinds start first) in
    subst (λ x. IfErr c.post_last.result (StopsIn (g.P.Seated.plays setup kinds x start) g.B.Body.sealing.size steps c.post_last.new.job)) same
    (c.post_last.ensures.stops setup kinds start steps number (subst (λ x. PlaysOn (g.P.Seated.plays setup kinds x start) steps number middle) (sym same) on))
