use Rattle.std.proofs.Common.{subst}
use Rattle.std.proofs.lemmas.Result.{err_from_is_err_and}
use Rattle.journal.specs.Turns.{posting}
use Rattle.shared_wire.specs.Calls.{Adds, Refuses}
use Rattle.running.proofs.Stepping.{last_posted, refused_stops, stops_in}
use Rattle.running.proofs.job.post_last.Goals as goal

pub returns-clause-on : goal.returns-clause-on
returns-clause-on g c = λ setup kinds start steps number on.
    let p = c.args.job.now.place in
    let q = c.post-answer.new.place in
    let plays = g.P.Seated.plays setup kinds p.actor start in
    let a = subst (λ z. Adds p q (posting z p.actor c.args.job.now.owed)) g.met.B.Body.weighed c.in_ok-answer.ensures.ok in
    last_posted plays steps g.B.Body.sealing.size p q c.args.job.now.player c.args.job.now.owed c.clear.new.self number c.clear.ensures c.post-answer.ensures.place.0 c.lawful.ensures.part_is c.lawful-2.ensures.part_is a
    (λ before. c.rests.ensures.posts setup kinds p.actor start p.own c.args.job.now.owed before on.plays_it) on

pub returns-in_err-answer-clause-stops : goal.returns-in_err-answer-clause-stops
returns-in_err-answer-clause-stops g c = λ setup kinds start steps number on.
    let r = err_from_is_err_and c.from_residual.result c.from_residual.ensures.1 in
    let p = c.args.job.now.place in
    let q = c.post-answer.new.place in
    let owed = c.args.job.now.owed in
    let plays = g.P.Seated.plays setup kinds p.actor start in
    rw (r.1, r.2)
    (stops_in plays steps g.B.Body.sealing.size p q c.args.job.now.player owed owed number c.in_err-answer.field-0.0 c.post-answer.ensures.place.0 c.lawful.ensures.part_is c.lawful-2.ensures.part_is on
    (refused_stops g.B.Body.sealing.size p q owed c.in_err-answer.field-0.0
    (subst (λ z. Refuses z p q owed c.in_err-answer.field-0.0) g.met.B.Body.weighed c.in_err-answer.ensures.err)))
