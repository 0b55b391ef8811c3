use Rattle.std.proofs.Common.{subst, sym, [], ◌∷◌, ◌++◌, ◌+◌}
use Rattle.std.proofs.lemmas.Result.{err_from_is_err_and}
use Rattle.journal.specs.Part.{drawn}
use Rattle.journal.specs.Pool.{past}
use Rattle.journal.specs.Turns.{entry_of, posting, posted}
use Rattle.shared_wire.specs.Calls.{beside_seat}
use Rattle.running.specs.Hearing.{Hears}
use Rattle.running.specs.Jobs.{HasPlayedSome}
use Rattle.running.proofs.Playing.{on_err_at, on_ok_at}
use Rattle.running.proofs.Stepping.{plays_on, stops_in, taken_of, taken_on}
use Rattle.running.proofs.job.take_step.Goals as goal

pub returns-in_err-heard-clause-stops : goal.returns-in_err-heard-clause-stops
returns-in_err-heard-clause-stops g c = λ setup kinds start steps number on.
    let r = err_from_is_err_and c.from_residual.result c.from_residual.ensures.1 in
    let p = c.args.job.now.place in
    let q = c.next_input-answer.new.place in
    rw (r.1, r.2)
    (stops_in (g.P.Seated.plays setup kinds p.actor start) steps g.B.Body.sealing.size p q c.args.job.now.player c.args.job.now.owed c.next_input-answer.new.owed number c.in_err-heard.field-0.0 c.next_input-answer.ensures.place.0
    c.lawful.ensures.part_is c.lawful-2.ensures.part_is on c.in_err-heard.ensures.err)

pub take-requires-clause-plays : goal.take-requires-clause-plays
take-requires-clause-plays g c =
    let r = c.requires.plays in
    let p = c.args.job.now.place in
    let k = c.in_ok-heard.ensures.ok in
    (r.0, r.1, p.actor, r.2, beside_seat (posting g.B.Body.sealing.size p.actor c.args.job.now.owed (past k.met)) (past k.met) ++ p.own, c.rests.ensures.posts r.0 r.1 p.actor r.2 p.own c.args.job.now.owed (past k.met) r.3)

pub returns-in_ok-take-clause-on : goal.returns-in_ok-take-clause-on
returns-in_ok-take-clause-on g c = λ setup kinds start steps number next on.
    let sealing = g.B.Body.sealing in
    let plays = g.P.Seated.plays setup kinds c.args.job.now.place.actor start in
    let p = c.args.job.now.place in
    let q = c.next_input-answer.new.place in
    let owed = c.args.job.now.owed in
    let k = c.in_ok-heard.ensures.ok in
    let before = posted g.B.Body.sealing.size p.actor owed (past k.met) in
    let own = beside_seat (posting g.B.Body.sealing.size p.actor owed (past k.met)) (past k.met) ++ p.own in
    let e = entry_of c.args.step.now before in
    let posted_it = c.rests.ensures.posts setup kinds p.actor start p.own owed (past k.met) on.plays_it in
    let heard = subst (λ i. Hears sealing g.P.Player.hears g.P.Player.locally e (drawn e before) i) c.in-Some.is k.hears_it in
    let took = on_ok_at c.take.result (plays ((e, drawn e before) ∷ own) c.take.new.self c.take.new.owed) c.in_ok-take.field-0 c.in_ok-take.was (c.take.ensures.takes setup kinds p.actor start own e (drawn e before) heard posted_it) in
    plays_on plays steps p q c.take.new.self c.take.new.owed (number + 1) c.next_input-answer.ensures.place.0 (subst (λ o. plays o c.take.new.self c.take.new.owed) (sym k.own) took)
    (taken_on sealing g.P.Player.hears g.P.Player.locally p q owed c.args.step.now c.in_ok-heard.heard k c.requires.mine c.next_input-answer.ensures.place.0 c.lawful.ensures.part_is c.lawful-2.ensures.part_is steps number next
    (taken_of plays steps p c.args.job.now.player owed number on))

pub returns-in_err-take-clause-stops : goal.returns-in_err-take-clause-stops
returns-in_err-take-clause-stops g c = λ setup kinds start steps number on.
    let r = err_from_is_err_and c.from_residual-in_err-take.result c.from_residual-in_err-take.ensures.1 in
    let sealing = g.B.Body.sealing in
    let plays = g.P.Seated.plays setup kinds c.args.job.now.place.actor start in
    let p = c.args.job.now.place in
    let owed = c.args.job.now.owed in
    let k = c.in_ok-heard.ensures.ok in
    let before = posted g.B.Body.sealing.size p.actor owed (past k.met) in
    let own = beside_seat (posting g.B.Body.sealing.size p.actor owed (past k.met)) (past k.met) ++ p.own in
    let e = entry_of c.args.step.now before in
    let posted_it = c.rests.ensures.posts setup kinds p.actor start p.own owed (past k.met) on.plays_it in
    let heard = subst (λ i. Hears sealing g.P.Player.hears g.P.Player.locally e (drawn e before) i) c.in-Some.is k.hears_it in
    rw (r.1, r.2) (on_err_at c.take.result (HasPlayedSome plays c.take.new.self) c.in_err-take.field-0.0 c.in_err-take.was
    (c.take.ensures.wants setup kinds p.actor start own e (drawn e before) heard posted_it))

pub returns-in_default-clause-on : goal.returns-in_default-clause-on
returns-in_default-clause-on g c = λ setup kinds start steps number next on.
    let sealing = g.B.Body.sealing in
    let plays = g.P.Seated.plays setup kinds c.args.job.now.place.actor start in
    let p = c.args.job.now.place in
    let q = c.next_input-answer.new.place in
    let owed = c.args.job.now.owed in
    let player = c.args.job.now.player in
    let k = c.in_ok-heard.ensures.ok in
    let before = posted g.B.Body.sealing.size p.actor owed (past k.met) in
    let own = beside_seat (posting g.B.Body.sealing.size p.actor owed (past k.met)) (past k.met) ++ p.own in
    let e = entry_of c.args.step.now before in
    let posted_it = c.rests.ensures.posts setup kinds p.actor start p.own owed (past k.met) on.plays_it in
    let nothing = subst (λ i. Hears sealing g.P.Player.hears g.P.Player.locally e (drawn e before) i) c.in_default.is k.hears_it in
    let rest = c.rests.ensures.quiet setup kinds p.actor start own e (drawn e before) nothing posted_it in
    plays_on plays steps p q player c.next_input-answer.new.owed (number + 1) c.next_input-answer.ensures.place.0
    (subst (λ o. plays q.own player o) (sym c.in_ok-heard.ensures.owed) (subst (λ o. plays o player []) (sym k.own) rest))
    (taken_on sealing g.P.Player.hears g.P.Player.locally p q owed c.args.step.now c.in_ok-heard.heard k c.requires.mine c.next_input-answer.ensures.place.0 c.lawful.ensures.part_is c.lawful-2.ensures.part_is steps number next
    (taken_of plays steps p player owed number on))
