use Rattle.std.proofs.Common.{ap, ◌∙◌, [], suc, take, drop, drop-cons, None}
use Rattle.journal.specs.declared.journal.Actor.TheVariants.{Controller}
use Rattle.shared_wire.specs.Rule.{seat_view_of}
use Rattle.shared_wire.proofs.board.seat_all.Goals as goal

pub seat_next-place-requires-clause-next : goal.seat_next-place-requires-clause-next
seat_next-place-requires-clause-next g c =
    let i = c.loop-actor.actor-index in
    let xs = c.args.actors.now in
    (take i xs, drop (suc i) xs, c.loop-actor.invariant.me ∙ ap (λ l. (seat_view_of [] (take i xs) l None, [])) (drop-cons xs i (Controller 0) c.loop-actor-test.true))
