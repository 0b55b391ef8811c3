use Rattle.std.proofs.Common.{◌≡◌, ◌-◌, ◌++◌, length, take, ap, ◌∙◌, arith, ℕ, List, refl}
use Rattle.std.proofs.Math.Seq.{take-append_seam}
use Rattle.std.proofs.lemmas.List.{length-append}
use Rattle.journal.specs.declared.journal.Actor.{Actor}
use Rattle.journal.specs.declared.journal.Actor.TheVariants.{Controller, Switch}
use Rattle.journal.specs.declared.queues.Queues.{Queues}
use Rattle.journal.specs.Places.{placed, queue_of, sent_to, letters_to}
use Rattle.journal.proofs.Placing.{length-sent}
use Rattle.journal.proofs.queues.Queues.append.Goals as goal

-- a queue does not tell the order
other_order : (queues : Queues) (order : List (ℕ × Actor)) (a : Actor) →
    queue_of (record { controllers = queues.controllers; switches = queues.switches; order = order }) a ≡ queue_of queues a
other_order queues order (Controller n) = refl
other_order queues order (Switch n) = refl

pub returns-in-Err-clause-err : goal.returns-in-Err-clause-err
returns-in-Err-clause-err g c = λ a.
    let letters = take c.args.count c.args.letters.now in
    let start = queue_of c.args.self.now a in
    let sent = sent_to a (placed c.args.first c.args.from letters) in
    let now = other_order c.push_each.new.self c.append.new.self a ∙ c.in_ok-push_each.ensures.ok a in
    let count : length (start ++ sent) - length (letters_to a letters) ≡ length start =
    omega (arith, length-append start sent, length-sent a c.args.first c.args.from letters) in
    c.pop_each.ensures.queues a
    ∙ ap (λ q. take (length q - length (letters_to a letters)) q) now
    ∙ ap (λ n. take n (start ++ sent)) count
    ∙ take-append_seam start sent
