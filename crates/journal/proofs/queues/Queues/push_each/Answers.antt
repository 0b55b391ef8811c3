use Rattle.std.proofs.Common.{◌≡◌, ◌<◌, ◌+◌, ◌-◌, ◌++◌, [], ◌∷◌, length, take, sym, ap, ◌∙◌, arith}
use Rattle.std.proofs.Math.Seq.{take-append_seam}
use Rattle.std.proofs.lemmas.List.{length-append}
use Rattle.std.proofs.lemmas.Option.{get_or_from_slice_get}
use Rattle.journal.specs.declared.journal.Actor.{Actor}
use Rattle.journal.specs.declared.place.PacketPlace.{PacketPlace}
use Rattle.journal.specs.Actors.{same_actor}
use Rattle.journal.specs.Places.{placed, queue_of, sent_to, letters_to}
use Rattle.journal.proofs.Lists.{at_index}
use Rattle.journal.proofs.Placing.{placed_next, length-sent}
use Rattle.journal.proofs.Rows.{pushed_more}
use Rattle.journal.proofs.queues.Queues.push_each.Goals as goal

pub returns-in-Err-clause-err : goal.returns-in-Err-clause-err
returns-in-Err-clause-err g c = λ a.
    let before = take c.loop-letter.letter c.args.letters.now in
    let start = queue_of c.args.self.now a in
    let sent = sent_to a (placed c.args.first c.args.from before) in
    let now : queue_of c.push.new.self a ≡ start ++ sent = c.in-Err.ensures.err a ∙ c.loop-letter.invariant.queues a in
    let count : length (start ++ sent) - length (letters_to a before) ≡ length start =
    omega (arith, length-append start sent, length-sent a c.args.first c.args.from before) in
    c.pop_each.ensures.queues a
    ∙ ap (λ q. take (length q - length (letters_to a before)) q) now
    ∙ ap (λ n. take n (start ++ sent)) count
    ∙ take-append_seam start sent

pub loop-letter-preserved : goal.loop-letter-preserved
loop-letter-preserved g c =
    let letters = c.args.letters.now in
    let index = c.loop-letter.letter in
    let within : index < length letters = omega (arith, c.loop-letter-test.true, c.requires.within) in
    let here = at_index (λ l. c.receiver.result ≡ l.to) letters index within c.receiver.ensures in
    let place : Actor → PacketPlace = λ to. record { id = c.args.first + index; from = c.args.from; to = to } in
    let before = placed c.args.first c.args.from (take index letters) in
    record {
      queues = λ a.
          pushed_more (λ place. same_actor place.to a) (queue_of c.args.self.now a) before (place c.receiver.result) (queue_of c.loop-letter.self a) (queue_of c.push.new.self a)
          (c.loop-letter.invariant.queues a) (c.in_default.ensures.ok a)
          ∙ ap (λ to. queue_of c.args.self.now a ++ sent_to a (before ++ place to ∷ [])) here.2
          ∙ ap (λ places. queue_of c.args.self.now a ++ sent_to a places)
          (sym (placed_next c.args.first c.args.from letters index here.0 within (sym (get_or_from_slice_get letters index here.0 here.0 here.1))));
      order = c.push.ensures.order ∙ c.loop-letter.invariant.order;
    }
