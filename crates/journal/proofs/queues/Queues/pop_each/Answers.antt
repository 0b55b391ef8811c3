use Rattle.std.proofs.Common.{◌≡◌, ◌<◌, ◌-◌, length, take, ap, ◌∙◌, arith, sym}
use Rattle.std.specs.Prelude.{if◌then◌else◌}
use Rattle.journal.specs.Actors.{same_actor}
use Rattle.journal.specs.Places.{letters_to, queue_of}
use Rattle.journal.proofs.Lists.{at_index, take_next}
use Rattle.journal.proofs.Rows.{popped_more}
use Rattle.journal.proofs.queues.Queues.pop_each.Goals as goal

pub loop-index-preserved : goal.loop-index-preserved
loop-index-preserved g c =
    let letters = c.args.letters.now in
    let index = c.loop-index.index in
    let is = c.loop-index.invariant in
    let within : index < length letters = omega (arith, c.loop-index-test.true, c.requires) in
    let here = at_index (λ l. c.receiver.result ≡ l.to) letters index within c.receiver.ensures in
    record {
      queues = λ a.
          let start = queue_of c.args.self.now a in
          let before = queue_of c.loop-index.self a in
          let now = c.pop.ensures.queues a ∙ ap (λ r. if same_actor r a then take (length before - 1) before else before) here.2 in
          popped_more (λ l. same_actor l.to a) start (take index letters) here.0 before (queue_of c.pop.new.self a) (is.queues a) now
          ∙ ap (λ ls. take (length start - length (letters_to a ls)) start) (sym (take_next letters index here.0 here.1));
      order = c.pop.ensures.order ∙ is.order;
    }
