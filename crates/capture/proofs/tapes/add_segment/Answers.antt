use Rattle.std.proofs.Common.{nat_cmp, sym}
use Rattle.std.specs.BTreeMap.{get}
use Rattle.capture.proofs.Noted.{counted_more}
use Rattle.capture.proofs.tapes.add_segment.Goals as goal

pub returns-clause-counted : goal.returns-clause-counted
returns-clause-counted c =
    λ k. rw c.in_ok-push_segment.ensures.added (counted_more (get nat_cmp c.push_segment.new.tape.next) (get nat_cmp c.count.new.next) c.args.tape.now.packets
    c.args.heading.time c.args.heading.from c.args.heading.to c.args.comment.now c.args.piece.now c.args.ends
    (λ q. rw c.in_ok-push_segment.ensures.next (c.requires.counted q)) (λ q. rw (sym c.direction.ensures) (c.in_ok-count.ensures q)) k)
