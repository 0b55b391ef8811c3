use Rattle.std.proofs.Common.{nat_cmp}
use Rattle.std.specs.BTreeMap.{get}
use Rattle.capture.proofs.Noted.{counted_link}
use Rattle.capture.proofs.packets.add_letter.Goals as goal

pub returns-in_ok-add_frame-in-Switch-Switch-clause-counted : goal.returns-in_ok-add_frame-in-Switch-Switch-clause-counted
returns-in_ok-add_frame-in-Switch-Switch-clause-counted c =
    λ k. rw c.in_ok-add_frame-in-Switch-Switch.ensures
    (counted_link (get nat_cmp c.args.tape.now.next) c.args.tape.now.packets c.args.heading.time c.in-Switch-Switch.switch c.args.comment.now c.args.body.now c.requires k)
