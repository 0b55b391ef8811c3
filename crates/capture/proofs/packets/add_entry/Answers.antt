use Rattle.std.proofs.Common.{nat_cmp}
use Rattle.std.specs.BTreeMap.{get}
use Rattle.capture.proofs.Noted.{counted_frame}
use Rattle.capture.proofs.packets.add_entry.Goals as goal

pub returns-in_ok-push_frame-in-Local-Switch-Frame-clause-counted :
    goal.returns-in_ok-push_frame-in-Local-Switch-Frame-clause-counted
returns-in_ok-push_frame-in-Local-Switch-Frame-clause-counted c =
    λ k. rw c.in_ok-push_frame-in-Local-Switch-Frame.ensures (counted_frame (get nat_cmp c.args.tape.now.next) c.args.tape.now.packets c.args.time _ _ _ _ c.requires k)
