use Rattle.std.proofs.Common.{◌≡◌, drop}
use Rattle.of_switch.specs.Drafts.{with_removed}
use Rattle.of_switch.proofs.switch.events.note_all.Given as goal

abbrev pub invariant-loop-expired : goal.invariant-loop-expired
invariant-loop-expired l = with_removed (drop l.expired-index l.left) l.draft ≡ with_removed l.left l.fn.draft
