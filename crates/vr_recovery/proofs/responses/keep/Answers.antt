use Rattle.std.proofs.Common.{sym, ◌∙◌}
use Rattle.vr_recovery.proofs.Kept.{pushed_is}
use Rattle.vr_recovery.proofs.responses.keep.Goals as goal

pub returns-in_ok-push-in-None-clause-kept : goal.returns-in_ok-push-in-None-clause-kept
returns-in_ok-push-in-None-clause-kept c =
    c.in_ok-push-in-None.ensures.items ∙ pushed_is c.args.responses.now.items c.args.response (rw c.deref.ensures.value at (sym c.place_of.ensures ∙ c.in-None.is))
