use Rattle.std.proofs.Common.{refl}
use Rattle.view_change.specs.Entering.{voted}
use Rattle.view_change.proofs.Checks.{more_kept, more_dropped}
use Rattle.view_change.proofs.cases.vote_changing.Goals as goal

pub returns-then-not-kept : goal.returns-then-not-kept
returns-then-not-kept c =
    let s = c.args.state.now in
    more_dropped s c.take_vote.new.state (voted s c.args.from) c.check.new.state c.args.out.now c.check.new.out c.in_ok-kept.kept c.in_ok-former.ensures.state refl refl c.in_ok-kept.ensures.kept c.in_ok-kept.ensures.step
    _ c.if-not-kept.true (λ is. rw (is, c.in_ok-former.ensures.votes) refl)

pub returns-else-not-kept : goal.returns-else-not-kept
returns-else-not-kept c =
    let s = c.args.state.now in
    more_kept s c.take_vote.new.state (voted s c.args.from) c.check.new.state c.args.out.now c.check.new.out c.in_ok-kept.kept c.in_ok-former.ensures.state refl refl c.in_ok-kept.ensures.kept c.in_ok-kept.ensures.step
    c.if-not-kept.false
