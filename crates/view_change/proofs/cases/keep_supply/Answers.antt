use Rattle.std.proofs.Common.{refl}
use Rattle.view_change.specs.Cases.{supplied}
use Rattle.view_change.proofs.Checks.{more_kept, more_dropped}
use Rattle.view_change.proofs.cases.keep_supply.Goals as goal

pub returns-then-not-kept : goal.returns-then-not-kept
returns-then-not-kept c =
    let s = c.args.state.now in
    more_dropped s c.take_supply-former.new.state (supplied s c.args.first c.args.log) c.check.new.state c.args.out.now c.check.new.out c.in_ok-kept.kept c.take_supply-former.ensures.state refl refl c.in_ok-kept.ensures.kept c.in_ok-kept.ensures.step
    _ c.if-not-kept.true (λ is. rw (is, c.take_supply-former.ensures.former) refl)

pub returns-else-not-kept : goal.returns-else-not-kept
returns-else-not-kept c =
    let s = c.args.state.now in
    more_kept s c.take_supply-former.new.state (supplied s c.args.first c.args.log) c.check.new.state c.args.out.now c.check.new.out c.in_ok-kept.kept c.take_supply-former.ensures.state refl refl c.in_ok-kept.ensures.kept c.in_ok-kept.ensures.step
    c.if-not-kept.false
