use Rattle.view_change.specs.Entering.{collects}
use Rattle.view_change.proofs.Checks.{more_kept, more_dropped, collects_log, collects_commit, collects_back}
use Rattle.view_change.proofs.cases.collect_changing.Goals as goal

pub returns-then-not-kept : goal.returns-then-not-kept
returns-then-not-kept c =
    let s = c.args.state.now in
    more_dropped s c.collect.new.state (collects s c.args.log) c.check.new.state c.args.out.now c.check.new.out c.in_ok-kept.kept c.in_ok-collect.ensures (collects_log s c.args.log) (collects_commit s c.args.log) c.in_ok-kept.ensures.kept c.in_ok-kept.ensures.step
    _ c.if-not-kept.true (λ is. collects_back s c.check.new.state c.args.log c.truncate.new.logs c.len-len.result c.truncate.ensures c.len-len.ensures is)

pub returns-else-not-kept : goal.returns-else-not-kept
returns-else-not-kept c =
    let s = c.args.state.now in
    more_kept s c.collect.new.state (collects s c.args.log) c.check.new.state c.args.out.now c.check.new.out c.in_ok-kept.kept c.in_ok-collect.ensures (collects_log s c.args.log) (collects_commit s c.args.log) c.in_ok-kept.ensures.kept c.in_ok-kept.ensures.step
    c.if-not-kept.false
