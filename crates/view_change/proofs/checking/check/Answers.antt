use Rattle.view_change.proofs.Checks.{kept_is, kept_did, dropped_did}
use Rattle.view_change.proofs.checking.check.Goals as goal

pub returns-then-not-kept-clause-kept : goal.returns-then-not-kept-clause-kept
returns-then-not-kept-clause-kept c =
    kept_is c.args.state.now c.vote.new.state c.choose.new.state c.args.out.now c.vote.new.out c.choose.new.out c.in_ok-kept.kept c.requires.log c.requires.commit c.in_ok-vote.ensures c.in_ok-kept.ensures.kept c.in_ok-kept.ensures.step

pub returns-then-not-kept-clause-step : goal.returns-then-not-kept-clause-step
returns-then-not-kept-clause-step c =
    dropped_did c.args.state.now c.vote.new.state c.choose.new.state c.args.out.now c.vote.new.out c.choose.new.out c.in_ok-kept.kept c.requires.log c.requires.commit c.in_ok-vote.ensures c.in_ok-kept.ensures.kept c.in_ok-kept.ensures.step
    c.truncate.new.logs c.len-collected.result c.if-not-kept.true c.truncate.ensures c.len-collected.ensures

pub returns-else-not-kept-clause-kept : goal.returns-else-not-kept-clause-kept
returns-else-not-kept-clause-kept c =
    kept_is c.args.state.now c.vote.new.state c.choose.new.state c.args.out.now c.vote.new.out c.choose.new.out c.in_ok-kept.kept c.requires.log c.requires.commit c.in_ok-vote.ensures c.in_ok-kept.ensures.kept c.in_ok-kept.ensures.step

pub returns-else-not-kept-clause-step : goal.returns-else-not-kept-clause-step
returns-else-not-kept-clause-step c =
    kept_did c.args.state.now c.vote.new.state c.choose.new.state c.args.out.now c.vote.new.out c.choose.new.out c.in_ok-kept.kept c.requires.log c.requires.commit c.in_ok-vote.ensures c.in_ok-kept.ensures.kept c.in_ok-kept.ensures.step c.if-not-kept.false
