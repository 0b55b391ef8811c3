use Rattle.std.proofs.Common.{ap, ◌∙◌}
use Rattle.vr_log.specs.declared.state.VrState.{VrState}
use Rattle.view_change.specs.Entering.{entered_view, collects}
use Rattle.view_change.proofs.Checks.{entered_did, collects_log, collects_commit, collects_ready}
use Rattle.view_change.proofs.Sound.{collect_sound}
use Rattle.view_change.proofs.cases.collect_later.Goals as goal

pub check-requires : goal.check-requires
check-requires c =
    let r = collects_ready c.args.state.now c.collect.new.state c.args.view c.args.log c.requires.valid
    (c.in_ok-collect.ensures ∙ ap (λ (x : VrState). collects x c.args.log) c.in_ok-enter.ensures.state_is) in
    record { log = r.log; group = r.group; commit = r.commit; supply = r.supply }

pub returns : goal.returns
returns c =
    let s = c.args.state.now in
    entered_did s c.enter.new.state c.collect.new.state c.check.new.state c.args.view (λ x. collects x c.args.log) c.args.out.now c.enter.new.out c.check.new.out c.in_ok-enter.ensures c.in_ok-collect.ensures c.in_ok-check.ensures.step
    (collects_log (entered_view s c.args.view) c.args.log) (collects_commit (entered_view s c.args.view) c.args.log)
    (collect_sound s c.args.view c.args.log c.requires.valid c.requires.other)
