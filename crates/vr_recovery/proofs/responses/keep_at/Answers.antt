use Rattle.std.proofs.Common.{ap, ◌∙◌, List}
use Rattle.std.specs.Prelude.{slice_set}
use Rattle.vr_log.specs.declared.state.Response.{Response}
use Rattle.vr_recovery.proofs.Kept.{replaced_is, back_is, same_is}
use Rattle.vr_recovery.proofs.responses.keep_at.Goals as goal

pub returns-then-index-response-clause-kept : goal.returns-then-index-response-clause-kept
returns-then-index-response-clause-kept c =
    c.displace-old.ensures.new ∙ replaced_is c.args.responses.now.items c.args.response c.args.place c.requires c.index.result.now c.index.ensures c.if-index-response.true

pub returns-then-index-response-clause-former : goal.returns-then-index-response-clause-former
returns-then-index-response-clause-former c =
    ap (λ (xs : List Response). slice_set xs c.args.place c.displace-old.result) c.displace-old.ensures.new
    ∙ back_is c.args.responses.now.items c.args.response c.args.place c.requires c.displace-old.result c.displace-old.ensures.old

pub returns-clause-kept : goal.returns-clause-kept
returns-clause-kept c = same_is c.args.responses.now.items c.args.response c.args.place c.requires c.index.result.now c.index.ensures c.if-index-response.false
