use Rattle.std.proofs.Common.{◌≡◌, List, ap, sym, subst, ◌∙◌}
use Rattle.vr_log.specs.declared.state.Response.{Response}
use Rattle.vr_log.specs.Valid.{IsValidState}
use Rattle.vr_recovery.specs.Recovering.{with_response, ending}
use Rattle.vr_recovery.proofs.Ended.{waits}
use Rattle.vr_recovery.proofs.Valid.{emptied_valid}
use Rattle.vr_recovery.proofs.recovering.take_response.Goals as goal

pub adopt-requires : goal.adopt-requires
adopt-requires c =
    let s = c.args.state.now in
    subst (λ (l : List Response). IsValidState (record s { responses = l })) (sym (c.replace.ensures.after ∙ c.new.ensures)) (emptied_valid s c.requires)

pub returns-in-None : goal.returns-in-None
returns-in-None c =
    let s = c.args.state.now in
    let before : c.into_vec-responses.result.items ≡ s.responses = c.into_vec-responses.ensures ∙ c.replace.ensures.value in
    let is : c.from_vec.result ≡ with_response s.responses c.args.response =
    c.from_vec.ensures ∙ (c.in_ok-former.ensures.kept ∙ ap (λ (l : List Response). with_response l c.args.response) before) in
    waits s c.args.response c.from_vec.result is c.args.out.now c.requires.log c.requires.commit
    (sym c.in-None.is ∙ (c.in_ok-ending.ensures ∙ ap (λ (l : List Response). ending (record s { responses = l })) (c.deref.ensures.value ∙ sym c.from_vec.ensures)))
