use Rattle.std.proofs.Common.{◌≡◌, ◌<◌, ◌∷◌, length, sym, ◌∙◌, arith}
use Rattle.vr_log.specs.Choosing.{front}
use Rattle.view_change.proofs.Checks.{none_kept, fetch_kept, fetch_did}
use Rattle.view_change.proofs.starting.choose.Goals as goal

pub returns-then-not-may_choose-clause-kept : goal.returns-then-not-may_choose-clause-kept
returns-then-not-may_choose-clause-kept c = none_kept c.args.state.now c.requires.log c.requires.commit (sym c.may_choose.ensures ∙ c.if-not-may_choose.true)

pub returns-then-front_len-from-clause-kept : goal.returns-then-front_len-from-clause-kept
returns-then-front_len-from-clause-kept c =
    let s = c.args.state.now in
    let all : s.collected ≡ c.in-Some.first.now ∷ c.in-Some.rest.now = sym c.as_slice.ensures ∙ c.in-Some.ensures.cases.0 in
    let less : length (front s) < c.starting_log-best.result.now.commit = let a = c.if-front_len-from.true in let b = c.front_len.ensures in let d = c.from.ensures in omega (arith, a, b, d) in
    fetch_kept s c.requires.log c.requires.commit c.in-Some.first.now c.starting_log-best.result.now c.in-Some.rest.now (sym c.may_choose.ensures ∙ c.if-not-may_choose.false) all c.starting_log-best.ensures less

pub returns-then-front_len-from-clause-step : goal.returns-then-front_len-from-clause-step
returns-then-front_len-from-clause-step c =
    let s = c.args.state.now in
    let all : s.collected ≡ c.in-Some.first.now ∷ c.in-Some.rest.now = sym c.as_slice.ensures ∙ c.in-Some.ensures.cases.0 in
    let less : length (front s) < c.starting_log-best.result.now.commit = let a = c.if-front_len-from.true in let b = c.front_len.ensures in let d = c.from.ensures in omega (arith, a, b, d) in
    fetch_did s c.requires.log c.requires.commit c.in-Some.first.now c.starting_log-best.result.now c.in-Some.rest.now c.args.out.now c.fetch_from.new.out (sym c.may_choose.ensures ∙ c.if-not-may_choose.false) all c.starting_log-best.ensures less
    c.in_ok-fetch_from.ensures.promise c.in_ok-fetch_from.ensures.letters
