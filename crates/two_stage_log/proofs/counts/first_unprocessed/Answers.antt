use Rattle.std.proofs.Common.{◌≡◌, ◌∙◌, sym, ap, take, []}
use Rattle.two_stage_log.specs.Counts.{first_unprocessed}
use Rattle.vr_log.proofs.Logs.{follows_take}
use Rattle.two_stage_log.proofs.Order.{none_is, is_none}
use Rattle.two_stage_log.proofs.counts.first_unprocessed.Goals as goal

pub returns-clause-none : goal.returns-clause-none
returns-clause-none c =
    let log = take c.args.through c.args.log.now in
    let lawful = follows_take c.args.through [] c.args.log.now c.front.ensures.lawful in
    let first : c.first_of.result ≡ first_unprocessed log = c.first_of.ensures ∙ ap first_unprocessed c.front.ensures.entries in
    (λ none. none_is log lawful (sym first ∙ none), λ all. first ∙ is_none log lawful all)
