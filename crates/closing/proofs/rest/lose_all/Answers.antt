use Rattle.std.proofs.Common.{◌∙◌, arith, Err}
use Rattle.std.proofs.lemmas.Result.{err_from_is_err_and}
use Rattle.run_spec.specs.Closing.{Losing}
use Rattle.closing.specs.Closing.{ClosesIn, ClosingStandsAt}
use Rattle.closing.proofs.Leading.{leads_then}
use Rattle.closing.proofs.Parts.{keeps_then, none_waits, views_then}
use Rattle.closing.proofs.rest.lose_all.Goals as goal

pub lose_first-requires-clause-holds : goal.lose_first-requires-clause-holds
lose_first-requires-clause-holds g c = (c.requires.holds.0, c.losing.invariant.keeps.holds c.requires.holds.0 c.requires.holds.1)

pub losing-preserved : goal.losing-preserved
losing-preserved g c =
    let law = g.A.App.law in
    let sealing = g.B.Body.sealing in
    record {
      keeps = keeps_then law g.W.Stable.saving sealing c.args.world.now c.losing.world c.lose_first.new.world c.args.stables.now c.losing.stables c.lose_first.new.stables c.losing.invariant.keeps c.in_ok-lose_first.ensures.keeps;
      owed = c.in_ok-lose_first.ensures.rests;
      views = views_then 0 0 c.args.world.now c.losing.world c.lose_first.new.world (omega arith) c.losing.invariant.views c.in_ok-lose_first.ensures.views;
      closes = leads_then law sealing (ClosesIn Losing) (ClosesIn Losing) (ClosesIn Losing) c.args.world.now c.losing.world c.lose_first.new.world c.losing.invariant.keeps.setup c.losing.invariant.keeps.holds c.losing.invariant.closes c.in_ok-lose_first.ensures.closes;
      up = c.in_ok-lose_first.ensures.up ∙ c.losing.invariant.up;
    }

pub returns-in_err-lose_first-clause-keeps : goal.returns-in_err-lose_first-clause-keeps
returns-in_err-lose_first-clause-keeps g c =
    let law = g.A.App.law in
    let sealing = g.B.Body.sealing in
    keeps_then law g.W.Stable.saving sealing c.args.world.now c.losing.world c.lose_first.new.world c.args.stables.now c.losing.stables c.lose_first.new.stables c.losing.invariant.keeps c.in_err-lose_first.ensures.keeps

pub returns-in_err-lose_first-clause-closes : goal.returns-in_err-lose_first-clause-closes
returns-in_err-lose_first-clause-closes g c =
    let law = g.A.App.law in
    let sealing = g.B.Body.sealing in
    let p = err_from_is_err_and c.from_residual.result c.from_residual.ensures.1 in
    rw (p.1, p.2) (leads_then law sealing (ClosesIn Losing) (ClosesIn Losing) (ClosingStandsAt {T = Unit {0}} (λ _. ClosesIn Losing) (Err c.in_err-lose_first.field-0.0)) c.args.world.now c.losing.world c.lose_first.new.world c.losing.invariant.keeps.setup c.losing.invariant.keeps.holds c.losing.invariant.closes c.in_err-lose_first.ensures.closes)

pub returns-clause-empty : goal.returns-clause-empty
returns-clause-empty g c =
    none_waits c.losing.world.journal c.first.result c.first.ensures c.in_default.not-Some

pub returns-in_err-lose_first-clause-views : goal.returns-in_err-lose_first-clause-views
returns-in_err-lose_first-clause-views g c =
    views_then 0 0 c.args.world.now c.losing.world c.lose_first.new.world (omega arith) c.losing.invariant.views c.in_err-lose_first.ensures.views
