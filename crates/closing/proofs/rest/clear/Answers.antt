use Rattle.std.proofs.Common.{arith, subst, sym}
use Rattle.std.proofs.lemmas.Result.{err_from_is_err_and}
use Rattle.run_spec.specs.Closing.{Losing}
use Rattle.world.specs.World.{Worlding}
use Rattle.closing.specs.Closing.{ClosesIn, ClosingStandsAt, SuspectsNoMore}
use Rattle.closing.proofs.Leading.{leads_then}
use Rattle.closing.proofs.Parts.{keeps_then, post_keeps, post_leads, post_suspects, post_stops, views_none, views_then, same_keeps}
use Rattle.closing.proofs.rest.clear.Goals as goal

pub returns-in_err-post_owed-clause-keeps : goal.returns-in_err-post_owed-clause-keeps
returns-in_err-post_owed-clause-keeps g c =
    let law = g.A.App.law in
    let sealing = g.B.Body.sealing in
    same_keeps law g.W.Stable.saving sealing c.args.world.now c.post_owed.new.self c.args.stables.now c.requires.pairs c.in_err-post_owed.ensures.stops.0

pub returns-in_err-post_owed-clause-closes : goal.returns-in_err-post_owed-clause-closes
returns-in_err-post_owed-clause-closes g c =
    let law = g.A.App.law in
    let sealing = g.B.Body.sealing in
    let p = err_from_is_err_and c.from_residual.result c.from_residual.ensures.1 in
    rw (p.1, p.2) (post_stops law g.W.Stable.saving sealing c.args.world.now c.post_owed.new.self c.args.stables.now c.requires.pairs c.in_err-post_owed.ensures.stops.0 {T = Unit {0}}
    (λ _. ClosesIn Losing) c.in_err-post_owed.field-0.0 c.in_err-post_owed.ensures.stops.1)

pub lose_all-requires-clause-holds : goal.lose_all-requires-clause-holds
lose_all-requires-clause-holds g c =
    (c.requires.holds.0, c.post_owed.ensures.holds c.requires.holds.0 c.requires.holds.1)

pub returns-clause-keeps : goal.returns-clause-keeps
returns-clause-keeps g c =
    let law = g.A.App.law in
    let sealing = g.B.Body.sealing in
    let post = post_keeps law g.W.Stable.saving sealing c.args.world.now c.post_owed.new.self c.args.stables.now c.requires.pairs c.in_ok-post_owed.ensures.posts c.post_owed.ensures.holds in
    keeps_then law g.W.Stable.saving sealing c.args.world.now c.post_owed.new.self c.lose_all.new.world c.args.stables.now c.args.stables.now c.lose_all.new.stables post c.lose_all.ensures.keeps

pub returns-clause-views : goal.returns-clause-views
returns-clause-views g c =
    let law = g.A.App.law in
    let sealing = g.B.Body.sealing in
    views_then 0 0 c.args.world.now c.post_owed.new.self c.lose_all.new.world (omega arith) (post_suspects law g.W.Stable.saving sealing c.args.world.now c.post_owed.new.self c.args.stables.now c.requires.pairs c.in_ok-post_owed.ensures.posts) c.lose_all.ensures.views

pub returns-in_err-post_owed-clause-views : goal.returns-in_err-post_owed-clause-views
returns-in_err-post_owed-clause-views g c =
    subst (λ (w : Worlding _ _). SuspectsNoMore 0 c.args.world.now w) (sym c.in_err-post_owed.ensures.stops.0) (views_none 0 c.args.world.now)

pub returns-clause-closes : goal.returns-clause-closes
returns-clause-closes g c =
    let law = g.A.App.law in
    let sealing = g.B.Body.sealing in
    let post = post_keeps law g.W.Stable.saving sealing c.args.world.now c.post_owed.new.self c.args.stables.now c.requires.pairs c.in_ok-post_owed.ensures.posts c.post_owed.ensures.holds in
    leads_then law sealing (ClosesIn Losing) (ClosesIn Losing) (ClosingStandsAt (λ _. ClosesIn Losing) c.lose_all.result) c.args.world.now c.post_owed.new.self c.lose_all.new.world post.setup post.holds (post_leads law g.W.Stable.saving sealing c.args.world.now c.post_owed.new.self c.args.stables.now c.requires.pairs c.in_ok-post_owed.ensures.posts) c.lose_all.ensures.closes
