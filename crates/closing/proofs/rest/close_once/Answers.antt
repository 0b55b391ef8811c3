use Rattle.std.proofs.Common.{◌≡◌, ◌+◌, length, ◌∙◌, ap, arith}
use Rattle.std.proofs.lemmas.Result.{err_from_is_err_and}
use Rattle.journal.specs.Pool.{past}
use Rattle.run_spec.specs.Closing.{Losing, majority}
use Rattle.world.specs.World.{scene_in}
use Rattle.std.specs.Prelude.{◌/◌}
use Rattle.closing.specs.Closing.{ClosesIn, EndsBy, ClosingStandsAt, up_in}
use Rattle.closing.specs.Views.{most_view_of_a_closing, views_of_an_attempt}
use Rattle.closing.proofs.Leading.{halted_in, leads_then, runs_again}
use Rattle.closing.proofs.Parts.{ends_few, keeps_then, raises_none, raises_then, suspected_more}
use Rattle.closing.proofs.rest.close_once.Goals as goal

pub members_up-requires : goal.members_up-requires
members_up-requires g c = (c.requires.holds.0, c.in_ok-clear.ensures.keeps.holds c.requires.holds.0 c.requires.holds.1)

pub returns-in_err-members-clause-closes : goal.returns-in_err-members-clause-closes
returns-in_err-members-clause-closes g c =
    let sealing = g.B.Body.sealing in
    let p = err_from_is_err_and c.from_residual-in_err-members.result c.from_residual-in_err-members.ensures.1 in
    rw (p.1, p.2) (λ kinds holds start s. halted_in (scene_in sealing c.args.world.now kinds) start c.clear.new.world Losing (c.in_ok-clear.ensures.closes kinds holds start s))

pub returns-then-up-needed-clause-views : goal.returns-then-up-needed-clause-views
returns-then-up-needed-clause-views g c =
    λ limit h. c.in_ok-clear.ensures.views (limit + views_of_an_attempt) (omega arith) (suspected_more limit (limit + views_of_an_attempt) (past c.args.world.now.journal) (omega arith) h)

pub returns-then-up-needed-clause-closes : goal.returns-then-up-needed-clause-closes
returns-then-up-needed-clause-closes g c =
    let law = g.A.App.law in
    let sealing = g.B.Body.sealing in
    let up_is : c.as_slice-up.result.now ≡ up_in c.clear.new.world = c.as_slice-up.ensures.value ∙ c.in_ok-members.ensures in
    let same : c.setup.result.now.controllers ≡ c.args.world.now.setup.controllers = ap (λ s. s.controllers) c.setup.ensures ∙ ap (λ s. s.controllers) c.in_ok-clear.ensures.keeps.setup in
    let half : c.from-needed.result ≡ c.setup.result.now.controllers / 2 = c.from-needed.ensures in
    let less = c.if-up-needed.true in
    λ kinds holds start s.
    ends_few law (scene_in sealing c.args.world.now kinds) start c.clear.new.world (runs_again law sealing c.args.world.now c.clear.new.world kinds c.in_ok-clear.ensures.keeps.setup (c.in_ok-clear.ensures.keeps.holds kinds holds)) c.in_ok-clear.ensures.rests c.in_ok-clear.ensures.empty (length c.as_slice-up.result.now) (c.from-needed.result + 1)
    (ap length up_is) (ap (λ n. n + 1) half ∙ ap majority same) less (c.in_ok-clear.ensures.closes kinds holds start s)

pub close_cleared-requires-clause-holds : goal.close_cleared-requires-clause-holds
close_cleared-requires-clause-holds g c = (c.requires.holds.0, c.in_ok-clear.ensures.keeps.holds c.requires.holds.0 c.requires.holds.1)

pub close_cleared-requires-clause-views : goal.close_cleared-requires-clause-views
close_cleared-requires-clause-views g c =
    c.in_ok-clear.ensures.views most_view_of_a_closing (omega arith) c.requires.views

pub returns-clause-keeps : goal.returns-clause-keeps
returns-clause-keeps g c =
    let law = g.A.App.law in
    let sealing = g.B.Body.sealing in
    keeps_then law g.W.Stable.saving sealing c.args.world.now c.clear.new.world c.close_cleared.new.world c.args.stables.now c.clear.new.stables c.close_cleared.new.stables c.in_ok-clear.ensures.keeps c.close_cleared.ensures.keeps

pub returns-clause-views : goal.returns-clause-views
returns-clause-views g c =
    raises_then views_of_an_attempt c.args.world.now c.clear.new.world c.close_cleared.new.world c.in_ok-clear.ensures.views c.close_cleared.ensures.views

pub returns-in_err-clear-clause-views : goal.returns-in_err-clear-clause-views
returns-in_err-clear-clause-views g c = raises_none views_of_an_attempt c.args.world.now c.clear.new.world c.in_err-clear.ensures.views

pub returns-in_err-members-clause-views : goal.returns-in_err-members-clause-views
returns-in_err-members-clause-views g c = raises_none views_of_an_attempt c.args.world.now c.clear.new.world c.in_ok-clear.ensures.views

pub returns-clause-closes : goal.returns-clause-closes
returns-clause-closes g c =
    let law = g.A.App.law in
    let sealing = g.B.Body.sealing in
    leads_then law sealing (ClosesIn Losing) (ClosesIn Losing) (ClosingStandsAt EndsBy c.close_cleared.result) c.args.world.now c.clear.new.world c.close_cleared.new.world c.in_ok-clear.ensures.keeps.setup c.in_ok-clear.ensures.keeps.holds c.in_ok-clear.ensures.closes c.close_cleared.ensures.closes
