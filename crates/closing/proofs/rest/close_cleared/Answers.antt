use Rattle.closing.specs.declared.closed.TurnOutcome.{TurnOutcome}
use Rattle.std.proofs.Common.{◌≡◌, ◌+◌, true, ◌∙◌, ap, subst, arith}
use Rattle.std.proofs.lemmas.Result.{err_from_is_err_and}
use Rattle.journal.specs.Pool.{past}
use Rattle.world.specs.World.{scene_in}
use Rattle.std.specs.Prelude.{Option, ◌%◌, ◌/◌}
use Rattle.run_spec.specs.Closing.{Losing, quorum_of}
use Rattle.closing.specs.declared.closed.ClosingOutcome.{ClosingOutcome}
use Rattle.closing_laws.specs.Quorum.{has}
use Rattle.closing.specs.Closing.{CameTo, Drained, EndsBy}
use Rattle.closing.specs.Views.{most_view_of_a_closing, views_of_an_attempt}
use Rattle.closing.proofs.Lists.{quorum_up}
use Rattle.closing.proofs.Leading.{halted_in, runs_again}
use Rattle.closing.proofs.Parts.{begins, ends_done, ends_met, keeps_none, raises_none, same_stop, suspected_more, views_none}
use Rattle.closing.proofs.rest.close_cleared.Goals as goal

pub closing_view-view-requires-clause-views : goal.closing_view-view-requires-clause-views
closing_view-view-requires-clause-views g c =
    c.lawful.ensures.views most_view_of_a_closing c.requires.views

pub returns-in_err-quorum-clause-closes : goal.returns-in_err-quorum-clause-closes
returns-in_err-quorum-clause-closes g c =
    let sealing = g.B.Body.sealing in
    let p = err_from_is_err_and c.from_residual.result c.from_residual.ensures.1 in
    rw (p.1, p.2) (λ kinds holds start s. halted_in (scene_in sealing c.args.world.now kinds) start c.args.world.now Losing s)

pub returns-in_err-quorum-clause-keeps : goal.returns-in_err-quorum-clause-keeps
returns-in_err-quorum-clause-keeps g c = keeps_none g.A.App.law g.W.Stable.saving g.B.Body.sealing c.args.world.now c.args.stables.now c.requires.pairs

pub close_by-requires-clause-up : goal.close_by-requires-clause-up
close_by-requires-clause-up g c =
    let whole : c.setup.result.now.controllers ≡ c.args.world.now.setup.controllers = ap (λ s. s.controllers) c.setup.ensures in
    let named : c.from.result ≡ c.args.world.now.setup.controllers = c.from.ensures ∙ whole in
    let quorum_is : c.as_slice.result.now ≡ quorum_of (c.closing_view-view.result % c.args.world.now.setup.controllers) (c.args.world.now.setup.controllers / 2) c.args.up.now =
    c.as_slice.ensures.value ∙ c.in_ok-quorum.ensures ∙ ap (λ m. quorum_of (c.closing_view-view.result % m) (c.setup.result.now.controllers / 2) c.args.up.now) named ∙ ap (λ m. quorum_of (c.closing_view-view.result % c.args.world.now.setup.controllers) (m / 2) c.args.up.now) whole in
    λ n found. subst (λ l. has l n ≡ true) c.requires.up (quorum_up (c.closing_view-view.result % c.args.world.now.setup.controllers) (c.args.world.now.setup.controllers / 2) c.args.up.now n (subst (λ l. has l n ≡ true) quorum_is found))

pub returns-in_err-close_by-clause-closes : goal.returns-in_err-close_by-clause-closes
returns-in_err-close_by-clause-closes g c =
    let law = g.A.App.law in
    let sealing = g.B.Body.sealing in
    let whole : c.setup.result.now.controllers ≡ c.args.world.now.setup.controllers = ap (λ s. s.controllers) c.setup.ensures in
    let named : c.from.result ≡ c.args.world.now.setup.controllers = c.from.ensures ∙ whole in
    let quorum_is : c.as_slice.result.now ≡ quorum_of (c.closing_view-view.result % c.args.world.now.setup.controllers) (c.args.world.now.setup.controllers / 2) c.args.up.now =
    c.as_slice.ensures.value ∙ c.in_ok-quorum.ensures ∙ ap (λ m. quorum_of (c.closing_view-view.result % m) (c.setup.result.now.controllers / 2) c.args.up.now) named ∙ ap (λ m. quorum_of (c.closing_view-view.result % c.args.world.now.setup.controllers) (m / 2) c.args.up.now) whole in
    let p = err_from_is_err_and c.from_residual-in_err-close_by.result c.from_residual-in_err-close_by.ensures.1 in
    rw (p.1, p.2) (λ kinds holds start s.
    same_stop TurnOutcome (Option ClosingOutcome) (CameTo (Drained c.closing_view-view.result c.as_slice.result.now)) EndsBy c.in_err-close_by.field-0.0 (scene_in sealing c.args.world.now kinds) start c.close_by.new.world (c.in_err-close_by.ensures.closes kinds holds start (begins law (scene_in sealing c.args.world.now kinds) start c.args.world.now holds.run c.closing_view-view.result c.args.up.now c.as_slice.result.now c.requires.empty c.requires.up c.requires.most c.closing_view-view.ensures.view quorum_is s)))

pub returns-in-ToRest-clause-views : goal.returns-in-ToRest-clause-views
returns-in-ToRest-clause-views g c =
    λ limit h. c.in_ok-close_by.ensures.views (limit + views_of_an_attempt) (c.closing_view-view.ensures.near limit (c.lawful.ensures.views limit h)) (suspected_more limit (limit + views_of_an_attempt) (past c.args.world.now.journal) (omega arith) h)

pub returns-in-ToRest-clause-closes : goal.returns-in-ToRest-clause-closes
returns-in-ToRest-clause-closes g c =
    let law = g.A.App.law in
    let sealing = g.B.Body.sealing in
    let whole : c.setup.result.now.controllers ≡ c.args.world.now.setup.controllers = ap (λ s. s.controllers) c.setup.ensures in
    let named : c.from.result ≡ c.args.world.now.setup.controllers = c.from.ensures ∙ whole in
    let quorum_is : c.as_slice.result.now ≡ quorum_of (c.closing_view-view.result % c.args.world.now.setup.controllers) (c.args.world.now.setup.controllers / 2) c.args.up.now =
    c.as_slice.ensures.value ∙ c.in_ok-quorum.ensures ∙ ap (λ m. quorum_of (c.closing_view-view.result % m) (c.setup.result.now.controllers / 2) c.args.up.now) named ∙ ap (λ m. quorum_of (c.closing_view-view.result % c.args.world.now.setup.controllers) (m / 2) c.args.up.now) whole in
    λ kinds holds start s.
    ends_done law (scene_in sealing c.args.world.now kinds) start c.close_by.new.world (runs_again law sealing c.args.world.now c.close_by.new.world kinds c.in_ok-close_by.ensures.keeps.setup (c.in_ok-close_by.ensures.keeps.holds kinds holds)) c.in_ok-close_by.ensures.rests c.closing_view-view.result (c.closing_view-view.result % c.from.result) c.as_slice.result.now (ap (λ m. c.closing_view-view.result % m) named) (subst (λ x. CameTo (Drained c.closing_view-view.result c.as_slice.result.now) x (scene_in sealing c.args.world.now kinds) start c.close_by.new.world) c.in-ToRest.is (c.in_ok-close_by.ensures.closes kinds holds start (begins law (scene_in sealing c.args.world.now kinds) start c.args.world.now holds.run c.closing_view-view.result c.args.up.now c.as_slice.result.now c.requires.empty c.requires.up c.requires.most c.closing_view-view.ensures.view quorum_is s)))

pub returns-in-ToAFailedSave-clause-views : goal.returns-in-ToAFailedSave-clause-views
returns-in-ToAFailedSave-clause-views g c =
    λ limit h. c.in_ok-close_by.ensures.views (limit + views_of_an_attempt) (c.closing_view-view.ensures.near limit (c.lawful.ensures.views limit h)) (suspected_more limit (limit + views_of_an_attempt) (past c.args.world.now.journal) (omega arith) h)

pub returns-in-ToAFailedSave-clause-closes : goal.returns-in-ToAFailedSave-clause-closes
returns-in-ToAFailedSave-clause-closes g c =
    let law = g.A.App.law in
    let sealing = g.B.Body.sealing in
    let whole : c.setup.result.now.controllers ≡ c.args.world.now.setup.controllers = ap (λ s. s.controllers) c.setup.ensures in
    let named : c.from.result ≡ c.args.world.now.setup.controllers = c.from.ensures ∙ whole in
    let quorum_is : c.as_slice.result.now ≡ quorum_of (c.closing_view-view.result % c.args.world.now.setup.controllers) (c.args.world.now.setup.controllers / 2) c.args.up.now =
    c.as_slice.ensures.value ∙ c.in_ok-quorum.ensures ∙ ap (λ m. quorum_of (c.closing_view-view.result % m) (c.setup.result.now.controllers / 2) c.args.up.now) named ∙ ap (λ m. quorum_of (c.closing_view-view.result % c.args.world.now.setup.controllers) (m / 2) c.args.up.now) whole in
    λ kinds holds start s. (subst (λ x. CameTo (Drained c.closing_view-view.result c.as_slice.result.now) x (scene_in sealing c.args.world.now kinds) start c.close_by.new.world) c.in-ToAFailedSave.is (c.in_ok-close_by.ensures.closes kinds holds start (begins law (scene_in sealing c.args.world.now kinds) start c.args.world.now holds.run c.closing_view-view.result c.args.up.now c.as_slice.result.now c.requires.empty c.requires.up c.requires.most c.closing_view-view.ensures.view quorum_is s)))

pub returns-clause-views : goal.returns-clause-views
returns-clause-views g c =
    λ limit h. c.in_ok-close_by.ensures.views (limit + views_of_an_attempt) (c.closing_view-view.ensures.near limit (c.lawful.ensures.views limit h)) (suspected_more limit (limit + views_of_an_attempt) (past c.args.world.now.journal) (omega arith) h)

pub returns-clause-closes : goal.returns-clause-closes
returns-clause-closes g c =
    let law = g.A.App.law in
    let sealing = g.B.Body.sealing in
    let whole : c.setup.result.now.controllers ≡ c.args.world.now.setup.controllers = ap (λ s. s.controllers) c.setup.ensures in
    let named : c.from.result ≡ c.args.world.now.setup.controllers = c.from.ensures ∙ whole in
    let quorum_is : c.as_slice.result.now ≡ quorum_of (c.closing_view-view.result % c.args.world.now.setup.controllers) (c.args.world.now.setup.controllers / 2) c.args.up.now =
    c.as_slice.ensures.value ∙ c.in_ok-quorum.ensures ∙ ap (λ m. quorum_of (c.closing_view-view.result % m) (c.setup.result.now.controllers / 2) c.args.up.now) named ∙ ap (λ m. quorum_of (c.closing_view-view.result % c.args.world.now.setup.controllers) (m / 2) c.args.up.now) whole in
    λ kinds holds start s.
    ends_met law (scene_in sealing c.args.world.now kinds) start c.close_by.new.world (runs_again law sealing c.args.world.now c.close_by.new.world kinds c.in_ok-close_by.ensures.keeps.setup (c.in_ok-close_by.ensures.keeps.holds kinds holds)) c.in_ok-close_by.ensures.rests c.in-ToTheLimit.limit (subst (λ x. CameTo (Drained c.closing_view-view.result c.as_slice.result.now) x (scene_in sealing c.args.world.now kinds) start c.close_by.new.world) c.in-ToTheLimit.is (c.in_ok-close_by.ensures.closes kinds holds start (begins law (scene_in sealing c.args.world.now kinds) start c.args.world.now holds.run c.closing_view-view.result c.args.up.now c.as_slice.result.now c.requires.empty c.requires.up c.requires.most c.closing_view-view.ensures.view quorum_is s)))

pub returns-in_err-quorum-clause-views : goal.returns-in_err-quorum-clause-views
returns-in_err-quorum-clause-views g c = raises_none views_of_an_attempt c.args.world.now c.args.world.now (views_none 0 c.args.world.now)

pub returns-in_err-close_by-clause-views : goal.returns-in_err-close_by-clause-views
returns-in_err-close_by-clause-views g c =
    λ limit h. c.in_err-close_by.ensures.views (limit + views_of_an_attempt) (c.closing_view-view.ensures.near limit (c.lawful.ensures.views limit h)) (suspected_more limit (limit + views_of_an_attempt) (past c.args.world.now.journal) (omega arith) h)
