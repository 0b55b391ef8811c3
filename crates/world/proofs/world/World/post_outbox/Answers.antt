use Rattle.std.proofs.Common.{◌≡◌, ◌++◌, refl, sym, ◌∙◌, ap, subst}
use Rattle.std.proofs.lemmas.Result.{err_from_is_err_and}
use Rattle.journal.specs.Answers.{RefusedBy}
use Rattle.journal.specs.Orderly.{IsOrderly}
use Rattle.journal.specs.Pool.{past}
use Rattle.journal.specs.Turns.{posting}
use Rattle.world.specs.Debts.{owing, sealed_outbox}
use Rattle.world.specs.World.{Holds}
use Rattle.world.proofs.Applying.{post_refused}
use Rattle.world.proofs.Turning.{post_holds}
use Rattle.world.proofs.world.World.post_outbox.Goals as goal

pub returns-clause-holds : goal.returns-clause-holds
returns-clause-holds g c = λ kinds h.
    let law = g.A.App.law in
    let sealing = g.B.Body.sealing in
    let d = sealed_outbox sealing c.in-Some.outbox in
    let weighed = g.met.B.Body.weighed in
    let before = c.self.inside.wire in
    subst (λ w. Holds law sealing w kinds) (sym c.settle.ensures)
    (post_holds law sealing g.met.B.Body.faithful _ d (ap (λ o. owing sealing o) c.in-Some.is) c.post.new.self
    (subst (λ z. c.post.new.self ≡ before ++ posting z d.actor d.letters (past before)) weighed
    (subst (λ a. c.post.new.self ≡ before ++ posting g.B.Weight.size a d.letters (past before)) c.sender.ensures c.in_ok-post.ensures.ok))
    (subst (λ z. IsOrderly z (past c.post.new.self)) weighed c.lawful-2.ensures.orderly) _ refl kinds
    (subst (λ w. Holds law sealing w kinds) (sym c.self.view_is) h))

pub returns-in_err-post-clause-stops : goal.returns-in_err-post-clause-stops
returns-in_err-post-clause-stops g c =
    let sealing = g.B.Body.sealing in
    let d = sealed_outbox sealing c.in-Some.outbox in
    let before = c.self.inside.wire in
    let stop = c.in_err-post.field-0.0 in
    let refused = subst (λ z. RefusedBy z stop d.letters (past before)) g.met.B.Body.weighed c.in_err-post.ensures.err.1 in
    let p = err_from_is_err_and c.from_residual.result c.from_residual.ensures.1 in
    rw (p.1, p.2) (
      rw c.in_err-post.ensures.err.0 c.self.view_is,
      post_refused sealing.size c.args.self.now d (sym (ap (λ w. w.owed) c.self.view_is) ∙ ap (λ o. owing sealing o) c.in-Some.is) stop
          (subst (λ w. RefusedBy sealing.size stop d.letters (past w.journal)) c.self.view_is refused),
    )
