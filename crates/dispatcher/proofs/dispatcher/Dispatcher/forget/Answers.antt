use Rattle.std.proofs.Common.{◌∙◌, ap, subst, sym}
use Rattle.dispatcher.specs.Ledger.{Dispatching, StandsFor}
use Rattle.dispatcher.specs.Marks.{pending_alone}
use Rattle.dispatcher.proofs.Forgetting.{forgotten_room}
use Rattle.dispatcher.proofs.Standing.{kept_pending, with_marks}
use Rattle.dispatcher.proofs.dispatcher.Dispatcher.forget.Goals as goal

pub returns-clause-marks : goal.returns-clause-marks
returns-clause-marks g c = λ kinds setup log stands.
    let inside : StandsFor g.A.App.law _ kinds setup log =
    subst (λ d. StandsFor g.A.App.law d kinds setup log) (sym c.self.view_is) stands in
    c.forget_settled.ensures.marks ∙ kept_pending kinds setup log c.self.inside.ledger inside.ledger c.self.inside.marks.marks
    ∙ ap (λ (d : Dispatching _). pending_alone kinds setup log d.marks) c.self.view_is

pub returns-clause-stands : goal.returns-clause-stands
returns-clause-stands g c = λ kinds setup log stands.
    let inside : StandsFor g.A.App.law _ kinds setup log =
    subst (λ d. StandsFor g.A.App.law d kinds setup log) (sym c.self.view_is) stands in
    let forgets = c.forget_settled.ensures in
    let kept = forgets.marks ∙ kept_pending kinds setup log c.self.inside.ledger inside.ledger c.self.inside.marks.marks in
    with_marks g.A.App.law kinds setup log _ _ _ inside (forgotten_room kinds setup log _ _ _ _ inside.room kept forgets.room)
