use Rattle.std.proofs.Common.{◌∙◌, ap, subst, sym}
use Rattle.dispatcher.specs.Ledger.{Dispatching, StandsFor}
use Rattle.dispatcher.specs.Marks.{with_marked_result}
use Rattle.dispatcher.proofs.Rooms.{noted_is, noted_room}
use Rattle.dispatcher.proofs.Standing.{pends, with_marks}
use Rattle.dispatcher.proofs.dispatcher.Dispatcher.on_result.Goals as goal

pub returns-then-pending-clause-marks : goal.returns-then-pending-clause-marks
returns-then-pending-clause-marks g c = λ kinds setup log stands.
    let inside : StandsFor g.A.App.law _ kinds setup log =
    subst (λ d. StandsFor g.A.App.law d kinds setup log) (sym c.self.view_is) stands in
    let pending = pends kinds setup log c.self.inside.ledger inside.ledger c.args.switch c.args.life c.args.number c.has_pending-pending.result c.has_pending-pending.ensures c.if-pending.true in
    noted_is kinds setup log _ _ _ c.note_result.new.self.room c.args.switch c.args.life c.args.number inside.room pending c.note_result.ensures.first c.note_result.ensures.again
    ∙ ap (λ (d : Dispatching _). with_marked_result kinds setup log d.marks c.args.switch c.args.life c.args.number) c.self.view_is

pub returns-then-pending-clause-stands : goal.returns-then-pending-clause-stands
returns-then-pending-clause-stands g c = λ kinds setup log stands.
    let inside : StandsFor g.A.App.law _ kinds setup log =
    subst (λ d. StandsFor g.A.App.law d kinds setup log) (sym c.self.view_is) stands in
    let pending = pends kinds setup log c.self.inside.ledger inside.ledger c.args.switch c.args.life c.args.number c.has_pending-pending.result c.has_pending-pending.ensures c.if-pending.true in
    let n = c.note_result.ensures in
    with_marks g.A.App.law kinds setup log _ _ _ inside (noted_room kinds setup log _ _ _ _ c.args.switch c.args.life c.args.number inside.room pending n.first n.again n.room)
