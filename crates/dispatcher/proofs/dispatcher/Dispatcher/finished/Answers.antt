use Rattle.std.proofs.Common.{◌∙◌, ap, subst, sym}
use Rattle.dispatcher.specs.Ledger.{Dispatching, StandsFor}
use Rattle.dispatcher.specs.Marks.{is_finished}
use Rattle.dispatcher.proofs.Standing.{finished_as}
use Rattle.dispatcher.proofs.dispatcher.Dispatcher.finished.Goals as goal

pub returns : goal.returns
returns g c = λ kinds setup log stands.
    let inside : StandsFor g.A.App.law _ kinds setup log =
    subst (λ d. StandsFor g.A.App.law d kinds setup log) (sym c.self.view_is) stands in
    c.may_process.ensures
    ∙ finished_as kinds setup log c.self.inside.ledger inside.ledger c.self.inside.marks.marks c.has_unprocessed.result c.wants_one-wanted.result c.has_unprocessed.ensures c.wants_one-wanted.ensures
    ∙ ap (λ (d : Dispatching _). is_finished kinds setup log d.marks) c.self.view_is
