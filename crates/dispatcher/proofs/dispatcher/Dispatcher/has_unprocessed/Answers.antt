use Rattle.std.proofs.Common.{◌∙◌, subst, sym}
use Rattle.dispatcher.specs.Ledger.{StandsFor}
use Rattle.dispatcher.proofs.Standing.{unprocessed_is}
use Rattle.dispatcher.proofs.dispatcher.Dispatcher.has_unprocessed.Goals as goal

pub returns : goal.returns
returns g c = λ kinds setup log stands.
    let inside : StandsFor g.A.App.law _ kinds setup log =
    subst (λ d. StandsFor g.A.App.law d kinds setup log) (sym c.self.view_is) stands in
    c.has_unprocessed.ensures ∙ unprocessed_is kinds setup log c.self.inside.ledger inside.ledger
