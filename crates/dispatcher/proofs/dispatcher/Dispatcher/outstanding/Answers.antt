use Rattle.std.proofs.Common.{◌∙◌, ◌≡◌, List, map, ap, subst, sym}
use Rattle.std.specs.Prelude.{IfOk}
use Rattle.dispatcher.specs.declared.numbered.NumberedOrder.{NumberedOrder}
use Rattle.dispatcher.specs.Folding.{numbered}
use Rattle.dispatcher.specs.Few.{values_in}
use Rattle.dispatcher.specs.Ledger.{Dispatching, StandsFor}
use Rattle.dispatcher.specs.Marks.{outstanding}
use Rattle.dispatcher.proofs.Standing.{outstanding_is}
use Rattle.dispatcher.proofs.dispatcher.Dispatcher.outstanding.Goals as goal

pub returns : goal.returns
returns g c = λ kinds setup log stands.
    let inside : StandsFor g.A.App.law _ kinds setup log =
    subst (λ d. StandsFor g.A.App.law d kinds setup log) (sym c.self.view_is) stands in
    let is = outstanding_is kinds setup log c.self.inside.ledger inside.ledger c.self.inside.marks.marks ∙ ap (λ (d : Dispatching _). map (numbered kinds setup log) (outstanding kinds setup log d.marks)) c.self.view_is in
    subst (λ (l : List NumberedOrder). IfOk c.outstanding.result (λ list. values_in list ≡ l)) is c.outstanding.ensures
