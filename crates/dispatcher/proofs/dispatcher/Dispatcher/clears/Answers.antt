use Rattle.std.proofs.Common.{◌∙◌, ◌≡◌, List, map, filter, ap, subst, sym}
use Rattle.std.specs.Prelude.{IfOk}
use Rattle.std.specs.List.{range_with_len}
use Rattle.app_core.specs.declared.issued.Issued.{Issued}
use Rattle.dispatcher.specs.declared.answers.AckThrough.{AckThrough}
use Rattle.dispatcher.specs.Few.{values_in}
use Rattle.dispatcher.specs.Ledger.{StandsFor, cleared_of_life, has_told}
use Rattle.dispatcher.proofs.Standing.{clears_are}
use Rattle.dispatcher.proofs.dispatcher.Dispatcher.clears.Goals as goal

pub returns : goal.returns
returns g c = λ kinds setup log stands.
    let inside : StandsFor g.A.App.law _ kinds setup log =
    subst (λ d. StandsFor g.A.App.law d kinds setup log) (sym c.self.view_is) stands in
    let is = ap (λ (l : List Issued). map (cleared_of_life c.self.inside.ledger) (filter (has_told c.self.inside.ledger l) (range_with_len 0 c.self.inside.switches))) c.as_slice.ensures
    ∙ clears_are kinds setup log c.self.inside.ledger inside.ledger c.self.inside.switches c.args.handled.now.commands inside.size in
    subst (λ (l : List AckThrough). IfOk c.clears.result (λ list. values_in list ≡ l)) is c.clears.ensures
