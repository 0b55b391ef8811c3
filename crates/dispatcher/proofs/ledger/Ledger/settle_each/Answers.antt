use Rattle.std.proofs.Common.{rules, ◌≡◌, List, subst, take, ◌++◌}
use Rattle.std.proofs.lemmas.List.{take_all}
use Rattle.app_core.specs.declared.issued.Issued.{Issued}
use Rattle.dispatcher.specs.Ledger.{AreCounts}
use Rattle.dispatcher.proofs.Ledgers.{settling_goes_on}
use Rattle.dispatcher.proofs.ledger.Ledger.settle_each.Goals as goal

pub commands-preserved : goal.commands-preserved
commands-preserved c =
    settling_goes_on c.args.self.now c.commands.self c.settle.new.self c.args.commands.now c.commands.command-index c.command-item.result (search rules) (search rules) c.commands.invariant
    c.in_ok-settle.ensures.counted c.in_ok-settle.ensures.same

pub returns-clause-settled : goal.returns-clause-settled
returns-clause-settled c = λ done issued settled counts short.
    let whole : take c.commands.command-index c.args.commands.now ≡ c.args.commands.now = take_all c.commands.command-index c.args.commands.now c.commands-test.false in
    subst (λ (l : List Issued). AreCounts done issued (settled ++ l) c.commands.self.counts) whole (c.commands.invariant.each done issued settled counts short)
