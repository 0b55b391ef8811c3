use Rattle.std.proofs.Common.{◌≡◌, List, [], ◌∷◌, ◌++◌, length, sym, subst, ap, ◌∙◌, append-nil, length-append, arith}
use Rattle.std.proofs.lemmas.List.{nil_from_length}
use Rattle.of_types.specs.declared.message.Command.{Command}
use Rattle.app_core.specs.declared.issued.Issued.{Issued}
use Rattle.app_core.specs.Issued.{issue_each}
use Rattle.dispatcher.proofs.Ledgers.{Issuing, issuing_goes_on}
use Rattle.dispatcher.proofs.ledger.Ledger.issue_each.Goals as goal

pub commands-preserved : goal.commands-preserved
commands-preserved c =
    let pushed = c.push_reserved.ensures in
    let step = c.in-Some.ensures.steps.0 in
    let long = ap (λ (l : List Command). length l) step in
    let longer = ap (λ (l : List Issued). length l) pushed.items ∙ length-append c.commands.issued.items (c.in_ok-issue.field-0 ∷ []) in
    let capacity = pushed.capacity in
    let room = c.commands.invariant.1 in (
      subst (λ (g : List Issued). Issuing c.args.self.now c.issue.new.self c.args.commands c.next.new.self.rest.items g) (sym pushed.items)
          (issuing_goes_on c.args.self.now c.commands.self c.issue.new.self c.args.commands c.next.new.self.rest.items c.in-Some.command c.commands.issued.items c.in_ok-issue.field-0
          (subst (λ (l : List Command). Issuing c.args.self.now c.commands.self c.args.commands l c.commands.issued.items) step c.commands.invariant.0)
          (record { given = c.in_ok-issue.ensures.given; counted = c.in_ok-issue.ensures.counted; same = c.in_ok-issue.ensures.same })),
      omega (arith, long, longer, capacity, room),
    )

pub returns-clause-issued : goal.returns-clause-issued
returns-clause-issued c = λ events done before settled lives counts short.
    let end : c.commands.command-iterator.rest.items ≡ [] = nil_from_length c.commands.command-iterator.rest.items (sym c.commands.command-iterator.rest.ok.0 ∙ c.in-None.ensures.steps.0) in
    let r = c.commands.invariant.0.each events done before settled lives counts short in
    rw c.from_vec.ensures (sym (r.0 ∙ ap (λ (l : List Command). c.commands.issued.items ++ issue_each events (before ++ c.commands.issued.items) l) end ∙ append-nil c.commands.issued.items), r.1)
