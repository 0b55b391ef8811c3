use Rattle.std.proofs.Common.{◌≡◌, List, [], sym, subst, ◌∙◌}
use Rattle.std.proofs.lemmas.List.{nil_from_length}
use Rattle.audit.specs.Names.{Name}
use Rattle.audit.proofs.Issues.{Issuing, issuing_goes_on, issuing_ends}
use Rattle.audit.proofs.issuing.Issuer.issue_each.Goals as goal

pub commands-preserved : goal.commands-preserved
commands-preserved c =
    subst (λ (g : List Name). Issuing c.args.self.now c.issue.new.self c.args.commands c.next.new.self.rest.items g) (sym c.in_ok-push.ensures)
    (issuing_goes_on c.args.self.now c.commands.self c.issue.new.self c.args.commands c.commands.command-iterator.rest.items c.next.new.self.rest.items c.in-Some.command c.commands.names c.in_ok-issue.field-0
    c.in-Some.ensures.steps.0 c.commands.invariant c.in_ok-issue.ensures)

pub returns : goal.returns
returns c =
    let rest = c.commands.command-iterator.rest in
    let end : rest.items ≡ [] = nil_from_length rest.items (sym rest.ok.0 ∙ c.in-None.ensures.steps.0) in
    issuing_ends c.args.self.now c.commands.self c.args.commands rest.items c.commands.names end c.commands.invariant
