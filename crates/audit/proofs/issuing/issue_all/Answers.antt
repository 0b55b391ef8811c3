use Rattle.std.proofs.Common.{◌+◌, List, sym, subst, ◌∙◌, rules}
use Rattle.std.proofs.lemmas.List.{nil_from_length}
use Rattle.audit.specs.Names.{Name}
use Rattle.audit.proofs.Issues.{IssuingAll, all_goes_on, ends_with_lists, ends_with_events}
use Rattle.audit.proofs.issuing.issue_all.Goals as goal

pub events-preserved : goal.events-preserved
events-preserved c =
    subst (λ (g : List (List Name)). IssuingAll c.args.events.now c.args.lists.items (c.events.event-index + 1) c.next.new.self.rest.items g c.react.new.self) (sym c.in_ok-push.ensures)
    (all_goes_on c.args.events.now c.args.lists.items c.events.event-index c.events.lists.rest.items c.next.new.self.rest.items c.in-Some.commands c.events.names c.in_ok-react.field-0 c.events.issuer c.react.new.self c.event-item.result
    (search rules) c.event-item.is c.in-Some.ensures.items c.events.invariant c.in_ok-react.ensures)

pub returns-in_default-clause-names : goal.returns-in_default-clause-names
returns-in_default-clause-names c =
    let rest = c.events.lists.rest in
    (ends_with_lists c.args.events.now c.args.lists.items c.events.event-index rest.items c.events.names c.events.issuer (nil_from_length rest.items (sym rest.ok.0 ∙ c.in_default.ensures.cases.0)) c.events.invariant).0

pub returns-in_default-clause-orders : goal.returns-in_default-clause-orders
returns-in_default-clause-orders c =
    let rest = c.events.lists.rest in
    (ends_with_lists c.args.events.now c.args.lists.items c.events.event-index rest.items c.events.names c.events.issuer (nil_from_length rest.items (sym rest.ok.0 ∙ c.in_default.ensures.cases.0)) c.events.invariant).1

pub returns-clause-names : goal.returns-clause-names
returns-clause-names c = (ends_with_events c.args.events.now c.args.lists.items c.events.event-index c.events.lists.rest.items c.events.names c.events.issuer (search rules) c.events.invariant).0

pub returns-clause-orders : goal.returns-clause-orders
returns-clause-orders c = (ends_with_events c.args.events.now c.args.lists.items c.events.event-index c.events.lists.rest.items c.events.names c.events.issuer (search rules) c.events.invariant).1
