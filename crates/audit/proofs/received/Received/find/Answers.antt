use Rattle.std.proofs.Common.{◌<◌, Bool, List, length, sym, ap, subst, ◌∙◌, arith}
use Rattle.std.specs.Prelude.{Some, None, option_copied, if◌then◌else◌}
use Rattle.of_types.specs.declared.message.Event.{Event}
use Rattle.audit.specs.Names.{name_of, same_name}
use Rattle.audit.specs.Received.{equal_at}
use Rattle.audit.proofs.Finding.{none_found, one_found, found_by, first_within}
use Rattle.audit.proofs.received.Received.find.Goals as goal

pub returns-in_err-at-clause-place : goal.returns-in_err-at-clause-place
returns-in_err-at-clause-place c =
    let at = found_by c.self.inside.events.items c.self.inside.places (name_of c.args.line.now) c.name_of.result None c.self.invariant c.name_of.ensures (sym (ap (λ o. option_copied o) c.in_err-at.was) ∙ c.get.ensures) in
    c.from_residual.ensures ∙ (none_found c.args.line.now c.self.inside.events.items at ∙ ap (λ es. equal_at es c.args.line.now) c.self.view_is)

pub index-requires : goal.index-requires
index-requires c =
    let at = found_by c.self.inside.events.items c.self.inside.places (name_of c.args.line.now) c.name_of.result (Some c.in_ok-at.field-0.now) c.self.invariant c.name_of.ensures (sym (ap (λ o. option_copied o) c.in_ok-at.was) ∙ c.get.ensures) in
    let within = first_within (λ e. same_name (name_of e) (name_of c.args.line.now)) c.self.inside.events.items c.in_ok-at.field-0.now at in
    let long = c.self.inside.events.ok.0 in
    omega (arith, within, long)

pub returns-then-same_event-clause-within : goal.returns-then-same_event-clause-within
returns-then-same_event-clause-within c =
    let at = found_by c.self.inside.events.items c.self.inside.places (name_of c.args.line.now) c.name_of.result (Some c.in_ok-at.field-0.now) c.self.invariant c.name_of.ensures (sym (ap (λ o. option_copied o) c.in_ok-at.was) ∙ c.get.ensures) in
    subst (λ (es : List Event). c.in_ok-at.field-0.now < length es) c.self.view_is (first_within (λ e. same_name (name_of e) (name_of c.args.line.now)) c.self.inside.events.items c.in_ok-at.field-0.now at)

pub returns-then-same_event-clause-place : goal.returns-then-same_event-clause-place
returns-then-same_event-clause-place c =
    let place = c.in_ok-at.field-0.now in
    let at = found_by c.self.inside.events.items c.self.inside.places (name_of c.args.line.now) c.name_of.result (Some place) c.self.invariant c.name_of.ensures (sym (ap (λ o. option_copied o) c.in_ok-at.was) ∙ c.get.ensures) in
    let found = one_found c.args.line.now c.self.inside.events.items place c.index.result.now at c.index.ensures in
    sym (sym (ap (λ es. equal_at es c.args.line.now) c.self.view_is) ∙ found ∙ ap (λ (b : Bool). if b then Some place else None) (sym c.same_event.ensures ∙ c.if-same_event.true))

pub returns-else-same_event-clause-place : goal.returns-else-same_event-clause-place
returns-else-same_event-clause-place c =
    let place = c.in_ok-at.field-0.now in
    let at = found_by c.self.inside.events.items c.self.inside.places (name_of c.args.line.now) c.name_of.result (Some place) c.self.invariant c.name_of.ensures (sym (ap (λ o. option_copied o) c.in_ok-at.was) ∙ c.get.ensures) in
    let found = one_found c.args.line.now c.self.inside.events.items place c.index.result.now at c.index.ensures in
    sym (sym (ap (λ es. equal_at es c.args.line.now) c.self.view_is) ∙ found ∙ ap (λ (b : Bool). if b then Some place else None) (sym c.same_event.ensures ∙ c.if-same_event.false))
