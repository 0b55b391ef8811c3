use Rattle.std.proofs.Common.{◌≡◌, ℕ, List, ◌++◌, ◌∷◌, [], length, subst, sym, ap, ◌∙◌}
use Rattle.of_types.specs.declared.message.Event.{Event}
use Rattle.audit.specs.Names.{Name, same_name, name_of, value_of, or_new}
use Rattle.audit.specs.Received.{ArePlaces}
use Rattle.audit.proofs.Finding.{places_more}
use Rattle.audit.proofs.received.keep.Goals as goal

pub returns-clause-places : goal.returns-clause-places
returns-clause-places c = λ are.
    let old = c.args.events.now.items in
    let noted : (q : Name) → value_of c.note.new.self q ≡ or_new (value_of c.args.places.now q) (same_name (name_of c.args.event.now) q) (length old) =
    λ q. c.in_ok-note.ensures q
    ∙ (ap (λ (n : Name). or_new (value_of c.args.places.now q) (same_name n q) c.len.result) c.name_of.ensures
    ∙ ap (λ (n : ℕ). or_new (value_of c.args.places.now q) (same_name (name_of c.args.event.now) q) n) (c.len.ensures ∙ c.args.events.now.ok.0)) in
    subst (λ (es : List Event). ArePlaces es c.note.new.self)
    (sym (c.in_ok-push.ensures.items ∙ ap (λ (e : Event). old ++ e ∷ []) c.in_ok-clone.ensures.cases))
    (places_more old c.args.event.now c.args.places.now c.note.new.self are noted)
