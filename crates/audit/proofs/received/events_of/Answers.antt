use Rattle.std.proofs.Common.{List, sym, ap, ◌∙◌, ◌++◌, ◌∷◌, [], rules}
use Rattle.of_types.specs.declared.message.Event.{Event}
use Rattle.audit.proofs.Finding.{joined_places}
use Rattle.audit.proofs.Logs.{received_one, received_none}
use Rattle.audit.proofs.received.events_of.Goals.{in-Received+in_ok-keep-in-Received, in-Processed}
use Rattle.audit.proofs.received.events_of.Goals as goal

pub loop-entry-preserved : goal.loop-entry-preserved
loop-entry-preserved c =
    elim c.match-entry.branch [
      | in-Received+in_ok-keep-in-Received w ↦
          let kept = w.in_ok-keep-in-Received.ensures in
          let more = received_one c.args.log.now c.loop-entry.entry-index c.entry-item.result (search rules) c.entry-item.is w.in-Received.event w.in-Received.is in (
            ap (λ v. v.items) w.events-is ∙ kept.events ∙ ap (λ (es : List Event). es ++ w.in-Received.event ∷ []) c.loop-entry.invariant.0 ∙ sym more,
            joined_places c.match-entry.events.items w.keep.new.events.items c.match-entry.places w.keep.new.places (ap (λ v. v.items) w.events-is) w.places-is (kept.places c.loop-entry.invariant.1),
          )
      | in-Processed w ↦
          let more = received_none c.args.log.now c.loop-entry.entry-index c.entry-item.result (search rules) c.entry-item.is w.in-Processed.field-0 w.in-Processed.is in (
            ap (λ v. v.items) w.events-is ∙ c.loop-entry.invariant.0 ∙ sym more,
            joined_places c.match-entry.events.items c.loop-entry.events.items c.match-entry.places c.loop-entry.places (ap (λ v. v.items) w.events-is) w.places-is c.loop-entry.invariant.1,
          )
    ]
