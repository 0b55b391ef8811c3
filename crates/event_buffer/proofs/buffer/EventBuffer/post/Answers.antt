use Rattle.std.proofs.Common.{length, length-append, ap, sym, ◌∙◌, refl, arith}
use Rattle.event_buffer.specs.Buffer.{Buffer, next_number}
use Rattle.event_buffer.proofs.Counts.{newest-joined}
use Rattle.event_buffer.proofs.Numbers.{numbered-push}
use Rattle.event_buffer.proofs.buffer.EventBuffer.post.Goals as goal

pub invariant_of-self : goal.invariant_of-self
invariant_of-self c =
    let count = c.self.inside.held.count in
    let events = c.self.inside.events.items in
    let few = c.self.invariant.2 in
    let next = c.next_number-number.ensures ∙ sym (ap next_number c.self.view_is) in
    rw (c.add.ensures, c.push_within.ensures.items, newest-joined count 1 events _ few refl) (
      numbered-push _ _ _ _ _ c.self.invariant.0 (c.switch.ensures ∙ sym (ap (λ (b : Buffer). b.switch) c.self.view_is)) (c.life.ensures ∙ sym (ap (λ (b : Buffer). b.life) c.self.view_is)) next,
      omega (arith, c.self.invariant.1, c.push_within.ensures.room),
      rw length-append (omega (arith, few)),
      rw length-append (omega (arith, c.self.invariant.3)),
    )
