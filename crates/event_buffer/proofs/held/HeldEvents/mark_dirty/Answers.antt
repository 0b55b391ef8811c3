use Rattle.of_types.proofs.Places.{ascend-with}
use Rattle.event_buffer.proofs.held.HeldEvents.mark_dirty.Goals as goal

pub invariant_of-self : goal.invariant_of-self
invariant_of-self c =
    rw c.insert.ensures
    (record { room = c.self.invariant.room; countable = c.self.invariant.countable; ports = ascend-with _ _ _ _ c.requires.0 c.requires.1 c.self.invariant.ports })
