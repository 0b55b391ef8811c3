use Rattle.of_types.proofs.Places.{ascend-without}
use Rattle.event_buffer.proofs.held.HeldEvents.forget_dirty.Goals as goal

pub invariant_of-self : goal.invariant_of-self
invariant_of-self c =
    rw c.remove.ensures
    (record { room = c.self.invariant.room; countable = c.self.invariant.countable; ports = ascend-without _ _ _ _ c.self.invariant.ports })
