use Rattle.std.proofs.Common.{ℕ, length}
use Rattle.of_messages.proofs.Ports.{SoFar}
use Rattle.of_messages.proofs.actions.read_actions.Given as goal

abbrev pub invariant-actions : goal.invariant-actions
invariant-actions l = (count : ℕ) × SoFar l.bytes l.rest l.ports count

abbrev pub decreases-actions : goal.decreases-actions
decreases-actions l = length l.rest
