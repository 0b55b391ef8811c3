use Rattle.std.proofs.Common.{◌≡◌, ℕ, ◌+◌, ◌-◌, map, get_or, [], length}
use Rattle.journal.proofs.queues.Row.lengthen.Given as goal

abbrev pub invariant-loop-alloc : goal.invariant-loop-alloc
invariant-loop-alloc l = (n : ℕ) → get_or (map (λ q. q.items) l.self-inside.queues.items) n [] ≡ get_or l.fn.self n []

abbrev pub decreases-loop-alloc : goal.decreases-loop-alloc
decreases-loop-alloc l = l.number + 1 - length l.self-inside.queues.items
