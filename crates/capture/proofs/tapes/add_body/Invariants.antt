use Rattle.std.proofs.Common.{◌≡◌, ◌≤◌, ℕ, length}
use Rattle.std.specs.BTreeMap.{get}
use Rattle.std.specs.Ordering.{nat_cmp}
use Rattle.capture_laws.specs.Streams.{with_body}
use Rattle.capture.specs.Tapes.{IsTape}
use Rattle.capture.proofs.tapes.add_body.Given as goal

abbrev pub invariant-pieces : goal.invariant-pieces
invariant-pieces l =
    (n : ℕ) × (length l.rest ≤ n) × IsTape l.tape
    × (with_body n l.heading.time l.heading.from l.heading.to l.comment l.rest l.tape.packets ≡ with_body (length l.body) l.heading.time l.heading.from l.heading.to l.comment l.body l.initial.tape.packets)

abbrev pub decreases-pieces : goal.decreases-pieces
decreases-pieces l = length l.rest
