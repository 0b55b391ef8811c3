use Rattle.std.proofs.Common.{◌≡◌, ◌-◌, ◌^◌, min, take}
use Rattle.journal.specs.Pool.{letter_bytes}
use Rattle.journal.proofs.pool.letters_size.Given as goal

abbrev pub invariant-loop-index : goal.invariant-loop-index
invariant-loop-index g l = l.size ≡ min (2 ^ 64 - 1) (letter_bytes g.B.Weight.size (take l.index l.letters))
