use Rattle.std.proofs.Common.{◌≡◌, ◌+◌, ◌-◌, ◌==◌, length, take}
use Rattle.std.specs.Prelude.{count_by}
use Rattle.report.proofs.reading.line_number.Given as goal

abbrev pub invariant-loop-byte : goal.invariant-loop-byte
invariant-loop-byte l = l.line ≡ 1 + count_by (λ b. b == 10) (take l.byte-index (take (length l.bytes - l.left) l.bytes))
