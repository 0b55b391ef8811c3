use Rattle.std.proofs.Common.{◌≡◌, ◌≤◌, ◌*◌, ◌+◌, true, drop}
use Rattle.capture_laws.specs.Frames.{word_sum}
use Rattle.capture.proofs.frames.word_sum.Given as goal

abbrev pub invariant-bytes : goal.invariant-bytes
invariant-bytes l = (l.sum ≤ 65280 * l.byte-index) × (l.sum + word_sum l.is_high (drop l.byte-index l.bytes) ≡ word_sum true l.bytes)
