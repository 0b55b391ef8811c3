-- What the code keeps of the packets so far: the number of the next byte of each direction.
use Rattle.std.specs.Prelude.{◌≡◌, ℕ, ◌+◌, ◌%◌, nat_eq, List, Option, Some, None, if◌then◌else◌}
use Rattle.std.specs.BTreeMap.{get}
use Rattle.std.specs.Ordering.{nat_cmp}
use Rattle.capture_laws.specs.declared.shapes.Captured.{Captured}
use Rattle.capture_laws.specs.Streams.{sequence}
use Rattle.capture.specs.declared.tapes.Tape.{Tape}

-- the number of the next byte, as it is noted: 1 where nothing is
abbrev pub next_tape : Option ℕ → ℕ
next_tape None = 1
next_tape (Some n) = n

-- the number of the next byte of a direction, once another direction has said so many bytes more, or it has itself
abbrev pub next_behind : ℕ → ℕ → (ℕ → Option ℕ) → ℕ → ℕ
next_behind direction bytes next k = if nat_eq direction k then (next_tape (next direction) + bytes) % 4294967296 else next_tape (next k)

-- What is noted of each direction is the number of its next byte.
abbrev pub AreNextBytes : (ℕ → Option ℕ) → List Captured → Type 0
AreNextBytes next packets = (k : ℕ) → next_tape (next k) ≡ sequence k packets

abbrev pub IsTape : Tape → Type 0
IsTape tape = AreNextBytes (get nat_cmp tape.next) tape.packets
