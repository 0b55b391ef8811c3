-- The streams of TCP of a capture, and how one more letter stands on them.
use Rattle.std.specs.Prelude.{◌≡◌, ℕ, zero, suc, ◌+◌, ◌*◌, ◌%◌, min, nat_eq, nat_le, Bool, List, [], ◌∷◌, ◌++◌, length, take, drop, Option, Some, None, if◌then◌else◌}
use Rattle.journal.specs.declared.journal.Actor.{Actor}
use Rattle.journal.specs.declared.journal.Actor.TheVariants.{Controller, Switch}
use Rattle.capture_laws.specs.declared.shapes.Captured.{Captured}
use Rattle.capture_laws.specs.declared.shapes.Way.{Way}
use Rattle.capture_laws.specs.declared.shapes.Way.TheVariants.{Segment, Frame}

-- the number of an end, and of the direction from one to another: apart for the actors of a setup
abbrev pub end_number : Actor → ℕ
end_number (Controller c) = c
end_number (Switch s) = 256 + s

abbrev pub direction : Actor → Actor → ℕ
direction from to = end_number from * 512 + end_number to

-- the bytes of a packet in a direction
abbrev pub bytes_on : ℕ → Way → List ℕ → List ℕ
bytes_on k (Segment from to sequence acknowledged ends) payload = if nat_eq (direction from to) k then payload else []
bytes_on k (Frame port) payload = []

-- the payloads of a direction, joined
unfoldable pub joined : ℕ → List Captured → List ℕ
joined k [] = []
joined k (p ∷ packets) = bytes_on k p.way p.payload ++ joined k packets

-- the number of the next byte of a direction: one more than the bytes before it, counted round
unfoldable pub sequence : ℕ → List Captured → ℕ
sequence k packets = (1 + length (joined k packets)) % 4294967296

-- a piece of a letter behind the packets before it
abbrev pub segment : ℕ → Actor → Actor → List ℕ → List ℕ → Bool → List Captured → Captured
segment time from to comment piece ends before =
    record {
      time = time;
      way = Segment from to (sequence (direction from to) before) (sequence (direction to from) before) ends;
      payload = piece;
      comment = comment;
    }

-- the most bytes of a segment: a packet of IPv4 has at most 65,535
abbrev pub most_bytes : ℕ
most_bytes = 65495

-- the length of the first piece of a body
abbrev pub piece_of : List ℕ → ℕ
piece_of body = min (length body) most_bytes

-- a letter's body behind the packets before it, in at most so many pieces
unfoldable pub with_body : ℕ → ℕ → Actor → Actor → List ℕ → List ℕ → List Captured → List Captured
with_body zero time from to comment body packets = packets
with_body (suc n) time from to comment [] packets = packets
with_body (suc n) time from to comment (b ∷ body) packets =
    with_body n time from to comment (drop (piece_of (b ∷ body)) (b ∷ body))
    (packets ++ segment time from to comment (take (piece_of (b ∷ body)) (b ∷ body)) (nat_le (length (b ∷ body)) most_bytes) packets ∷ [])
