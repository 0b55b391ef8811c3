-- The packets of a journal.
use Rattle.std.specs.Prelude.{◌≡◌, ◌<◌, ◌≤◌, ℕ, ◌+◌, ◌-◌, nat_eq, nat_lt, List, [], ◌∷◌, ◌++◌, length, drop, Option, if◌then◌else◌, ⊤}
use Rattle.of_bytes.specs.Numbers.{number}
use Rattle.journal.specs.declared.journal.Actor.{Actor}
use Rattle.journal.specs.declared.journal.Actor.TheVariants.{Controller, Switch}
use Rattle.journal.specs.declared.journal.JournalEntry.TheVariants.{Post, Draw, Lose, Local, Idle, Refused}
use Rattle.journal.specs.declared.journal.Letter.{Letter}
use Rattle.journal.specs.declared.journal.Local.TheVariants as input
use Rattle.journal.specs.Pool.{past}
use Rattle.capture_laws.specs.declared.shapes.Captured.{Captured}
use Rattle.capture_laws.specs.declared.shapes.Fate.{Fate}
use Rattle.capture_laws.specs.declared.shapes.Way.{Way}
use Rattle.capture_laws.specs.declared.shapes.Way.TheVariants.{Segment, Frame}
use Rattle.report.specs.Records.{ByteEntry}
use Rattle.capture_laws.specs.Fates.{comment_of, fate}
use Rattle.capture_laws.specs.Streams.{direction, sequence, with_body}

-- a frame at the port of a switch that takes it in
abbrev pub frame_at : ℕ → ℕ → ℕ → List ℕ → List ℕ → Captured
frame_at time switch port comment frame = record { time = time; way = Frame (record { switch = switch; port = port }); payload = frame; comment = comment }

-- a letter on a link: the number of the port that takes it in, and a frame; a shorter one is no packet
abbrev pub with_frame : ℕ → ℕ → List ℕ → List ℕ → List Captured → List Captured
with_frame time switch comment body packets =
    if nat_lt (length body) 4 then packets else packets ++ frame_at time switch (number 4 0 body) comment (drop 4 body) ∷ []

-- a letter behind the packets before it
unfoldable pub with_letter : ℕ → Actor → Actor → List ℕ → List ℕ → List Captured → List Captured
with_letter time (Switch s) (Switch t) comment body packets = with_frame time t comment body packets
with_letter time (Switch s) (Controller d) comment body packets = with_body (length body) time (Switch s) (Controller d) comment body packets
with_letter time (Controller c) (Switch t) comment body packets = with_body (length body) time (Controller c) (Switch t) comment body packets
with_letter time (Controller c) (Controller d) comment body packets = with_body (length body) time (Controller c) (Controller d) comment body packets

-- letters of a post, from this one on, of which so many find room
unfoldable pub with_packets_of_post : (ℕ → Option Fate) → ℕ → Actor → ℕ → ℕ → ℕ → List (Letter (List ℕ)) → List Captured → List Captured
with_packets_of_post fates time from first room index [] packets = packets
with_packets_of_post fates time from first room index (l ∷ letters) packets =
    with_packets_of_post fates time from first room (index + 1) letters (with_letter time from l.to (comment_of (first + index) (nat_lt index room) (fates (first + index))) l.body packets)

-- an entry: what it posts, and a frame from a host
unfoldable pub with_packets_of_entry : (ℕ → Option Fate) → ℕ → ByteEntry → List Captured → List Captured
with_packets_of_entry fates time (Post actor first letters lost) packets = with_packets_of_post fates time actor first (length letters - lost) 0 letters packets
with_packets_of_entry fates time (Local (Switch s) (input.Frame port frame)) packets = packets ++ frame_at time s port [] frame ∷ []
with_packets_of_entry fates time (Local actor input) packets = packets
with_packets_of_entry fates time (Draw actor id keep) packets = packets
with_packets_of_entry fates time (Lose actor id) packets = packets
with_packets_of_entry fates time (Idle actor) packets = packets
with_packets_of_entry fates time (Refused actor) packets = packets

-- entries, numbered from there on
unfoldable pub with_entries : (ℕ → Option Fate) → ℕ → List ByteEntry → List Captured → List Captured
with_entries fates time [] packets = packets
with_entries fates time (e ∷ journal) packets = with_entries fates (time + 1) journal (with_packets_of_entry fates time e packets)

-- the packets of a journal; its first entry has the number 1
unfoldable pub captured : List ByteEntry → List Captured
captured journal = with_entries (λ id. fate id (past journal)) 1 journal []

-- what is posted in a direction: the bodies of its letters in order, the lost ones too
abbrev pub body_on : ℕ → Actor → Actor → List ℕ → List ℕ
body_on k (Switch s) (Switch t) body = []
body_on k (Switch s) (Controller d) body = if nat_eq (direction (Switch s) (Controller d)) k then body else []
body_on k (Controller c) (Switch t) body = if nat_eq (direction (Controller c) (Switch t)) k then body else []
body_on k (Controller c) (Controller d) body = if nat_eq (direction (Controller c) (Controller d)) k then body else []

unfoldable pub bodies_on : ℕ → Actor → List (Letter (List ℕ)) → List ℕ
bodies_on k from [] = []
bodies_on k from (l ∷ letters) = body_on k from l.to l.body ++ bodies_on k from letters

abbrev pub posted_by : ℕ → ByteEntry → List ℕ
posted_by k (Post actor first letters lost) = bodies_on k actor letters
posted_by k (Draw actor id keep) = []
posted_by k (Lose actor id) = []
posted_by k (Local actor input) = []
posted_by k (Idle actor) = []
posted_by k (Refused actor) = []

unfoldable pub posted_on : ℕ → List ByteEntry → List ℕ
posted_on k [] = []
posted_on k (e ∷ journal) = posted_by k e ++ posted_on k journal

-- A packet's numbers are those of the packets before it.
abbrev pub IsInSequence : List Captured → Way → Type 0
IsInSequence before (Segment from to n acknowledged ends) = (n ≡ sequence (direction from to) before) × (acknowledged ≡ sequence (direction to from) before)
IsInSequence before (Frame port) = ⊤

abbrev pub AreInSequence : List Captured → List Captured → Type 0
AreInSequence before [] = ⊤
AreInSequence before (p ∷ packets) = IsInSequence before p.way × AreInSequence (before ++ p ∷ []) packets

-- A segment has at most 65,495 bytes, so that the length of its packet is told by two bytes.
abbrev pub FitsPacket : Way → List ℕ → Type 0
FitsPacket (Segment from to n acknowledged ends) payload = length payload ≤ 65495
FitsPacket (Frame port) payload = ⊤

-- an actor with a number of one byte
abbrev pub HasByte : Actor → Type 0
HasByte (Controller c) = c < 256
HasByte (Switch s) = s < 256
