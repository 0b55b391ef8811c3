-- The bytes of a packet: a segment of TCP in IPv4 on Ethernet, or a frame as it is.
use Rattle.std.specs.Prelude.{ℕ, ◌+◌, ◌-◌, ◌*◌, ◌%◌, nat_lt, Bool, true, not, List, [], ◌∷◌, ◌++◌, length, if◌then◌else◌}
use Rattle.of_bytes.specs.Numbers.{two, four, six}
use Rattle.journal.specs.declared.journal.Actor.{Actor}
use Rattle.journal.specs.declared.journal.Actor.TheVariants.{Controller, Switch}
use Rattle.capture_laws.specs.declared.shapes.Way.{Way}
use Rattle.capture_laws.specs.declared.shapes.Way.TheVariants.{Segment, Frame}

-- the sum of the words of two bytes, from a high or a low byte on
abbrev pub word_sum : Bool → List ℕ → ℕ
word_sum is_high [] = 0
word_sum is_high (b ∷ bytes) = (if is_high then 256 * b else b) + word_sum (not is_high) bytes

-- the checksum of words with a sum that is not 0
abbrev pub checksum : ℕ → ℕ
checksum sum = 65534 - (sum - 1) % 65535

-- the addresses of an actor: controllers at 192.0.2.1 and on, switches at 198.51.100.1 and on
abbrev pub ip : Actor → ℕ
ip (Controller c) = 0xC0000200 + (c + 1) % 256
ip (Switch s) = 0xC6336400 + (s + 1) % 256

abbrev pub mac : Actor → ℕ
mac (Controller c) = 0x020000006300 + (c + 1) % 256
mac (Switch s) = 0x020000007300 + (s + 1) % 256

-- The port of the first actor on its stream with the second: who listens has a fixed one, that of OpenFlow for a controller beside a switch, and
-- beside another controller for the lower one. The other one's tells who listens.
abbrev pub port : Actor → Actor → ℕ
port (Controller c) (Switch t) = 6653
port (Switch s) (Controller d) = 49152 + d
port (Switch s) (Switch t) = 0
port (Controller c) (Controller d) = if nat_lt c d then 49690 else 49152 + d

abbrev pub flags : Bool → ℕ
flags ends = if ends then 0x5018 else 0x5010

-- the head of a segment before its checksum, and that of its packet
unfoldable pub tcp_front : Actor → Actor → ℕ → ℕ → Bool → List ℕ
tcp_front from to sequence acknowledged ends =
    (two (port from to) ++ (two (port to from) ++ four sequence)) ++ (four acknowledged ++ (two (flags ends) ++ two 65535))

unfoldable pub ip_front : ℕ → List ℕ
ip_front count = (two 0x4500 ++ two (40 + count)) ++ (two 0 ++ (two 0x4000 ++ two 0x4006))

unfoldable pub frame_ends_of : Actor → Actor → List ℕ
frame_ends_of from to = four (ip from) ++ four (ip to)

-- what TCP sums beside the segment
unfoldable pub pseudo : Actor → Actor → ℕ → List ℕ
pseudo from to count = frame_ends_of from to ++ (two 6 ++ two (20 + count))

unfoldable pub ethernet : Actor → Actor → List ℕ
ethernet from to = six (mac to) ++ (six (mac from) ++ two 0x0800)

unfoldable pub ip_head : Actor → Actor → ℕ → List ℕ
ip_head from to count = ip_front count ++ (two (checksum (word_sum true (ip_front count) + word_sum true (frame_ends_of from to))) ++ frame_ends_of from to)

-- the sum of a segment with no checksum
abbrev pub tcp_sum : Actor → Actor → ℕ → ℕ → Bool → List ℕ → ℕ
tcp_sum from to sequence acknowledged ends payload =
    word_sum true (pseudo from to (length payload)) + word_sum true (tcp_front from to sequence acknowledged ends) + word_sum true payload

unfoldable pub tcp : Actor → Actor → ℕ → ℕ → Bool → List ℕ → List ℕ
tcp from to sequence acknowledged ends payload =
    tcp_front from to sequence acknowledged ends ++ (two (checksum (tcp_sum from to sequence acknowledged ends payload)) ++ (two 0 ++ payload))

-- the words of a segment and of what TCP sums beside it
abbrev pub segment_sum : Actor → Actor → ℕ → ℕ → Bool → List ℕ → ℕ
segment_sum from to sequence acknowledged ends payload = word_sum true (pseudo from to (length payload)) + word_sum true (tcp from to sequence acknowledged ends payload)

unfoldable pub frame_of : Way → List ℕ → List ℕ
frame_of (Segment from to sequence acknowledged ends) payload =
    ethernet from to ++ (ip_head from to (length payload) ++ tcp from to sequence acknowledged ends payload)
frame_of (Frame port) payload = payload
