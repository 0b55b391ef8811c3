-- Two ways in which bodies stand for messages: a message is its own body, or its body is the bytes that spell it.
use Rattle.std.specs.Prelude.{ℕ, ◌+◌, ◌&&◌, nat_le, List, ◌++◌, length, take, drop, Result, Ok, Err, if◌then◌else◌}
use Rattle.of_types.specs.declared.message.Extension.{Extension}
use Rattle.of_types.specs.declared.message.OfMessage.{OfMessage}
use Rattle.of_types.specs.declared.message.OfMessage.TheVariants as plain
use Rattle.of_types.specs.declared.message.Spoken.TheVariants as spoken
use Rattle.of_types.specs.declared.numbers.TheConstants.{SHORTEST_FRAME, LONGEST_FRAME}
use Rattle.of_types.specs.declared.refusal.Refusal.{Refusal}
use Rattle.of_bytes.specs.Numbers.{number, four}
use Rattle.of_messages.specs.Reading.{message_at, xid_of}
use Rattle.of_ravana.specs.Canonical.{canonical_spoken}
use Rattle.of_ravana.specs.Reading.{extension_at}
use Rattle.vr_log.specs.declared.message.VrMessage.{VrMessage}
use Rattle.vr_codec.specs.declared.fault.VrRefusal.{VrRefusal}
use Rattle.vr_codec.specs.Canonical.{canonical_vr}
use Rattle.vr_codec.specs.Reading.{vr_at}
use Rattle.run_spec.specs.declared.messages.Message.{Message}
use Rattle.run_spec.specs.declared.messages.Message.TheVariants as message
use Rattle.run_spec.specs.declared.messages.Unsealed.{Unsealed}
use Rattle.run_spec.specs.declared.messages.Unsealed.TheVariants as unsealed
use Rattle.run_spec.specs.declared.messages.Way.{Way}
use Rattle.run_spec.specs.declared.messages.Way.TheVariants as way
use Rattle.run_spec.specs.Messages.{said_on, nothing_said, message_size}
use Rattle.run_spec.specs.States.{Sealing}

-- a message that is its own body
abbrev pub own_bodies : Sealing Message
own_bodies = record { sealed = λ m. m; spelled = said_on; size = message_size }

-- the bytes of a message: of OpenFlow, between members, and on a link the port and the frame
abbrev pub message_bytes : Message → List ℕ
message_bytes (message.Of xid said) = canonical_spoken xid said
message_bytes (message.Vr said) = canonical_vr said
message_bytes (message.Frame port bytes) = four port ++ bytes

-- what bytes between a controller and a switch say, or the error that tells why they say nothing, with the number of
-- the request and the first 64 bytes
abbrev pub extension_said : List ℕ → Result Extension Refusal → Unsealed
extension_said bytes (Ok said) = unsealed.Message (message.Of (xid_of bytes) (spoken.Ravana said))
extension_said bytes (Err refusal) = unsealed.Malformed refusal.kind refusal.code (xid_of bytes) (take 64 bytes)

abbrev pub spoken_said : List ℕ → Result OfMessage Refusal → Unsealed
spoken_said bytes (Ok (plain.Experimenter body)) = extension_said bytes (extension_at body)
spoken_said bytes (Ok said) = unsealed.Message (message.Of (xid_of bytes) (spoken.Plain said))
spoken_said bytes (Err refusal) = unsealed.Malformed refusal.kind refusal.code (xid_of bytes) (take 64 bytes)

-- what bytes between two controllers say, and on a link
abbrev pub vr_said : Result VrMessage VrRefusal → Unsealed
vr_said (Ok said) = unsealed.Message (message.Vr said)
vr_said (Err refusal) = nothing_said

abbrev pub frame_said : List ℕ → Unsealed
frame_said bytes =
    if nat_le (4 + SHORTEST_FRAME) (length bytes) && nat_le (length bytes) (4 + LONGEST_FRAME)
    then unsealed.Message (message.Frame (number 4 0 bytes) (drop 4 bytes)) else nothing_said

abbrev pub bytes_said : Way → List ℕ → Unsealed
bytes_said way.Of bytes = spoken_said bytes (message_at bytes)
bytes_said way.Vr bytes = vr_said (vr_at bytes)
bytes_said way.Link bytes = frame_said bytes

-- a body of bytes
abbrev pub byte_bodies : Sealing (List ℕ)
byte_bodies = record { sealed = message_bytes; spelled = bytes_said; size = λ bytes. length bytes }
