-- What a body says on the way between its two actors, or of how many bytes it is.
use Rattle.std.specs.Prelude.{ℕ, ◌-◌, nat_lt, List, length, Result, Ok, Err, if◌then◌else◌}
use Rattle.of_types.specs.declared.message.Extension.{Extension}
use Rattle.of_types.specs.declared.message.OfMessage.{OfMessage}
use Rattle.of_types.specs.declared.message.OfMessage.TheVariants as plain
use Rattle.of_types.specs.declared.message.Spoken.TheVariants as spoken
use Rattle.of_types.specs.declared.refusal.Refusal.{Refusal}
use Rattle.of_bytes.specs.Numbers.{number}
use Rattle.of_messages.specs.Reading.{message_at}
use Rattle.of_ravana.specs.Reading.{extension_at}
use Rattle.vr_log.specs.declared.message.VrMessage.{VrMessage}
use Rattle.vr_codec.specs.declared.fault.VrRefusal.{VrRefusal}
use Rattle.vr_codec.specs.Reading.{vr_at}
use Rattle.journal.specs.declared.journal.Actor.{Actor}
use Rattle.journal.specs.declared.journal.Actor.TheVariants.{Controller, Switch}
use Rattle.chart.specs.declared.shapes.Carried.{Carried}
use Rattle.chart.specs.declared.shapes.Carried.TheVariants.{Spoken, Member, Frame, Unread}

-- a message of the extension, which is read from the body of an EXPERIMENTER
abbrev pub carried_extension : ℕ → Result Extension Refusal → Carried
carried_extension bytes (Ok said) = Spoken (spoken.Ravana said)
carried_extension bytes (Err refusal) = Unread bytes

-- between a controller and a switch
abbrev pub message_said : ℕ → Result OfMessage Refusal → Carried
message_said bytes (Ok (plain.Experimenter body)) = carried_extension bytes (extension_at body)
message_said bytes (Ok said) = Spoken (spoken.Plain said)
message_said bytes (Err refusal) = Unread bytes

-- between two controllers
abbrev pub member_said : ℕ → Result VrMessage VrRefusal → Carried
member_said bytes (Ok said) = Member said
member_said bytes (Err refusal) = Unread bytes

-- between two switches: the port that receives the frame, and the frame
abbrev pub carried_frame : List ℕ → Carried
carried_frame bytes = if nat_lt (length bytes) 4 then Unread (length bytes) else Frame (number 4 0 bytes) (length bytes - 4)

-- what a body says that the first actor sends to the second
unfoldable pub carried_by : Actor → Actor → List ℕ → Carried
carried_by (Controller c) (Controller d) bytes = member_said (length bytes) (vr_at bytes)
carried_by (Controller c) (Switch s) bytes = message_said (length bytes) (message_at bytes)
carried_by (Switch s) (Controller c) bytes = message_said (length bytes) (message_at bytes)
carried_by (Switch s) (Switch t) bytes = carried_frame bytes
