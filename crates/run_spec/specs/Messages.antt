-- Messages, their ways and their sizes.
use Rattle.std.specs.Prelude.{◌<◌, ◌≤◌, ℕ, ◌+◌, ◌-◌, ◌^◌, min, [], length}
use Rattle.of_types.specs.declared.message.Spoken.{Spoken}
use Rattle.of_types.specs.declared.message.Spoken.TheVariants as spoken
use Rattle.of_types.specs.Sizes.{plain_size, extension_size}
use Rattle.of_types.specs.declared.numbers.TheConstants.{SHORTEST_FRAME, LONGEST_FRAME}
use Rattle.of_messages.specs.Fits.{FitsPlain}
use Rattle.of_ravana.specs.Fits.{FitsExtension}
use Rattle.of_ravana.specs.Grammar.{IsValidSpoken}
use Rattle.vr_log.specs.Sizes.{vr_size, IsValidVr}
use Rattle.vr_codec.specs.Fits.{FitsVr}
use Rattle.journal.specs.declared.journal.Actor.{Actor}
use Rattle.journal.specs.declared.journal.Actor.TheVariants as actor
use Rattle.run_spec.specs.declared.messages.Message.{Message}
use Rattle.run_spec.specs.declared.messages.Message.TheVariants as message
use Rattle.run_spec.specs.declared.messages.Unsealed.{Unsealed}
use Rattle.run_spec.specs.declared.messages.Unsealed.TheVariants as unsealed
use Rattle.run_spec.specs.declared.messages.Way.{Way}
use Rattle.run_spec.specs.declared.messages.Way.TheVariants as way

-- between whom a packet goes
abbrev pub way_of : Actor → Actor → Way
way_of (actor.Controller i) (actor.Controller j) = way.Vr
way_of (actor.Controller i) (actor.Switch s) = way.Of
way_of (actor.Switch s) (actor.Controller i) = way.Of
way_of (actor.Switch s) (actor.Switch t) = way.Link

-- the way of a message's kind
abbrev pub way_of_message : Message → Way
way_of_message (message.Of xid said) = way.Of
way_of_message (message.Vr said) = way.Vr
way_of_message (message.Frame port bytes) = way.Link

-- a message that can be spelled
abbrev pub IsValidMessage : Message → Type 0
IsValidMessage (message.Of xid said) = IsValidSpoken said
IsValidMessage (message.Vr said) = IsValidVr said
IsValidMessage (message.Frame port bytes) = (SHORTEST_FRAME ≤ length bytes) × (length bytes ≤ LONGEST_FRAME)

-- each number of a message fits its field, as the types of the code have it
abbrev pub FitsSpoken : Spoken → Type 0
FitsSpoken (spoken.Plain said) = FitsPlain said
FitsSpoken (spoken.Ravana said) = FitsExtension said

abbrev pub FitsMessage : Message → Type 0
FitsMessage (message.Of xid said) = (xid < 2 ^ 32) × FitsSpoken said
FitsMessage (message.Vr said) = FitsVr said
FitsMessage (message.Frame port bytes) = port < 2 ^ 32

-- the bytes of a message, as far as numbers of 64 bits go
abbrev pub message_size : Message → ℕ
message_size (message.Of xid (spoken.Plain said)) = min (2 ^ 64 - 1) (plain_size said)
message_size (message.Of xid (spoken.Ravana said)) = min (2 ^ 64 - 1) (extension_size said)
message_size (message.Vr said) = min (2 ^ 64 - 1) (vr_size said)
message_size (message.Frame port bytes) = min (2 ^ 64 - 1) (4 + length bytes)

-- no message of the way
abbrev pub nothing_said : Unsealed
nothing_said = unsealed.Malformed 0 0 0 []

-- a message that is its own body says itself on the way of its kind, and nothing on another
abbrev pub said_on : Way → Message → Unsealed
said_on way.Of (message.Of xid said) = unsealed.Message (message.Of xid said)
said_on way.Vr (message.Vr said) = unsealed.Message (message.Vr said)
said_on way.Link (message.Frame port bytes) = unsealed.Message (message.Frame port bytes)
said_on _ _ = nothing_said
