-- How an operator asks for another version of an application: by a frame that comes in at port 48 of switch 0, of Ethernet
-- type 88b6. The byte behind its header is the version. Such a frame from elsewhere, or one that has no such byte, is an
-- ordinary frame.
use Rattle.std.specs.Prelude.{ℕ, nat_eq, nat_lt, ◌&&◌, List, [], ◌∷◌, slice_get, Option, Some, None, if◌then◌else◌}
use Rattle.of_types.specs.declared.message.Event.{Event}
use Rattle.of_types.specs.declared.message.Happening.{Happening}
use Rattle.of_types.specs.declared.message.Happening.TheVariants as happening
use Rattle.of_types.specs.Header.{number_at}
use Rattle.of_types.specs.Matching.{has_value}
use Rattle.app_core.specs.declared.operator.TheConstants.{OPERATOR_SWITCH, OPERATOR_PORT, OPERATOR_TYPE, VERSION_PLACE}

-- the version that a frame asks for, which comes in at a port of a switch
abbrev pub asked_by : ℕ → ℕ → List ℕ → Option ℕ
asked_by switch port frame =
    if nat_eq switch OPERATOR_SWITCH && nat_eq port OPERATOR_PORT && has_value (Some OPERATOR_TYPE) (number_at 2 12 frame)
    then slice_get frame VERSION_PLACE else None

-- the version that what happened at a switch asks for
abbrev pub asked_at : ℕ → Happening → Option ℕ
asked_at switch (happening.PacketIn p) = asked_by switch p.in_port p.payload
asked_at switch (happening.PortStatus p) = None
asked_at switch (happening.FlowRemoved r) = None

-- the version that an event asks for. An event that asks for none is an ordinary one
abbrev pub asked_version : Event → Option ℕ
asked_version event = asked_at event.switch event.what

-- the active version of so many, where an event asks for one or for none: the one that it asks for, where that is listed and
-- above the active one
abbrev pub version_next : ℕ → ℕ → Option ℕ → ℕ
version_next count active None = active
version_next count active (Some asked) = if nat_lt active asked && nat_lt asked count then asked else active

-- the active version of so many after these events, from this one on
abbrev pub version_from : ℕ → ℕ → List Event → ℕ
version_from count active [] = active
version_from count active (event ∷ events) = version_from count (version_next count active (asked_version event)) events

-- the active version of so many after these events: 0 at first
abbrev pub version_after : ℕ → List Event → ℕ
version_after count events = version_from count 0 events
