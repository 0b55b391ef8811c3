-- What a report tells in the bytes of OpenFlow. Only the one written form is read.
use Rattle.std.specs.Prelude.{ℕ, zero, suc, ◌-◌, ◌*◌, ◌/◌, ◌%◌, nat_le, List, [], ◌∷◌, ◌++◌, length, drop, replicate, Option, Some, None, if◌then◌else◌}
use Rattle.std.specs.Result.{result_ok}
use Rattle.of_bytes.specs.Numbers.{number}
use Rattle.of_match.specs.Reading.{match_at}
use Rattle.of_match.specs.Writing.{canonical_bare_match}
use Rattle.of_messages.specs.Canonical.{actions_of}
use Rattle.of_messages.specs.Reading.{message_at}
use Rattle.of_ravana.specs.Canonical.{canonical_happening, canonical_order}
use Rattle.of_types.specs.declared.message.Happening.{Happening}
use Rattle.of_types.specs.declared.message.Happening.TheVariants as happening
use Rattle.of_types.specs.declared.message.Match.{Match}
use Rattle.of_types.specs.declared.message.OfMessage.{OfMessage}
use Rattle.of_types.specs.declared.message.OfMessage.TheVariants as plain
use Rattle.of_types.specs.declared.message.Order.{Order}
use Rattle.of_types.specs.declared.message.Order.TheVariants as order
use Rattle.vr_log.specs.Same.{same_numbers}
use Rattle.report.specs.Spelled.{◌>>=◌, hex_at}

-- a value whose written form is these bytes
abbrev pub if_written : {A : Type 0} → (A → List ℕ) → List ℕ → A → Option A
if_written write bytes x = if same_numbers (write x) bytes then Some x else None

abbrev pub happening_in : OfMessage → Option Happening
happening_in (plain.PacketIn packet) = Some (happening.PacketIn packet)
happening_in (plain.FlowRemoved removed) = Some (happening.FlowRemoved removed)
happening_in (plain.PortStatus status) = Some (happening.PortStatus status)
happening_in _ = None

unfoldable pub happening_of : List ℕ → Option Happening
happening_of bytes = do
  message ← result_ok (message_at bytes)
  what ← happening_in message
  if_written canonical_happening bytes what

unfoldable pub happening_in_text : List ℕ → Option (Happening × List ℕ)
happening_in_text bytes = do
  told ← hex_at bytes
  what ← happening_of told.0
  Some (what, told.1)

abbrev pub canonical_order_in : OfMessage → Option Order
canonical_order_in (plain.FlowMod change) = Some (order.FlowMod change)
canonical_order_in (plain.PacketOut packet) = Some (order.PacketOut packet)
canonical_order_in _ = None

unfoldable pub order_of : List ℕ → Option Order
order_of bytes = do
  message ← result_ok (message_at bytes)
  what ← canonical_order_in message
  if_written canonical_order bytes what

unfoldable pub order_in_text : List ℕ → Option (Order × List ℕ)
order_in_text bytes = do
  told ← hex_at bytes
  what ← order_of told.0
  Some (what, told.1)

-- bytes with zeros up to a multiple of eight
unfoldable pub padded_text : List ℕ → List ℕ
padded_text bare = bare ++ replicate ((8 - length bare % 8) % 8) 0

unfoldable pub matching_of : List ℕ → Option Match
matching_of bare = do
  found ← result_ok (match_at (padded_text bare))
  if_written canonical_bare_match bare found.0

-- a match without its padding
unfoldable pub matching_at : List ℕ → Option (Match × List ℕ)
matching_at bytes = do
  told ← hex_at bytes
  m ← matching_of told.0
  Some (m, told.1)

-- the ports of so many outputs of sixteen bytes
abbrev pub output_ports_of : ℕ → List ℕ → List ℕ
output_ports_of zero bytes = []
output_ports_of (suc n) bytes = number 4 4 bytes ∷ output_ports_of n (drop 16 bytes)

unfoldable pub most_actions : ℕ
most_actions = 4095

unfoldable pub actions_in : List ℕ → Option (List ℕ)
actions_in bytes =
    if nat_le (length bytes) (16 * most_actions) then if_written actions_of bytes (output_ports_of (length bytes / 16) bytes) else None

unfoldable pub actions_told : List ℕ → Option (List ℕ × List ℕ)
actions_told bytes = do
  told ← hex_at bytes
  ports ← actions_in told.0
  Some (ports, told.1)
