-- What the forms of a message of the extension have: it is valid, and none is shorter than its canonical form.
use Rattle.std.proofs.Common.{ℕ, ◌+◌, ◌≤◌, List, length, drop, arith}
use Rattle.std.proofs.lemmas.List.{length-drop}
use Rattle.of_messages.proofs.Forms.{message_valid, message_long, length_fits}
use Rattle.of_types.specs.Sizes.{happening_size, order_size, extension_size}
use Rattle.of_types.specs.Valid.{IsValidOrder, IsValidHappening, IsValidExtension}
use Rattle.of_bytes.proofs.Bytes.{IsBytes}
use Rattle.of_types.specs.declared.message.Extension.{Extension}
use Rattle.of_types.specs.declared.message.Extension.TheVariants as extension
use Rattle.of_types.specs.declared.message.Happening.{Happening}
use Rattle.of_types.specs.declared.message.Happening.TheVariants as happening
use Rattle.of_types.specs.declared.message.OfMessage.{OfMessage}
use Rattle.of_types.specs.declared.message.Order.{Order}
use Rattle.of_types.specs.declared.message.Order.TheVariants as order
use Rattle.of_ravana.specs.Canonical.{happening_message, order_message}
use Rattle.of_ravana.specs.Grammar.{SpellsInner, SpellsExtension}

-- ---- messages inside others

pub happening_valid : (bytes : List ℕ) (what : Happening) → SpellsInner bytes (happening_message what) → IsValidHappening what
happening_valid bytes (happening.PacketIn p) s = tt
happening_valid bytes (happening.FlowRemoved r) s = message_valid bytes s.0 (happening_message (happening.FlowRemoved r)) s.1
happening_valid bytes (happening.PortStatus p) s = tt

order_valid : (bytes : List ℕ) (what : Order) → SpellsInner bytes (order_message what) → IsValidOrder what
order_valid bytes (order.FlowMod c) s = message_valid bytes s.0 (order_message (order.FlowMod c)) s.1
order_valid bytes (order.PacketOut p) s = tt

pub happening_long : (bytes : List ℕ) (what : Happening) → SpellsInner bytes (happening_message what) → happening_size what ≤ length bytes
happening_long bytes (happening.PacketIn p) s = message_long bytes s.0 (happening_message (happening.PacketIn p)) s.1
happening_long bytes (happening.FlowRemoved r) s = message_long bytes s.0 (happening_message (happening.FlowRemoved r)) s.1
happening_long bytes (happening.PortStatus p) s = message_long bytes s.0 (happening_message (happening.PortStatus p)) s.1

order_long : (bytes : List ℕ) (what : Order) → SpellsInner bytes (order_message what) → order_size what ≤ length bytes
order_long bytes (order.FlowMod c) s = message_long bytes s.0 (order_message (order.FlowMod c)) s.1
order_long bytes (order.PacketOut p) s = message_long bytes s.0 (order_message (order.PacketOut p)) s.1

-- the length of a message inside another stands in two bytes
pub inner_fits : (bytes : List ℕ) (m : OfMessage) → IsBytes bytes → SpellsInner bytes m → length bytes ≤ 65535
inner_fits bytes m fits s = length_fits bytes s.0 m fits s.1

-- ---- the message

-- what is spelled is valid
pub extension_valid : (body : List ℕ) (said : Extension) → SpellsExtension body said → IsValidExtension said
extension_valid body (extension.Event life event what) s = happening_valid (drop 24 body) what s.inner
extension_valid body (extension.EventAck life through) s = tt
extension_valid body (extension.Command life generation command settled what) s = order_valid (drop 40 body) what s.inner
extension_valid body (extension.CmdAck life command result) s = tt
extension_valid body (extension.Clear life through) s = tt

-- what is spelled is written in no more bytes
pub extension_long : (body : List ℕ) (said : Extension) → SpellsExtension body said → extension_size said ≤ 8 + length body
extension_long body (extension.Event life event what) s =
    let there = s.there in
    omega (arith, happening_long (drop 24 body) what s.inner, length-drop 24 body)
extension_long body (extension.EventAck life through) s = omega (arith, s.whole)
extension_long body (extension.Command life generation command settled what) s =
    let there = s.there in
    omega (arith, order_long (drop 40 body) what s.inner, length-drop 40 body)
extension_long body (extension.CmdAck life command result) s = omega (arith, s.whole)
extension_long body (extension.Clear life through) s = omega (arith, s.whole)
