-- What is written is spelled, and has the stated size.
use Rattle.std.proofs.Common.{◌≡◌, ℕ, ◌+◌, ◌^◌, ◌≤◌, ◌<◌, List, [], ◌++◌, length, refl, sym, ◌∙◌, append_assoc, arith, lit<}
use Rattle.std.proofs.lemmas.List.{append-nil}
use Rattle.of_bytes.specs.Numbers.{two, four, eight, zeros}
use Rattle.of_bytes.proofs.Bytes.{number_bytes}
use Rattle.of_messages.specs.Canonical as messages
use Rattle.of_messages.specs.Canonical.{header}
use Rattle.of_messages.proofs.Fronts.{framed_of}
use Rattle.of_messages.proofs.Written.{message_spelled, message_size}
use Rattle.of_types.specs.declared.message.Extension.{Extension}
use Rattle.of_types.specs.declared.message.Extension.TheVariants as extension
use Rattle.of_types.specs.declared.message.Happening.{Happening}
use Rattle.of_types.specs.declared.message.Happening.TheVariants as happening
use Rattle.of_types.specs.declared.message.OfMessage.TheVariants as plain
use Rattle.of_types.specs.declared.message.Order.{Order}
use Rattle.of_types.specs.declared.message.Order.TheVariants as order
use Rattle.of_types.specs.declared.message.Outcome.{Outcome}
use Rattle.of_types.specs.declared.message.Outcome.TheVariants as outcome
use Rattle.of_types.specs.declared.message.Spoken.TheVariants as spoken
use Rattle.of_types.specs.Sizes.{happening_size, order_size, extension_size}
use Rattle.of_types.specs.Valid.{IsValidOrder, IsValidHappening, IsValidExtension}
use Rattle.of_messages.specs.Fits.{FitsPlain}
use Rattle.of_ravana.specs.Canonical.{happening_message, order_message, canonical_happening, canonical_order, result_bytes, outcome_bytes, command_front, extension_rest, extension_numbers, extension_inner, extension_type, extension_life, extension_front, extension_body, canonical_extension}
use Rattle.of_ravana.specs.Fits.{FitsOutcome, FitsExtension}
use Rattle.of_ravana.specs.Grammar.{SpellsInner, IsFront, IsEvent, IsThrough, IsCommand, SpellsOutcome, IsCmdAck, SpellsExtension, SpellsSpoken}

-- ---- messages inside others

pub happening_length : (what : Happening) → length (canonical_happening what) ≡ happening_size what
unfolding canonical_happening
happening_length (happening.PacketIn p) = message_size 0 (happening_message (happening.PacketIn p))
happening_length (happening.FlowRemoved r) = message_size 0 (happening_message (happening.FlowRemoved r))
happening_length (happening.PortStatus p) = message_size 0 (happening_message (happening.PortStatus p))

order_length : (what : Order) → length (canonical_order what) ≡ order_size what
unfolding canonical_order
order_length (order.FlowMod c) = message_size 0 (order_message (order.FlowMod c))
order_length (order.PacketOut p) = message_size 0 (order_message (order.PacketOut p))

pub happening_spelled : (what : Happening) → IsValidHappening what → FitsPlain (happening_message what) → happening_size what ≤ 65535 → SpellsInner (canonical_happening what) (happening_message what)
unfolding canonical_happening
happening_spelled (happening.PacketIn p) v f short = (0, message_spelled 0 (happening_message (happening.PacketIn p)) tt f short (lit< tt))
happening_spelled (happening.FlowRemoved r) v f short = (0, message_spelled 0 (happening_message (happening.FlowRemoved r)) v f short (lit< tt))
happening_spelled (happening.PortStatus p) v f short = (0, message_spelled 0 (happening_message (happening.PortStatus p)) tt f short (lit< tt))

order_spelled : (what : Order) → IsValidOrder what → FitsPlain (order_message what) → order_size what ≤ 65535 → SpellsInner (canonical_order what) (order_message what)
unfolding canonical_order
order_spelled (order.FlowMod c) v f short = (0, message_spelled 0 (order_message (order.FlowMod c)) v f short (lit< tt))
order_spelled (order.PacketOut p) v f short = (0, message_spelled 0 (order_message (order.PacketOut p)) tt f short (lit< tt))

-- ---- bodies

front_spelled : (kind life : ℕ) (rest : List ℕ) → kind < 2 ^ 32 → life < 2 ^ 32 → IsFront (extension_body kind life rest) kind life
unfolding extension_body four zeros
front_spelled kind life rest k l = record {
  there = omega arith;
  experimenter_is = refl;
  kind_is = number_bytes 4 kind [] k;
  life_is = number_bytes 4 life [] l;
}

body_size : (kind life : ℕ) (rest : List ℕ) → length (extension_body kind life rest) ≡ 16 + length rest
unfolding extension_body four zeros
body_size kind life rest = omega arith

event_spelled : (life event : ℕ) (what : Happening) → life < 2 ^ 32 → event < 2 ^ 64 → SpellsInner (canonical_happening what) (happening_message what)
    → IsEvent (extension_body 1 life (eight event ++ canonical_happening what)) life event what
unfolding extension_body four eight zeros
event_spelled life event what l n inner = record {
  front = front_spelled 1 life (eight event ++ canonical_happening what) (lit< tt) l;
  there = omega arith;
  event_is = number_bytes 8 event [] n;
  inner = inner;
}

through_spelled : (kind life through : ℕ) → kind < 2 ^ 32 → life < 2 ^ 32 → through < 2 ^ 64 → IsThrough (extension_body kind life (eight through)) kind life through
unfolding extension_body four eight zeros
through_spelled kind life through k l n = record {
  front = front_spelled kind life (eight through) k l;
  whole = refl;
  through_is = number_bytes 8 through [] n;
}

command_spelled : (life generation command settled : ℕ) (what : Order) → life < 2 ^ 32 → generation < 2 ^ 64 → command < 2 ^ 64 → settled < 2 ^ 64
    → SpellsInner (canonical_order what) (order_message what)
    → IsCommand (extension_body 3 life (command_front generation command settled ++ canonical_order what)) life generation command settled what
unfolding extension_body command_front four eight zeros
command_spelled life generation command settled what l g c s inner = record {
  front = front_spelled 3 life (command_front generation command settled ++ canonical_order what) (lit< tt) l;
  there = omega arith;
  generation_is = number_bytes 8 generation [] g;
  command_is = number_bytes 8 command [] c;
  settled_is = number_bytes 8 settled [] s;
  inner = inner;
}

outcome_spelled : (life command : ℕ) (result : Outcome) → FitsOutcome result → SpellsOutcome (extension_body 4 life (eight command ++ outcome_bytes result)) result
unfolding extension_body result_bytes two four eight zeros
outcome_spelled life command outcome.Done f = refl
outcome_spelled life command (outcome.Failed kind code) f = (refl, number_bytes 2 kind [] f.0, number_bytes 2 code [] f.1)
outcome_spelled life command outcome.Cleared f = refl

result_size : (status kind code : ℕ) → length (result_bytes status kind code) ≡ 8
unfolding result_bytes two zeros
result_size status kind code = refl

outcome_size : (result : Outcome) → length (outcome_bytes result) ≡ 8
outcome_size outcome.Done = result_size 0 0 0
outcome_size (outcome.Failed kind code) = result_size 1 kind code
outcome_size outcome.Cleared = result_size 2 0 0

cmd_ack_spelled : (life command : ℕ) (result : Outcome) → life < 2 ^ 32 → command < 2 ^ 64 → FitsOutcome result
    → IsCmdAck (extension_body 4 life (eight command ++ outcome_bytes result)) life command result
unfolding extension_body four eight zeros
cmd_ack_spelled life command result l n f = record {
  front = front_spelled 4 life (eight command ++ outcome_bytes result) (lit< tt) l;
  whole = omega (arith, outcome_size result);
  command_is = number_bytes 8 command [] n;
  outcome = outcome_spelled life command result f;
}

-- ---- the message

eight_size : (n : ℕ) (rest : List ℕ) → length (eight n ++ rest) ≡ 8 + length rest
unfolding eight
eight_size n rest = omega arith

one_number : (n : ℕ) → length (eight n) ≡ 8
unfolding eight
one_number n = refl

command_front_size : (generation command settled : ℕ) (rest : List ℕ) → length (command_front generation command settled ++ rest) ≡ 24 + length rest
unfolding command_front eight
command_front_size generation command settled rest = omega arith

rest_size : (said : Extension) → 24 + length (extension_rest said) ≡ extension_size said
rest_size (extension.Event life event what) = omega (arith, eight_size event (canonical_happening what), happening_length what)
rest_size (extension.EventAck life through) = omega (arith, one_number through)
rest_size (extension.Command life generation command settled what) = omega (arith, command_front_size generation command settled (canonical_order what), order_length what)
rest_size (extension.CmdAck life command result) = omega (arith, eight_size command (outcome_bytes result), outcome_size result)
rest_size (extension.Clear life through) = omega (arith, one_number through)

pub extension_has_size : (said : Extension) → 8 + length (canonical_extension said) ≡ extension_size said
unfolding canonical_extension
extension_has_size said = omega (arith, body_size (extension_type said) (extension_life said) (extension_rest said), rest_size said)

pub extension_spelled : (said : Extension) → IsValidExtension said → FitsExtension said → extension_size said ≤ 65535 → SpellsExtension (canonical_extension said) said
unfolding canonical_extension
extension_spelled (extension.Event life event what) v f short =
    event_spelled life event what f.0 f.1 (happening_spelled what v f.2 (omega arith))
extension_spelled (extension.EventAck life through) v f short = through_spelled 2 life through (lit< tt) f.0 f.1
extension_spelled (extension.Command life generation command settled what) v f short =
    command_spelled life generation command settled what f.0 f.1 f.2 f.3 (order_spelled what v f.4 (omega arith))
extension_spelled (extension.CmdAck life command result) v f short = cmd_ack_spelled life command result f.0 f.1 f.2
extension_spelled (extension.Clear life through) v f short = through_spelled 5 life through (lit< tt) f.0 f.1

extension_least : (said : Extension) → 32 ≤ extension_size said
extension_least (extension.Event life event what) = omega arith
extension_least (extension.EventAck life through) = omega arith
extension_least (extension.Command life generation command settled what) = omega arith
extension_least (extension.CmdAck life command result) = omega arith
extension_least (extension.Clear life through) = omega arith

-- ---- added to a list

body_is : (kind life : ℕ) (rest : List ℕ) → extension_body kind life rest ≡ extension_front kind life ++ rest
unfolding extension_body extension_front four zeros
body_is kind life rest = refl

rest_is : (said : Extension) → extension_rest said ≡ extension_numbers said ++ extension_inner said
rest_is (extension.Event life event what) = refl
rest_is (extension.EventAck life through) = sym (append-nil (eight through))
rest_is (extension.Command life generation command settled what) = refl
rest_is (extension.CmdAck life command result) = sym (append-nil (eight command ++ outcome_bytes result))
rest_is (extension.Clear life through) = sym (append-nil (eight through))

-- its numbers, and the message inside
pub extension_is : (said : Extension)
    → canonical_extension said ≡ (extension_front (extension_type said) (extension_life said) ++ extension_numbers said) ++ extension_inner said
unfolding canonical_extension
extension_is said =
    body_is (extension_type said) (extension_life said) (extension_rest said) ∙ rw rest_is (sym (append_assoc (extension_front (extension_type said) (extension_life said)) (extension_numbers said) (extension_inner said)))

pub experimenter_is : (xid : ℕ) (said : Extension)
    → messages.canonical xid (plain.Experimenter (canonical_extension said))
    ≡ (header 4 (extension_size said) xid ++ (extension_front (extension_type said) (extension_life said) ++ extension_numbers said)) ++ extension_inner said
unfolding messages.canonical
experimenter_is xid said =
    framed_of [] 4 (extension_size said) xid (canonical_extension said) (extension_has_size said)
    ∙ rw (extension_is said) (sym (append_assoc (header 4 (extension_size said) xid) (extension_front (extension_type said) (extension_life said) ++ extension_numbers said) (extension_inner said)))

pub said_spelled : (xid : ℕ) (said : Extension) → IsValidExtension said → FitsExtension said → extension_size said ≤ 65535 → xid < 2 ^ 32
    → SpellsSpoken (messages.canonical xid (plain.Experimenter (canonical_extension said))) xid (spoken.Ravana said)
said_spelled xid said v f short lt =
    let size = extension_has_size said in
    let there : 8 ≤ length (canonical_extension said) = omega (arith, extension_least said) in (
      canonical_extension said,
      message_spelled xid (plain.Experimenter (canonical_extension said)) there tt (omega (arith, size)) lt,
      extension_spelled said v f short,
    )
