-- What is spelled is read.
use Rattle.std.proofs.Common.{◌≡◌, ℕ, true, eqb, List, length, drop, Ok, refl, arith, eq-eqb}
use Rattle.std.specs.List.{list_any}
use Rattle.std.proofs.lemmas.Bool.{le-ltb}
use Rattle.of_types.specs.declared.refusal.Refusal.{Refusal}
use Rattle.of_messages.specs.Canonical.{plain_type}
use Rattle.of_types.specs.declared.refusal.TheConstants.{BAD_TYPE, NOT_PERMITTED}
use Rattle.of_messages.proofs.Again.{message_again}
use Rattle.of_types.specs.declared.message.Extension.{Extension}
use Rattle.of_types.specs.declared.message.Extension.TheVariants as extension
use Rattle.of_types.specs.declared.message.Happening.{Happening}
use Rattle.of_types.specs.declared.message.Happening.TheVariants as happening
use Rattle.of_types.specs.declared.message.OfMessage.{OfMessage}
use Rattle.of_types.specs.declared.message.OfMessage.TheVariants as plain
use Rattle.of_types.specs.declared.message.Order.{Order}
use Rattle.of_types.specs.declared.message.Order.TheVariants as order
use Rattle.of_types.specs.declared.message.Outcome.{Outcome}
use Rattle.of_types.specs.declared.message.Outcome.TheVariants as outcome
use Rattle.of_ravana.specs.Canonical.{happening_message, order_message}
use Rattle.of_ravana.specs.Grammar.{SpellsInner, IsFront, IsEvent, IsThrough, IsCommand, SpellsOutcome, IsCmdAck, SpellsExtension}
use Rattle.of_ravana.specs.Reading.{inner_at, told_types, held_types, happening_at, order_at, extension_event_at, through_at, extension_command_at, outcome_at, cmd_ack_at, extension_body_at, extension_at}

inner_again : (types : List ℕ) (wrong : Refusal) (bytes : List ℕ) (m : OfMessage) → SpellsInner bytes m → list_any (λ kind. eqb kind (plain_type m)) types ≡ true
    → inner_at types wrong bytes ≡ Ok m
unfolding inner_at
inner_again types wrong bytes m s right =
    let there = s.1.there in
    rw (le-ltb (length bytes) 4 (omega arith), s.1.length_is, eq-eqb (length bytes) (length bytes) refl, s.1.kind_is, right) (message_again bytes s.0 m s.1)

happening_again : (bytes : List ℕ) (what : Happening) → SpellsInner bytes (happening_message what) → happening_at bytes ≡ Ok what
unfolding happening_at
happening_again bytes (happening.PacketIn p) s = rw (inner_again told_types BAD_TYPE bytes (plain.PacketIn p) s refl) refl
happening_again bytes (happening.FlowRemoved r) s = rw (inner_again told_types BAD_TYPE bytes (plain.FlowRemoved r) s refl) refl
happening_again bytes (happening.PortStatus p) s = rw (inner_again told_types BAD_TYPE bytes (plain.PortStatus p) s refl) refl

order_again : (bytes : List ℕ) (what : Order) → SpellsInner bytes (order_message what) → order_at bytes ≡ Ok what
unfolding order_at
order_again bytes (order.FlowMod c) s = rw (inner_again held_types NOT_PERMITTED bytes (plain.FlowMod c) s refl) refl
order_again bytes (order.PacketOut p) s = rw (inner_again held_types NOT_PERMITTED bytes (plain.PacketOut p) s refl) refl

event_again : (body : List ℕ) (life event : ℕ) (what : Happening) → IsEvent body life event what → extension_event_at body ≡ Ok (extension.Event life event what)
unfolding extension_event_at
event_again body life event what s =
    rw (le-ltb (length body) 24 s.there, happening_again (drop 24 body) what s.inner, s.front.life_is, s.event_is) refl

through_again : (body : List ℕ) (kind life through : ℕ) → IsThrough body kind life through → through_at body ≡ Ok (life, through)
unfolding through_at
through_again body kind life through s = rw (s.whole, s.front.life_is, s.through_is) refl

command_again : (body : List ℕ) (life generation command settled : ℕ) (what : Order) → IsCommand body life generation command settled what
    → extension_command_at body ≡ Ok (extension.Command life generation command settled what)
unfolding extension_command_at
command_again body life generation command settled what s =
    rw (le-ltb (length body) 40 s.there, order_again (drop 40 body) what s.inner, s.front.life_is, s.generation_is, s.command_is, s.settled_is) refl

outcome_again : (body : List ℕ) (result : Outcome) → SpellsOutcome body result → outcome_at body ≡ Ok result
unfolding outcome_at
outcome_again body outcome.Done s = rw s refl
outcome_again body (outcome.Failed kind code) s = rw (s.0, s.1, s.2) refl
outcome_again body outcome.Cleared s = rw s refl

cmd_ack_again : (body : List ℕ) (life command : ℕ) (result : Outcome) → IsCmdAck body life command result → cmd_ack_at body ≡ Ok (extension.CmdAck life command result)
unfolding cmd_ack_at
cmd_ack_again body life command result s = rw (s.whole, outcome_again body result s.outcome, s.front.life_is, s.command_is) refl

front_again : (body : List ℕ) (kind life : ℕ) (said : Extension) → IsFront body kind life → extension_body_at kind body ≡ Ok said → extension_at body ≡ Ok said
unfolding extension_at
front_again body kind life said f e =
    let there = f.there in
    rw (le-ltb (length body) 8 (omega arith), f.experimenter_is, f.kind_is) e

pub extension_again : (body : List ℕ) (said : Extension) → SpellsExtension body said → extension_at body ≡ Ok said
unfolding extension_body_at
extension_again body (extension.Event life event what) s =
    front_again body 1 life (extension.Event life event what) s.front (event_again body life event what s)
extension_again body (extension.EventAck life through) s =
    front_again body 2 life (extension.EventAck life through) s.front (rw (through_again body 2 life through s) refl)
extension_again body (extension.Command life generation command settled what) s =
    front_again body 3 life (extension.Command life generation command settled what) s.front (command_again body life generation command settled what s)
extension_again body (extension.CmdAck life command result) s =
    front_again body 4 life (extension.CmdAck life command result) s.front (cmd_ack_again body life command result s)
extension_again body (extension.Clear life through) s =
    front_again body 5 life (extension.Clear life through) s.front (rw (through_again body 5 life through s) refl)
