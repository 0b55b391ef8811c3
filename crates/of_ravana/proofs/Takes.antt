-- What is read was spelled.
use Rattle.std.proofs.Common.{◌≡◌, ℕ, ◌≤◌, Bool, true, false, cond, not, eqb, ltb, List, [], ◌∷◌, length, drop, Result, Ok, Err, refl, sym, ap, subst, arith}
use Rattle.std.specs.Prelude.{◌||◌}
use Rattle.std.specs.List.{list_any}
use Rattle.std.proofs.lemmas.Bool.{ltb-false, eqb-true}
use Rattle.of_bytes.specs.Numbers.{number}
use Rattle.of_bytes.specs.Reading.{◌>>=◌}
use Rattle.of_bytes.proofs.Bytes.{IsBytes, IsBytes-drop}
use Rattle.of_bytes.proofs.Steps.{bind_ok, passed, ok_is}
use Rattle.of_types.specs.declared.refusal.Refusal.{Refusal}
use Rattle.of_types.specs.declared.refusal.TheConstants.{BAD_EXPERIMENTER, BAD_LENGTH, BAD_TYPE, NOT_PERMITTED}
use Rattle.of_messages.specs.Reading.{message_at, xid_of}
use Rattle.of_messages.proofs.ActionsTaken.{same, after_one}
use Rattle.of_messages.proofs.Takes.{message_takes}
use Rattle.of_types.specs.declared.message.Extension.{Extension}
use Rattle.of_types.specs.declared.message.Extension.TheVariants as extension
use Rattle.of_types.specs.declared.message.Happening.{Happening}
use Rattle.of_types.specs.declared.message.Happening.TheVariants as happening
use Rattle.of_types.specs.declared.message.OfMessage.{OfMessage}
use Rattle.of_types.specs.declared.message.OfMessage.TheVariants as plain
use Rattle.of_types.specs.declared.message.Order.{Order}
use Rattle.of_types.specs.declared.message.Order.TheVariants as order
use Rattle.of_types.specs.declared.message.Outcome.{Outcome}
use Rattle.of_types.specs.declared.message.Outcome.TheVariants as outcome
use Rattle.of_ravana.specs.Canonical.{happening_message, order_message}
use Rattle.of_types.specs.declared.numbers.TheConstants.{RAVANA}
use Rattle.of_ravana.specs.Grammar.{SpellsInner, IsFront, IsEvent, IsThrough, IsCommand, SpellsOutcome, IsCmdAck, SpellsExtension}
use Rattle.of_ravana.specs.Reading.{inner_at, told_types, held_types, as_happening, as_order, happening_at, order_at, extension_event_at, through_at, extension_command_at, outcome_at, cmd_ack_at, beside_extension, extension_bodies_at, extension_body_at, extension_at}

inner_takes : (types : List ℕ) (wrong : Refusal) (bytes : List ℕ) (m : OfMessage) → IsBytes bytes → inner_at types wrong bytes ≡ Ok m → SpellsInner bytes m
unfolding inner_at
inner_takes types wrong bytes m fits e =
    let unknown = not (list_any (λ kind. eqb kind (number 1 1 bytes)) types) in
    let p = passed (ltb (length bytes) 4 || not (eqb (number 2 2 bytes) (length bytes))) BAD_LENGTH (cond unknown (Err wrong) (message_at bytes)) m e in
    let q = passed unknown wrong (message_at bytes) m p.1 in
    (xid_of bytes, message_takes bytes m fits q.1)

pub is_happening : (m : OfMessage) (what : Happening) → as_happening m ≡ Ok what → m ≡ happening_message what
is_happening plain.Hello what e = absurd cc
is_happening (plain.Error k c h) what e = absurd cc
is_happening (plain.EchoRequest b) what e = absurd cc
is_happening (plain.EchoReply b) what e = absurd cc
is_happening (plain.Experimenter b) what e = absurd cc
is_happening plain.FeaturesRequest what e = absurd cc
is_happening (plain.FeaturesReply d) what e = absurd cc
is_happening (plain.PacketIn p) what e = ap happening_message (ok_is Refusal (happening.PacketIn p) what e)
is_happening (plain.FlowRemoved r) what e = ap happening_message (ok_is Refusal (happening.FlowRemoved r) what e)
is_happening (plain.PortStatus p) what e = ap happening_message (ok_is Refusal (happening.PortStatus p) what e)
is_happening (plain.PacketOut p) what e = absurd cc
is_happening (plain.FlowMod f) what e = absurd cc
is_happening plain.BarrierRequest what e = absurd cc
is_happening plain.BarrierReply what e = absurd cc
is_happening (plain.RoleRequest r g) what e = absurd cc
is_happening (plain.RoleReply r g) what e = absurd cc

is_order : (m : OfMessage) (what : Order) → as_order m ≡ Ok what → m ≡ order_message what
is_order plain.Hello what e = absurd cc
is_order (plain.Error k c h) what e = absurd cc
is_order (plain.EchoRequest b) what e = absurd cc
is_order (plain.EchoReply b) what e = absurd cc
is_order (plain.Experimenter b) what e = absurd cc
is_order plain.FeaturesRequest what e = absurd cc
is_order (plain.FeaturesReply d) what e = absurd cc
is_order (plain.PacketIn p) what e = absurd cc
is_order (plain.FlowRemoved r) what e = absurd cc
is_order (plain.PortStatus p) what e = absurd cc
is_order (plain.PacketOut p) what e = ap order_message (ok_is Refusal (order.PacketOut p) what e)
is_order (plain.FlowMod f) what e = ap order_message (ok_is Refusal (order.FlowMod f) what e)
is_order plain.BarrierRequest what e = absurd cc
is_order plain.BarrierReply what e = absurd cc
is_order (plain.RoleRequest r g) what e = absurd cc
is_order (plain.RoleReply r g) what e = absurd cc

happening_takes : (bytes : List ℕ) (what : Happening) → IsBytes bytes → happening_at bytes ≡ Ok what → SpellsInner bytes (happening_message what)
unfolding happening_at
happening_takes bytes what fits e =
    let a = bind_ok (inner_at told_types BAD_TYPE bytes) as_happening what e in
    subst (λ (m : OfMessage). SpellsInner bytes m) (is_happening a.0 what a.2) (inner_takes told_types BAD_TYPE bytes a.0 fits a.1)

order_takes : (bytes : List ℕ) (what : Order) → IsBytes bytes → order_at bytes ≡ Ok what → SpellsInner bytes (order_message what)
unfolding order_at
order_takes bytes what fits e =
    let a = bind_ok (inner_at held_types NOT_PERMITTED bytes) as_order what e in
    subst (λ (m : OfMessage). SpellsInner bytes m) (is_order a.0 what a.2) (inner_takes held_types NOT_PERMITTED bytes a.0 fits a.1)

-- ---- bodies

-- A body behind the number of Ravana and of this type spells the message.
abbrev IsBody : ℕ → List ℕ → Extension → Type 0
IsBody kind body said = number 4 0 body ≡ RAVANA → number 4 4 body ≡ kind → SpellsExtension body said

front : (body : List ℕ) (kind : ℕ) → number 4 0 body ≡ RAVANA → number 4 4 body ≡ kind → 16 ≤ length body → IsFront body kind (number 4 8 body)
front body kind r k there = record { there = there; experimenter_is = r; kind_is = k; life_is = refl }

event_takes : (body : List ℕ) (said : Extension) → IsBytes body → extension_event_at body ≡ Ok said → IsBody 1 body said
unfolding extension_event_at
event_takes body said fits e r k =
    let make : Happening → Extension = λ what. extension.Event (number 4 8 body) (number 8 16 body) what in
    let a = passed (ltb (length body) 24) BAD_LENGTH (happening_at (drop 24 body) >>= λ what. Ok (make what)) said e in
    let b = bind_ok (happening_at (drop 24 body)) (λ what. Ok (make what)) said a.1 in
    let there : 24 ≤ length body = ltb-false (length body) 24 a.0 in
    let made : IsEvent body (number 4 8 body) (number 8 16 body) b.0 = record {
      front = front body 1 r k (omega arith);
      there = there;
      event_is = refl;
      inner = happening_takes (drop 24 body) b.0 (IsBytes-drop 24 body fits) b.1;
    } in
    subst (λ (x : Extension). SpellsExtension body x) (ok_is Refusal (make b.0) said b.2) made

abbrev two_numbers : ℕ → ℕ → ℕ × ℕ
two_numbers a b = (a, b)

through_takes : (body : List ℕ) (kind : ℕ) (x : ℕ × ℕ) → number 4 0 body ≡ RAVANA → number 4 4 body ≡ kind → through_at body ≡ Ok x → IsThrough body kind x.0 x.1
unfolding through_at
through_takes body kind x r k e =
    let p = after_one (not (eqb (length body) 24)) BAD_LENGTH (two_numbers (number 4 8 body) (number 8 16 body)) x e in
    let whole : length body ≡ 24 = same (length body) 24 p.0 in
    let made : IsThrough body kind (number 4 8 body) (number 8 16 body) = record { front = front body kind r k (omega arith); whole = whole; through_is = refl } in
    subst (λ (y : ℕ × ℕ). IsThrough body kind y.0 y.1) p.1 made

command_takes : (body : List ℕ) (said : Extension) → IsBytes body → extension_command_at body ≡ Ok said → IsBody 3 body said
unfolding extension_command_at
command_takes body said fits e r k =
    let make : Order → Extension = λ what. extension.Command (number 4 8 body) (number 8 16 body) (number 8 24 body) (number 8 32 body) what in
    let a = passed (ltb (length body) 40) BAD_LENGTH (order_at (drop 40 body) >>= λ what. Ok (make what)) said e in
    let b = bind_ok (order_at (drop 40 body)) (λ what. Ok (make what)) said a.1 in
    let there : 40 ≤ length body = ltb-false (length body) 40 a.0 in
    let made : IsCommand body (number 4 8 body) (number 8 16 body) (number 8 24 body) (number 8 32 body) b.0 = record {
      front = front body 3 r k (omega arith);
      there = there;
      generation_is = refl;
      command_is = refl;
      settled_is = refl;
      inner = order_takes (drop 40 body) b.0 (IsBytes-drop 40 body fits) b.1;
    } in
    subst (λ (x : Extension). SpellsExtension body x) (ok_is Refusal (make b.0) said b.2) made

-- one status of three
outcome_takes : (body : List ℕ) (result : Outcome) → outcome_at body ≡ Ok result → SpellsOutcome body result
unfolding outcome_at
outcome_takes body result e = done (eqb (number 2 24 body) 0) refl e
  where
    cleared : (b : Bool) → eqb (number 2 24 body) 2 ≡ b → cond b (Ok outcome.Cleared) (Err BAD_LENGTH) ≡ Ok result → SpellsOutcome body result
    cleared true h e = subst (λ (x : Outcome). SpellsOutcome body x) (ok_is Refusal outcome.Cleared result e) (eqb-true (number 2 24 body) 2 h)
    cleared false h e = absurd cc

    failed : (b : Bool) → eqb (number 2 24 body) 1 ≡ b → cond b (Ok (outcome.Failed (number 2 26 body) (number 2 28 body))) (cond (eqb (number 2 24 body) 2) (Ok outcome.Cleared) (Err BAD_LENGTH)) ≡ Ok result → SpellsOutcome body result
    failed true h e = subst (λ (x : Outcome). SpellsOutcome body x) (ok_is Refusal (outcome.Failed (number 2 26 body) (number 2 28 body)) result e) (eqb-true (number 2 24 body) 1 h, refl, refl)
    failed false h e = cleared (eqb (number 2 24 body) 2) refl e

    done : (b : Bool) → eqb (number 2 24 body) 0 ≡ b → cond b (Ok outcome.Done) (cond (eqb (number 2 24 body) 1) (Ok (outcome.Failed (number 2 26 body) (number 2 28 body))) (cond (eqb (number 2 24 body) 2) (Ok outcome.Cleared) (Err BAD_LENGTH))) ≡ Ok result → SpellsOutcome body result
    done true h e = subst (λ (x : Outcome). SpellsOutcome body x) (ok_is Refusal outcome.Done result e) (eqb-true (number 2 24 body) 0 h)
    done false h e = failed (eqb (number 2 24 body) 1) refl e

cmd_ack_takes : (body : List ℕ) (said : Extension) → cmd_ack_at body ≡ Ok said → IsBody 4 body said
unfolding cmd_ack_at
cmd_ack_takes body said e r k =
    let make : Outcome → Extension = λ result. extension.CmdAck (number 4 8 body) (number 8 16 body) result in
    let a = passed (not (eqb (length body) 32)) BAD_LENGTH (outcome_at body >>= λ result. Ok (make result)) said e in
    let b = bind_ok (outcome_at body) (λ result. Ok (make result)) said a.1 in
    let whole : length body ≡ 32 = same (length body) 32 a.0 in
    let made : IsCmdAck body (number 4 8 body) (number 8 16 body) b.0 = record {
      front = front body 4 r k (omega arith);
      whole = whole;
      command_is = refl;
      outcome = outcome_takes body b.0 b.1;
    } in
    subst (λ (x : Extension). SpellsExtension body x) (ok_is Refusal (make b.0) said b.2) made

-- ---- the table of types

-- Each row that gave the message gave a body of its type.
abbrev AreBodies : List (ℕ × Result Extension Refusal) → List ℕ → Extension → Type 0
AreBodies [] body said = Unit {0}
AreBodies (row ∷ rows) body said = (row.1 ≡ Ok said → IsBody row.0 body said) × AreBodies rows body said

beside_step : (kind : ℕ) (row : ℕ × Result Extension Refusal) (rest : Result Extension Refusal) (body : List ℕ) (said : Extension) (b : Bool) → eqb kind row.0 ≡ b
    → (row.1 ≡ Ok said → IsBody row.0 body said) → (rest ≡ Ok said → IsBody kind body said) → cond b row.1 rest ≡ Ok said → IsBody kind body said
beside_step kind row rest body said true e this more h = subst (λ (n : ℕ). IsBody n body said) (sym (eqb-true kind row.0 e)) (this h)
beside_step kind row rest body said false e this more h = more h

beside_takes : (kind : ℕ) (rows : List (ℕ × Result Extension Refusal)) (body : List ℕ) (said : Extension) → AreBodies rows body said → beside_extension kind rows ≡ Ok said → IsBody kind body said
beside_takes kind [] body said all e = absurd cc
beside_takes kind (row ∷ rows) body said all e = beside_step kind row (beside_extension kind rows) body said (eqb kind row.0) refl all.0 (beside_takes kind rows body said all.1) e

event_ack_takes : (body : List ℕ) (said : Extension) → (through_at body >>= λ x. Ok (extension.EventAck x.0 x.1)) ≡ Ok said → IsBody 2 body said
event_ack_takes body said e r k =
    let a = bind_ok (through_at body) (λ x. Ok (extension.EventAck x.0 x.1)) said e in
    subst (λ (x : Extension). SpellsExtension body x) (ok_is Refusal (extension.EventAck a.0.0 a.0.1) said a.2) (through_takes body 2 a.0 r k a.1)

clear_takes : (body : List ℕ) (said : Extension) → (through_at body >>= λ x. Ok (extension.Clear x.0 x.1)) ≡ Ok said → IsBody 5 body said
clear_takes body said e r k =
    let a = bind_ok (through_at body) (λ x. Ok (extension.Clear x.0 x.1)) said e in
    subst (λ (x : Extension). SpellsExtension body x) (ok_is Refusal (extension.Clear a.0.0 a.0.1) said a.2) (through_takes body 5 a.0 r k a.1)

rows_take : (body : List ℕ) (said : Extension) → IsBytes body → AreBodies (extension_bodies_at body) body said
rows_take body said fits = (
  event_takes body said fits,
  (
    event_ack_takes body said,
    (
      command_takes body said fits,
      (
        cmd_ack_takes body said,
        (
          clear_takes body said,
          tt,
        ),
      ),
    ),
  ),
)

body_takes : (kind : ℕ) (body : List ℕ) (said : Extension) → IsBytes body → extension_body_at kind body ≡ Ok said → IsBody kind body said
unfolding extension_body_at
body_takes kind body said fits e = beside_takes kind (extension_bodies_at body) body said (rows_take body said fits) e

pub extension_takes : (body : List ℕ) (said : Extension) → IsBytes body → extension_at body ≡ Ok said → SpellsExtension body said
unfolding extension_at
extension_takes body said fits e =
    let stranger = not (eqb (number 4 0 body) RAVANA) in
    let read = extension_body_at (number 4 4 body) body in
    let p = passed (ltb (length body) 8) BAD_LENGTH (cond stranger (Err BAD_EXPERIMENTER) read) said e in
    let q = passed stranger BAD_EXPERIMENTER read said p.1 in
    body_takes (number 4 4 body) body said fits q.1 (same (number 4 0 body) RAVANA q.0) refl
