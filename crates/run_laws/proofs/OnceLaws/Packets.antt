-- What stands in the pool was posted, and says what was sealed.
use Rattle.std.proofs.Common.{◌≡◌, ◌≤◌, ◌<◌, ℕ, List, length, refl, sym, ◌∙◌, ap, subst, arith}
use Rattle.std.specs.Prelude.{nat_le}
use Rattle.std.proofs.lemmas.Bool.{and_parts, leb-true}
use Rattle.of_types.specs.declared.message.Extension.TheVariants as extension
use Rattle.of_types.specs.declared.message.Happening.{Happening}
use Rattle.of_types.specs.declared.message.Happening.TheVariants as happening
use Rattle.of_types.specs.declared.message.Event.{Event}
use Rattle.of_types.specs.declared.message.Executed.{Executed}
use Rattle.of_types.specs.declared.message.OfMessage.TheVariants as plain
use Rattle.of_types.specs.declared.message.Spoken.{Spoken}
use Rattle.of_types.specs.declared.message.Spoken.TheVariants as spoken
use Rattle.of_types.specs.declared.setup.Setup.{Setup}
use Rattle.of_types.specs.Sizes.{happening_size}
use Rattle.of_types.specs.Valid.{IsValidHappening}
use Rattle.of_types.proofs.SmallMatches.{small_match}
use Rattle.journal.specs.declared.journal.Actor.{Actor}
use Rattle.journal.specs.declared.journal.Actor.TheVariants as actor
use Rattle.journal.specs.declared.journal.Letter.{Letter}
use Rattle.journal.specs.declared.journal.Packet.{Packet}
use Rattle.list_facts.proofs.Elements.{all_of, in_map}
use Rattle.list_facts.specs.Lists.{IsIn}
use Rattle.of_switch.specs.declared.says.SwitchSays.{SwitchSays}
use Rattle.group_controller.specs.declared.messages.ControllerSays.{ControllerSays}
use Rattle.run_spec.specs.declared.messages.Message.{Message}
use Rattle.run_spec.specs.declared.messages.Message.TheVariants as message
use Rattle.run_spec.specs.declared.messages.Unsealed.{Unsealed}
use Rattle.run_spec.specs.declared.messages.Unsealed.TheVariants as unsealed
use Rattle.run_spec.specs.declared.messages.Way.{Way}
use Rattle.run_spec.proofs.Pools.{IsPosted}
use Rattle.run_spec.specs.Legal.{AreTyped}
use Rattle.run_spec.specs.Messages.{IsValidMessage, FitsMessage, way_of, way_of_message}
use Rattle.run_spec.specs.States.{Sealing, content, switch_hears, controller_hears, sealed_letters, switch_message, controller_message}
use Rattle.run_laws.specs.OnceLaws.Facts.{PastFacts}
use Rattle.run_laws.specs.OnceLaws.Truths.{IsGoodHappening, MayTell, IsReported}
use Rattle.run_spec.specs.States.{IsFaithful}
use Rattle.run_laws.specs.OnceLaws.Invariant.{IsReport, Reported, Forwarded, IsOrder, ToSwitch, ToMember, IsTrueBetween, IsHeardBySwitch, IsHeardByController}

-- what a switch hears from a packet to it
pub heard_by_switch : (kinds : List ℕ) (setup : Setup) (f : PastFacts) (s : ℕ) (from to : Actor) (u : Unsealed) → to ≡ actor.Switch s → IsTrueBetween kinds setup f from to u →
    IsHeardBySwitch kinds setup f s (switch_hears from u)
heard_by_switch kinds setup f s (actor.Controller c) (actor.Switch t) (unsealed.Message (message.Of xid m)) is h =
    let same : t ≡ s = cc in subst (λ (k : ℕ). MayTell kinds setup f c k m) same h
heard_by_switch kinds setup f s (actor.Controller c) (actor.Controller d) (unsealed.Message (message.Vr m)) is h = absurd cc
heard_by_switch kinds setup f s (actor.Switch t) (actor.Controller c) (unsealed.Message (message.Of xid m)) is h = absurd cc
heard_by_switch kinds setup f s (actor.Switch t) (actor.Switch v) (unsealed.Message (message.Frame port frame)) is h = h
heard_by_switch kinds setup f s from to u is h = absurd h

pub heard_by_controller : (kinds : List ℕ) (setup : Setup) (f : PastFacts) (c : ℕ) (from to : Actor) (u : Unsealed) → to ≡ actor.Controller c → IsTrueBetween kinds setup f from to u →
    IsHeardByController kinds setup f (controller_hears from u)
heard_by_controller kinds setup f c (actor.Controller d) (actor.Switch t) (unsealed.Message (message.Of xid m)) is h = absurd cc
heard_by_controller kinds setup f c (actor.Controller d) (actor.Controller b) (unsealed.Message (message.Vr m)) is h = h
heard_by_controller kinds setup f c (actor.Switch t) (actor.Controller d) (unsealed.Message (message.Of xid m)) is h = h
heard_by_controller kinds setup f c (actor.Switch t) (actor.Switch v) (unsealed.Message (message.Frame port frame)) is h = absurd cc
heard_by_controller kinds setup f c from to u is h = absurd h

pub happening_short : (what : Happening) → IsGoodHappening what → happening_size what ≤ 60000
happening_short (happening.PacketIn p) good = let short : length p.payload ≤ 1514 = leb-true (length p.payload) 1514 (and_parts (nat_le 14 (length p.payload)) (nat_le (length p.payload) 1514) good.0).1 in omega arith
happening_short (happening.PortStatus p) good = omega arith
happening_short (happening.FlowRemoved r) good = omega (arith, small_match r.matching)

-- what a switch tells of can be spelled
pub happening_valid : (what : Happening) → IsGoodHappening what → IsValidHappening what
happening_valid (happening.PacketIn p) good = tt
happening_valid (happening.PortStatus p) good = tt
happening_valid (happening.FlowRemoved r) good = good

-- what is told and reported can be spelled
pub reported_valid : (s : ℕ) (events : List Event) (executed : List Executed) (xid : ℕ) (m : Spoken) → IsReported s events executed m → IsValidMessage (message.Of xid m)
reported_valid s events executed xid (spoken.Plain plain.Hello) h = (tt, omega arith)
reported_valid s events executed xid (spoken.Plain (plain.RoleReply role generation)) h = (tt, omega arith)
reported_valid s events executed xid (spoken.Plain (plain.Error kind code head)) h = (tt, omega (arith, ap (λ (l : List ℕ). length l) h))
reported_valid s events executed xid (spoken.Ravana (extension.Event life number what)) h = (happening_valid what h.1, omega (arith, happening_short what h.1))
reported_valid s events executed xid (spoken.Ravana (extension.CmdAck life number result)) h = (tt, omega arith)
reported_valid s events executed xid _ h = absurd h

pub told_valid : (kinds : List ℕ) (setup : Setup) (f : PastFacts) (c s xid : ℕ) (m : Spoken) → MayTell kinds setup f c s m → IsValidMessage (message.Of xid m)
told_valid kinds setup f c s xid (spoken.Plain (plain.RoleRequest role generation)) h = (tt, omega arith)
told_valid kinds setup f c s xid (spoken.Ravana (extension.Command life generation number settled what)) h = h.2
told_valid kinds setup f c s xid (spoken.Ravana (extension.EventAck life through)) h = (tt, omega arith)
told_valid kinds setup f c s xid (spoken.Ravana (extension.Clear life through)) h = (tt, omega arith)
told_valid kinds setup f c s xid _ h = absurd h

module _ {B : Type 0} (sealing : Sealing B) (faithful : IsFaithful sealing) (kinds : List ℕ) (setup : Setup) (f : PastFacts) (p : Packet B) where
  -- the content of a packet, by what was sealed
  between : (from to : Actor) (m : Message) → p.from ≡ from → p.to ≡ to → p.body ≡ sealing.sealed m → IsValidMessage m → FitsMessage m → way_of from to ≡ way_of_message m →
      IsTrueBetween kinds setup f from to (unsealed.Message m) → IsTrueBetween kinds setup f p.from p.to (content sealing p)
  between from to m f_is t_is b_is valid typed ways h =
      let says : sealing.spelled (way_of from to) (sealing.sealed m) ≡ unsealed.Message m = ap (λ (w : Way). sealing.spelled w (sealing.sealed m)) ways ∙ faithful m valid typed in
      rw (f_is, t_is, b_is) (subst (λ (u : Unsealed). IsTrueBetween kinds setup f from to u) (sym says) h)

  reported_packet : (s : ℕ) → s < length setup.ports → (l : Letter SwitchSays) → IsReport s (f.events s) (f.executed s) l → FitsMessage (switch_message l.body) → p.from ≡ actor.Switch s → p.to ≡ l.to → p.body ≡ sealing.sealed (switch_message l.body) →
      IsTrueBetween kinds setup f p.from p.to (content sealing p)
  reported_packet s there l (Reported c xid said is h) typed from_is to_is body_is =
      between (actor.Switch s) (actor.Controller c) (message.Of xid said) from_is (to_is ∙ ap (λ (y : Letter SwitchSays). y.to) is) (body_is ∙ ap (λ (y : Letter SwitchSays). sealing.sealed (switch_message y.body)) is)
      (reported_valid s (f.events s) (f.executed s) xid said h) (subst (λ (y : Letter SwitchSays). FitsMessage (switch_message y.body)) is typed) refl (there, h)
  reported_packet s there l (Forwarded peer port frame is good) typed from_is to_is body_is =
      let both = and_parts (nat_le 14 (length frame)) (nat_le (length frame) 1514) good.0 in
      between (actor.Switch s) (actor.Switch peer) (message.Frame port frame) from_is (to_is ∙ ap (λ (y : Letter SwitchSays). y.to) is) (body_is ∙ ap (λ (y : Letter SwitchSays). sealing.sealed (switch_message y.body)) is)
      (leb-true 14 (length frame) both.0, leb-true (length frame) 1514 both.1) (subst (λ (y : Letter SwitchSays). FitsMessage (switch_message y.body)) is typed) refl good

  -- a packet that a switch posted
  pub switch_packet : (s : ℕ) → s < length setup.ports → (owed : List (Letter SwitchSays)) → AreTyped switch_message owed → ((l : Letter SwitchSays) → IsIn l owed → IsReport s (f.events s) (f.executed s) l) →
      IsPosted (actor.Switch s) (sealed_letters switch_message sealing owed) p → IsTrueBetween kinds setup f p.from p.to (content sealing p)
  switch_packet s there owed typed all posted =
      let r = in_map (λ (l : Letter SwitchSays). record { to = l.to; body = sealing.sealed (switch_message l.body) }) owed posted.letter posted.among in
      reported_packet s there r.0 (all r.0 r.1) (all_of (λ (l : Letter SwitchSays). FitsMessage (switch_message l.body)) owed r.0 typed r.1) posted.from_is (posted.to_is ∙ ap (λ (l : Letter B). l.to) r.2) (posted.body_is ∙ ap (λ (l : Letter B). l.body) r.2)

  ordered_packet : (c : ℕ) (l : Letter ControllerSays) → IsOrder kinds setup f c l → FitsMessage (controller_message l.body) → p.from ≡ actor.Controller c → p.to ≡ l.to → p.body ≡ sealing.sealed (controller_message l.body) →
      IsTrueBetween kinds setup f p.from p.to (content sealing p)
  ordered_packet c l (ToSwitch s xid said is h) typed from_is to_is body_is =
      between (actor.Controller c) (actor.Switch s) (message.Of xid said) from_is (to_is ∙ ap (λ (y : Letter ControllerSays). y.to) is) (body_is ∙ ap (λ (y : Letter ControllerSays). sealing.sealed (controller_message y.body)) is)
      (told_valid kinds setup f c s xid said h) (subst (λ (y : Letter ControllerSays). FitsMessage (controller_message y.body)) is typed) refl h
  ordered_packet c l (ToMember d m is h) typed from_is to_is body_is =
      between (actor.Controller c) (actor.Controller d) (message.Vr m) from_is (to_is ∙ ap (λ (y : Letter ControllerSays). y.to) is) (body_is ∙ ap (λ (y : Letter ControllerSays). sealing.sealed (controller_message y.body)) is)
      h.spelled (subst (λ (y : Letter ControllerSays). FitsMessage (controller_message y.body)) is typed) refl (h, subst (λ (y : Letter ControllerSays). FitsMessage (controller_message y.body)) is typed)

  pub controller_packet : (c : ℕ) (owed : List (Letter ControllerSays)) → AreTyped controller_message owed → ((l : Letter ControllerSays) → IsIn l owed → IsOrder kinds setup f c l) →
      IsPosted (actor.Controller c) (sealed_letters controller_message sealing owed) p → IsTrueBetween kinds setup f p.from p.to (content sealing p)
  controller_packet c owed typed all posted =
      let r = in_map (λ (l : Letter ControllerSays). record { to = l.to; body = sealing.sealed (controller_message l.body) }) owed posted.letter posted.among in
      ordered_packet c r.0 (all r.0 r.1) (all_of (λ (l : Letter ControllerSays). FitsMessage (controller_message l.body)) owed r.0 typed r.1) posted.from_is (posted.to_is ∙ ap (λ (l : Letter B). l.to) r.2) (posted.body_is ∙ ap (λ (l : Letter B). l.body) r.2)
