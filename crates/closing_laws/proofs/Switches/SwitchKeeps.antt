-- A turn of a switch that draws what its primary said next: it is served as before.
use Rattle.std.proofs.Common.{◌≡◌, ◌≤◌, ◌<◌, ◌⊎◌, ℕ, ◌+◌, ◌^◌, Bool, List, [], ◌∷◌, ◌++◌, filter, refl, sym, ◌∙◌, ap, subst, arith, inl, inr, append-nil}
use Rattle.std.specs.Prelude.{nat_eq, if◌then◌else◌}
use Rattle.std.proofs.lemmas.Bool.{cond_both, eqb-false, eqb-true}
use Rattle.of_types.specs.declared.message.Event.{Event}
use Rattle.of_types.specs.declared.message.Extension.{Extension}
use Rattle.of_types.specs.declared.message.Extension.TheVariants as extension
use Rattle.of_types.specs.declared.message.Order.{Order}
use Rattle.of_types.specs.declared.message.Spoken.{Spoken}
use Rattle.of_types.specs.declared.message.Spoken.TheVariants as spoken
use Rattle.of_types.specs.declared.setup.Setup.{Setup}
use Rattle.journal.specs.declared.journal.Actor.TheVariants as actor
use Rattle.journal.specs.declared.journal.Letter.{Letter}
use Rattle.list_facts.specs.Lists.{IsIn}
use Rattle.list_facts.proofs.Elements.{in_append}
use Rattle.dispatcher.specs.Ledger.{most_commands}
use Rattle.event_buffer.specs.Buffer.{Buffer}
use Rattle.group_controller.specs.State.{ControllerState}
use Rattle.of_switch.specs.declared.says.SwitchInput.TheVariants as switch_input
use Rattle.of_switch.specs.declared.says.SwitchSays.{SwitchSays}
use Rattle.of_switch.specs.State.{SwitchState, SwitchTurn, events_in, life_of, own_number_of, quiet_switch}
use Rattle.of_switch.specs.Events.{first_held, on_event_ack}
use Rattle.of_switch.specs.Commands.{letter_of_result, on_command, settled}
use Rattle.of_switch.specs.Rules.{switch_turn}
use Rattle.run_spec.specs.declared.messages.Message.{Message}
use Rattle.run_spec.specs.declared.messages.Message.TheVariants as message
use Rattle.run_spec.specs.declared.messages.Unsealed.TheVariants as unsealed
use Rattle.run_spec.specs.States.{switch_hears, switch_message}
use Rattle.closing_laws.specs.Serving.{Acknowledges, Asks, Clears, Commands, IsSaidBy, IsAttended, IsTrueOf, acknowledges_events, asks_role, commands_said, is_request}
use Rattle.closing_laws.specs.Ways.{told_to}
use Rattle.closing_laws.proofs.Switches.AckTurns.{acked}
use Rattle.closing_laws.proofs.Switches.CommandTurns.{commanded}
use Rattle.closing_laws.proofs.Switches.Saying.{count_cons, events_to}
use Rattle.closing_laws.proofs.Switches.Served.{silent_keeps}
use Rattle.closing_laws.proofs.Switches.SwitchAcked.{acked_keeps}
use Rattle.closing_laws.proofs.Switches.SwitchAsked.{asked_is, asked_keeps}
use Rattle.closing_laws.proofs.Switches.SwitchCommanded.{commanded_keeps, is_commanded, late}

-- its letters go to the primary, or to switches
abbrev pub GoesOut : ℕ → List (Letter SwitchSays) → Type 0
GoesOut c letters = (l : Letter SwitchSays) → IsIn l letters → (l.to ≡ actor.Controller c) ⊎ ((t : ℕ) × (l.to ≡ actor.Switch t))

-- what a turn leaves
pub record Leaves (kinds : List ℕ) (setup : Setup) (c : ControllerState) (s : ℕ) (sw : SwitchState) (out in_ : List Message) (turn : SwitchTurn) : Type 0 where
  pub life : life_of turn.state ≡ life_of sw
  pub number : own_number_of turn.state ≡ own_number_of sw
  pub cleared : sw.buffer.cleared ≤ turn.state.buffer.cleared
  pub more : List Event
  pub events : events_in turn.state (life_of sw) ≡ events_in sw (life_of sw) ++ more
  pub served : IsAttended kinds setup c s turn.state out (in_ ++ told_to switch_message (actor.Controller c.vr.me) turn.letters)
  pub letters : GoesOut c.vr.me turn.letters

module _ (kinds : List ℕ) (setup : Setup) (c : ControllerState) (s : ℕ) (sw : SwitchState) (small : c.vr.view < 2 ^ 32) (is_true : IsTrueOf kinds setup c s sw) (out in_ : List Message) where
  abbrev Keeps : SwitchTurn → Type 0
  Keeps turn = IsTrueOf kinds setup c s turn.state → Leaves kinds setup c s sw out in_ turn

  abbrev turn_on : Message → SwitchTurn
  turn_on m = switch_turn sw (switch_hears (actor.Controller c.vr.me) (unsealed.Message m))

  asks : IsAttended kinds setup c s sw (asks_role c.vr.view ∷ out) in_ → Keeps (turn_on (asks_role c.vr.view))
  unfolding switch_turn
  asks served _ = elim served.role [
    | inl unasked ↦
        subst (λ (t : SwitchTurn). Leaves kinds setup c s sw out in_ t) (sym (asked_is kinds setup c s sw small is_true unasked.older))
        (record {
          life = refl;
          number = refl;
          cleared = omega arith;
          more = [];
          events = sym (append-nil (events_in sw (life_of sw)));
          served = asked_keeps kinds setup c s sw small is_true out in_ served unasked;
          letters = λ l among. elim among [
            | inl is ↦ inl (ap (λ (x : Letter SwitchSays). x.to) is)
            | inr told ↦ inl (events_to c.vr.me (first_held sw) l told)
          ];
        })
    | inr asked ↦ let none = asked.0.no_more in let one = count_cons is_request (asks_role c.vr.view) out in absurd (omega (arith, none, one))
  ]

  -- a message that says nothing to the switch
  nothing : (state : SwitchState) (said : Extension) → state.buffer ≡ sw.buffer → state.events ≡ sw.events → state.fence ≡ sw.fence → state.results.executed ≡ sw.results.executed →
      ((through : ℕ) → acknowledges_events (life_of sw) through ≡ message.Of 0 (spoken.Ravana said) → ⊥) →
      commands_said (life_of sw) (message.Of 0 (spoken.Ravana said) ∷ out) ≡ commands_said (life_of sw) out →
      IsAttended kinds setup c s sw (message.Of 0 (spoken.Ravana said) ∷ out) in_ → Keeps (quiet_switch state)
  nothing state said buffer events fence executed other commands served _ =
      record {
        life = ap (λ (b : Buffer). b.life) buffer;
        number = ap (λ (b : Buffer). b.switch) buffer;
        cleared = (let same = ap (λ (b : Buffer). b.cleared) buffer in omega (arith, same));
        more = [];
        events = ap (λ (es : List Event). filter (λ e. nat_eq e.life (life_of sw)) es) events ∙ sym (append-nil (events_in sw (life_of sw)));
        served = silent_keeps kinds setup c s sw state said out in_ buffer events fence executed other commands served;
        letters = λ l none. absurd none;
      }

  acknowledges : (life through : ℕ) → IsAttended kinds setup c s sw (acknowledges_events life through ∷ out) in_ → Keeps (turn_on (acknowledges_events life through))
  unfolding switch_turn
  acknowledges life through served =
      cond_both (nat_eq life (life_of sw)) (on_event_ack sw through) (quiet_switch sw) (λ (t : SwitchTurn). Keeps t)
      (λ own true_after.
      let served' = subst (λ (l : ℕ). IsAttended kinds setup c s sw (acknowledges_events l through ∷ out) in_) (eqb-true life (life_of sw) own) served in
      elim served'.role [
        | inl unasked ↦ absurd (let first = unasked.first in cc)
        | inr asked ↦
            let after = acked sw c.vr.me through asked.0.master in
            record {
              life = after.life;
              number = after.number;
              cleared = (let gone = after.gone in omega (arith, gone));
              more = after.more;
              events = after.events;
              served = acked_keeps kinds setup c s sw through (on_event_ack sw through) after is_true true_after out in_ served';
              letters = λ l among. inl (events_to c.vr.me _ l (subst (λ (ls : List (Letter SwitchSays)). IsIn l ls) after.letters among));
            }
      ])
      (λ other. nothing sw (extension.EventAck life through) refl refl refl refl
      (λ t is. let same : life ≡ life_of sw = cc in eqb-false life (life_of sw) other same) refl served)

  commands : (life number through : ℕ) (what : Order) → number < through + most_commands →
      IsAttended kinds setup c s sw (message.Of 0 (spoken.Ravana (extension.Command life c.vr.view number through what)) ∷ out) in_ →
      Keeps (turn_on (message.Of 0 (spoken.Ravana (extension.Command life c.vr.view number through what))))
  unfolding switch_turn
  commands life number through what near served =
      cond_both (nat_eq life (life_of sw)) (on_command sw c.vr.me 0 c.vr.view number through what) (quiet_switch sw) (λ (t : SwitchTurn). Keeps t)
      (λ own _.
      let served' = subst (λ (l : ℕ). IsAttended kinds setup c s sw (message.Of 0 (spoken.Ravana (extension.Command l c.vr.view number through what)) ∷ out) in_) (eqb-true life (life_of sw) own) served in
      elim served'.role [
        | inl unasked ↦ absurd (let first = unasked.first in cc)
        | inr asked ↦
            let waits = is_commanded kinds setup c s sw number through what out in_ served' in
            let after = commanded sw c.vr.me c.vr.view number through what asked.0.master asked.0.generation (late kinds setup c s sw number through what out in_ waits) near is_true.results in
            record {
              life = ap (λ (b : Buffer). b.life) after.buffer;
              number = ap (λ (b : Buffer). b.switch) after.buffer;
              cleared = (let same = ap (λ (b : Buffer). b.cleared) after.buffer in omega (arith, same));
              more = [];
              events = ap (λ (es : List Event). filter (λ e. nat_eq e.life (life_of sw)) es) after.events ∙ sym (append-nil (events_in sw (life_of sw)));
              served = commanded_keeps kinds setup c s sw number through what (on_command sw c.vr.me 0 c.vr.view number through what) after out in_ served';
              letters = λ l among.
                  elim (in_append l after.before (letter_of_result c.vr.me (life_of sw) number after.result ∷ []) (subst (λ (ls : List (Letter SwitchSays)). IsIn l ls) after.letters among)) [
                    | inl frame ↦ let to = after.frames l frame in inr (to.0, to.1)
                    | inr (inl is) ↦ inl (ap (λ (x : Letter SwitchSays). x.to) is)
                    | inr (inr none) ↦ absurd none
                  ];
            }
      ])
      (λ other. nothing sw (extension.Command life c.vr.view number through what) refl refl refl refl (λ t is. absurd cc)
      (ap (λ (b : Bool). if b then number ∷ commands_said (life_of sw) out else commands_said (life_of sw) out) other) served)

  clears : (life through : ℕ) → IsAttended kinds setup c s sw (message.Of 0 (spoken.Ravana (extension.Clear life through)) ∷ out) in_ →
      Keeps (turn_on (message.Of 0 (spoken.Ravana (extension.Clear life through))))
  unfolding switch_turn
  clears life through served =
      cond_both (nat_eq life (life_of sw)) (quiet_switch (settled sw through)) (quiet_switch sw) (λ (t : SwitchTurn). Keeps t)
      (λ own. nothing (settled sw through) (extension.Clear life through) refl refl refl refl (λ t is. absurd cc) refl served)
      (λ other. nothing sw (extension.Clear life through) refl refl refl refl (λ t is. absurd cc) refl served)

  -- each kind of what the primary says
  pub leaves : (m : Message) → IsSaidBy c.vr.view m → IsAttended kinds setup c s sw (m ∷ out) in_ → Keeps (turn_on m)
  leaves _ Asks served = asks served
  leaves _ (Acknowledges life through) served = acknowledges life through served
  leaves _ (Commands life number through what near) served = commands life number through what near served
  leaves _ (Clears life through) served = clears life through served

-- it is served as before
pub switch_keeps : (kinds : List ℕ) (setup : Setup) (c : ControllerState) (s : ℕ) (sw : SwitchState) (xid : ℕ) (said : Spoken) (out in_ : List Message) →
    c.vr.view < 2 ^ 32 →
    IsAttended kinds setup c s sw (message.Of xid said ∷ out) in_ →
    IsTrueOf kinds setup c s sw → IsTrueOf kinds setup c s (switch_turn sw (switch_input.Of c.vr.me xid said)).state →
    IsAttended kinds setup c s (switch_turn sw (switch_input.Of c.vr.me xid said)).state out
    (in_ ++ told_to switch_message (actor.Controller c.vr.me) (switch_turn sw (switch_input.Of c.vr.me xid said)).letters)
switch_keeps kinds setup c s sw xid said out in_ small served before after = (leaves kinds setup c s sw small before out in_ (message.Of xid said) served.said.0 served after).served

-- its letters go nowhere else but to switches
pub switch_says : (kinds : List ℕ) (setup : Setup) (c : ControllerState) (s : ℕ) (sw : SwitchState) (xid : ℕ) (said : Spoken) (out in_ : List Message) →
    c.vr.view < 2 ^ 32 →
    IsAttended kinds setup c s sw (message.Of xid said ∷ out) in_ →
    IsTrueOf kinds setup c s sw → IsTrueOf kinds setup c s (switch_turn sw (switch_input.Of c.vr.me xid said)).state →
    (l : Letter SwitchSays) → IsIn l (switch_turn sw (switch_input.Of c.vr.me xid said)).letters → (l.to ≡ actor.Controller c.vr.me) ⊎ ((t : ℕ) × (l.to ≡ actor.Switch t))
switch_says kinds setup c s sw xid said out in_ small served before after = (leaves kinds setup c s sw small before out in_ (message.Of xid said) served.said.0 served after).letters
