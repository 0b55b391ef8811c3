-- What each turn posts while a closing is drained: of the primary by what it hears, of a member, and of a switch.
use Rattle.std.proofs.Common.{◌≡◌, ◌<◌, ◌⊎◌, ℕ, ◌%◌, true, List, [], ◌∷◌, length, sym, ◌∙◌, ap, subst, arith, ◌≤◌}
use Rattle.std.specs.Prelude.{if◌then◌else◌}
use Rattle.of_types.specs.declared.setup.Setup.{Setup}
use Rattle.journal.specs.declared.journal.Actor.{Actor}
use Rattle.journal.specs.declared.journal.Actor.TheVariants as actor
use Rattle.vr_log.specs.declared.message.VrMessage.{VrMessage}
use Rattle.vr_log.specs.declared.message.VrMessage.TheVariants as vr
use Rattle.vr_log.specs.declared.state.VrState.{VrState}
use Rattle.vr_log.specs.Steps.{letter}
use Rattle.vr_core.specs.declared.input.VrInput.TheVariants as vr_input
use Rattle.vr_core.specs.Step.{vr_step}
use Rattle.group_controller.specs.State.{ControllerState, Work}
use Rattle.group_controller.specs.Rules.{controller_work}
use Rattle.of_switch.specs.State.{SwitchState, life_of}
use Rattle.of_switch.specs.Rules.{switch_turn}
use Rattle.run_spec.specs.declared.messages.Message.{Message}
use Rattle.run_spec.specs.declared.messages.Message.TheVariants as message
use Rattle.run_spec.specs.declared.messages.Unsealed.TheVariants as unsealed
use Rattle.run_spec.specs.States.{switch_hears}
use Rattle.closing_laws.specs.Quorum.{has}
use Rattle.closing_laws.specs.Ways.{Sent, between}
use Rattle.closing_laws.specs.Following.{Start, KeepsUp}
use Rattle.closing_laws.specs.Serving.{AreFew, IsAttended}
use Rattle.closing_laws.proofs.Draining.Drained as drained_by
use Rattle.closing_laws.proofs.Draining.Drained.{heard_of, way_apart}
use Rattle.closing_laws.proofs.Draining.Followers.{answers_late}
use Rattle.closing_laws.proofs.Draining.TurnCases as turn_cases
use Rattle.closing_laws.proofs.Draining.TurnCases.{OfTurns}
use Rattle.closing_laws.proofs.Journal.Between.{between_other, between_own}
use Rattle.closing_laws.proofs.Lists.Picked.{IsPicked}
use Rattle.closing_laws.proofs.Pool.PrimaryPosts.{HasPosted, agreed_posts, counted_posts, event_posts, master_posts, result_posts}
use Rattle.closing_laws.proofs.Pool.Rooms.{AreTrue, IsHeard, is_event, turn_on}
use Rattle.closing_laws.proofs.Pool.SwitchPosts as switch_by
use Rattle.closing_laws.proofs.Pool.SwitchPosts.{IsTurn}

module _ (kinds : List ℕ) (setup : Setup) (few : AreFew kinds setup) (w p : ℕ) (quorum : List ℕ) (start : Start) (picked : IsPicked setup.controllers w quorum) (inside : has quorum p ≡ true)
    (leader : p ≡ w % setup.controllers) (small : (b : ℕ) → has quorum b ≡ true → b < setup.controllers) (c : ControllerState) (members : ℕ → VrState) (switches : ℕ → SwitchState) (m : Sent) (rest : List Sent)
    (d : drained_by.Drains kinds setup w p quorum start c members switches (m ∷ rest)) where
  -- a member: nothing, or an acknowledgement of no less than the log with which the view has started
  pub member_answers : (b : ℕ) (x : VrMessage) → m.from ≡ actor.Controller p → m.to ≡ actor.Controller b → has quorum b ≡ true → (b ≡ p → ⊥) → m.said ≡ message.Vr x →
      let letters = (vr_step (members b) (vr_input.From p x)).letters in (letters ≡ []) ⊎ ((op : ℕ) × (letters ≡ letter (vr.PrepareOk c.vr.view op) p ∷ []) × (length start.log ≤ op))
  member_answers b x from to chosen other says =
      subst (λ (k : ℕ).
      ((vr_step (members b) (vr_input.From k x)).letters ≡ []) ⊎ ((op : ℕ) × ((vr_step (members b) (vr_input.From k x)).letters ≡ letter (vr.PrepareOk c.vr.view op) k ∷ []) × (length start.log ≤ op))) d.primary.me
      (answers_late start c.vr d.primary.lead leads_here small_here b (λ e. other (e ∙ d.primary.me)) (members b) x (between (actor.Controller p) (actor.Controller b) rest)
      (between (actor.Controller b) (actor.Controller p) (m ∷ rest))
      (subst (λ (l : List Message). KeepsUp start c.vr b (members b) l (between (actor.Controller b) (actor.Controller p) (m ∷ rest)))
      (between_own (actor.Controller p) (actor.Controller b) m rest from to ∙ ap (λ (y : Message). y ∷ between (actor.Controller p) (actor.Controller b) rest) says) (d.keeps_up b chosen other)))
    where
      leads_here : c.vr.me ≡ c.vr.view % c.vr.controllers
      leads_here = d.primary.me ∙ leader ∙ ap (λ (v : ℕ). v % setup.controllers) (sym d.primary.view) ∙ ap (λ (k : ℕ). c.vr.view % k) (sym d.primary.size)

      small_here : c.vr.me < c.vr.controllers
      small_here = let me = d.primary.me in let size = d.primary.size in let less = small p inside in omega (arith, me, size, less)

  -- the primary
  module _ (to : m.to ≡ actor.Controller p) (t : AreTrue kinds setup c switches) where
    abbrev Posted : Work → Type 0
    Posted work = HasPosted p kinds setup few c (if is_event m.said then 1 else 0) work

    as_said : (x : Message) (work : Work) → m.said ≡ x → HasPosted p kinds setup few c (if is_event x then 1 else 0) work → Posted work
    as_said x work says h = subst (λ (y : Message). HasPosted p kinds setup few c (if is_event y then 1 else 0) work) (sym says) h

    of_turns : OfTurns kinds setup few w p quorum start picked inside leader small c members switches m rest d to t.each t.primary Posted
    of_turns = record {
      reply = λ k xid there from is none. as_said _ _ is (master_posts p kinds setup few c t.primary.commit k);
      event = λ k xid number what there from is. as_said _ _ is (event_posts p kinds setup few c t.primary.commit (record { switch = k; life = life_of (switches k); number = number; what = what }));
      result = λ k xid number result there from is. as_said _ _ is (result_posts p kinds setup few c t.primary.commit k (life_of (switches k)) number);
      agreed = λ b op from chosen apart is several more. as_said _ _ is (agreed_posts p kinds setup few c t.primary.commit b op);
      counted = λ b op from chosen apart is same. as_said _ _ is (counted_posts p kinds setup few c t.primary.commit b op);
    }

    pub primary_posts : IsHeard setup p quorum m → Posted (controller_work kinds setup c (heard_of m))
    primary_posts = turn_cases.each_turn kinds setup few w p quorum start picked inside leader small c members switches m rest d to t.each t.primary Posted of_turns

  -- a switch
  pub switch_turns : (s : ℕ) → s < length setup.ports → m.from ≡ actor.Controller p → m.to ≡ actor.Switch s → AreTrue kinds setup c switches →
      IsTurn c.vr.me c.vr.view (switches s) m.said (turn_on (switches s) m)
  switch_turns s there from to t =
      subst (λ (a : Actor). IsTurn c.vr.me c.vr.view (switches s) m.said (switch_turn (switches s) (switch_hears a (unsealed.Message m.said)))) (ap (λ (k : ℕ). actor.Controller k) d.primary.me ∙ sym from)
      (switch_by.turn_is kinds setup c s (switches s) t.primary.view (t.each s there) (between (actor.Controller p) (actor.Switch s) rest) (between (actor.Switch s) (actor.Controller p) rest) m.said served.said.0 served)
    where
      served : IsAttended kinds setup c s (switches s) (m.said ∷ between (actor.Controller p) (actor.Switch s) rest) (between (actor.Switch s) (actor.Controller p) rest)
      served =
          subst (λ (l : List Message). IsAttended kinds setup c s (switches s) l (between (actor.Switch s) (actor.Controller p) rest)) (between_own (actor.Controller p) (actor.Switch s) m rest from to)
          (subst (λ (l : List Message). IsAttended kinds setup c s (switches s) (between (actor.Controller p) (actor.Switch s) (m ∷ rest)) l)
          (between_other (actor.Switch s) (actor.Controller p) m rest (way_apart (actor.Switch s) (actor.Controller p) m (λ f g. absurd (let e : actor.Controller p ≡ actor.Switch s = sym from ∙ f in cc)))) (d.served s there))
