-- A turn of the primary while a closing is drained, by what it hears.
use Rattle.std.proofs.Common.{◌≡◌, ◌<◌, ◌⊎◌, inl, inr, ℕ, ◌%◌, Bool, true, false, List, ◌∷◌, length, refl, sym, ◌∙◌, ap, subst, arith}
use Rattle.std.specs.Prelude.{nat_eq, nat_lt, ◌&&◌, if◌then◌else◌}
use Rattle.std.proofs.lemmas.Bool.{and_from, cases_Bool, cond_both, eq-eqb, ltb-false, ltb-true}
use Rattle.of_types.specs.declared.message.Event.{Event}
use Rattle.of_types.specs.declared.message.Extension.TheVariants as extension
use Rattle.of_types.specs.declared.message.Happening.{Happening}
use Rattle.of_types.specs.declared.message.OfMessage.TheVariants as plain
use Rattle.of_types.specs.declared.message.Outcome.{Outcome}
use Rattle.of_types.specs.declared.message.Spoken.{Spoken}
use Rattle.of_types.specs.declared.message.Spoken.TheVariants as spoken
use Rattle.of_types.specs.declared.numbers.TheConstants.{MASTER}
use Rattle.of_types.specs.declared.setup.Setup.{Setup}
use Rattle.journal.specs.declared.journal.Actor.TheVariants as actor
use Rattle.vr_log.specs.declared.message.VrMessage.TheVariants as vr
use Rattle.vr_log.specs.declared.state.VrState.{VrState}
use Rattle.vr_log.specs.Members.{leads, most_failures}
use Rattle.vr_log.specs.Steps.{quiet}
use Rattle.vr_core.specs.declared.input.VrInput.TheVariants as vr_input
use Rattle.vr_core.specs.Step.{vr_step}
use Rattle.dispatcher.specs.Folding.{wish}
use Rattle.dispatcher.specs.Marks.{is_confirmed}
use Rattle.of_switch.specs.State.{SwitchState, life_of}
use Rattle.group_controller.specs.declared.messages.ControllerInput.{ControllerInput}
use Rattle.group_controller.specs.declared.messages.ControllerInput.TheVariants as controller_input
use Rattle.group_controller.specs.State.{ControllerState, Work, committed, resting, stepped, with_no_met_limit}
use Rattle.group_controller.specs.Settling.{settling}
use Rattle.group_controller.specs.Rules.{after_step, controller_work, on_master, on_result, on_role_reply, on_switch, on_wish}
use Rattle.run_spec.specs.declared.messages.Message.{Message}
use Rattle.run_spec.specs.declared.messages.Message.TheVariants as message
use Rattle.closing_laws.specs.Following.{Start}
use Rattle.closing_laws.specs.Quorum.{has}
use Rattle.closing_laws.specs.Serving.{AreFew, IsMastered, IsSaidIn, IsAttended, IsTrueOf, IsTruePrimary, IsUnasked, Replies, Tells, Results, is_reply}
use Rattle.closing_laws.specs.Ways.{Sent, between}
use Rattle.closing_laws.proofs.Draining.Drained as drained_by
use Rattle.closing_laws.proofs.Draining.Drained.{heard_of}
use Rattle.closing_laws.proofs.Draining.PrimaryTurns as primary_by
use Rattle.closing_laws.proofs.Lists.Picked.{IsPicked}
use Rattle.closing_laws.proofs.Pool.Rooms.{IsHeard}
use Rattle.closing_laws.proofs.Primary.Agreed.{agreed_no_less, counts_it, marked}
use Rattle.closing_laws.proofs.Primary.Hearing.{leader_input}
use Rattle.closing_laws.proofs.Primary.ProperTurns.{not_started}
use Rattle.closing_laws.proofs.Switches.Saying.{count_cons}

-- a switch whose reply comes is not confirmed
replies_once : (c : ControllerState) (s : ℕ) (sw : SwitchState) (out in_ : List Message) (m : Message) → is_reply m ≡ true → IsUnasked c s sw out (m ∷ in_) ⊎ IsMastered c s sw out (m ∷ in_) →
    is_confirmed c.marks s ≡ false
replies_once c s sw out in_ m reply (inl h) = h.unconfirmed
replies_once c s sw out in_ m reply (inr h) = elim (cases_Bool (is_confirmed c.marks s)) [
  | inl confirmed ↦
      let all = h.replies in
      let first = count_cons is_reply m in_ in
      let one = ap {B = ℕ} (λ (b : Bool). if b then 1 else 0) reply in
      let two = ap {B = ℕ} (λ (b : Bool). if b then 1 else 0) confirmed in
      absurd (omega (arith, all, first, one, two))
  | inr other ↦ other
]

module _ (kinds : List ℕ) (setup : Setup) (few : AreFew kinds setup) (w p : ℕ) (quorum : List ℕ) (start : Start) (picked : IsPicked setup.controllers w quorum) (inside : has quorum p ≡ true)
    (leader : p ≡ w % setup.controllers) (small : (b : ℕ) → has quorum b ≡ true → b < setup.controllers)
    (c : ControllerState) (members : ℕ → VrState) (switches : ℕ → SwitchState) (m : Sent) (rest : List Sent) (d : drained_by.Drains kinds setup w p quorum start c members switches (m ∷ rest))
    (to : m.to ≡ actor.Controller p) (true_of : (s : ℕ) → s < length setup.ports → IsTrueOf kinds setup c s (switches s)) (true_c : IsTruePrimary c) where
  -- the state in which a turn begins
  abbrev pub begun : ControllerState
  begun = with_no_met_limit c

  -- alone, all is committed
  pub whole : most_failures c.vr ≡ 0 → c.vr.commit ≡ length c.vr.log
  whole = primary_by.whole_p kinds setup few w p quorum start picked inside leader small c members switches m rest d to true_of

  -- what holds of a turn, by what is heard
  pub record OfTurns (Q : Work → Type 0) : Type 0 where
    pub reply : (k xid : ℕ) → k < length setup.ports → m.from ≡ actor.Switch k → m.said ≡ message.Of xid (spoken.Plain (plain.RoleReply MASTER c.vr.view)) → is_confirmed c.marks k ≡ false →
        Q (on_master kinds setup begun k)
    pub event : (k xid number : ℕ) (what : Happening) → k < length setup.ports → m.from ≡ actor.Switch k →
        m.said ≡ message.Of xid (spoken.Ravana (extension.Event (life_of (switches k)) number what)) →
        let e : Event = record { switch = k; life = life_of (switches k); number = number; what = what } in Q (on_wish kinds setup begun e (wish c.vr.log (committed c) e))
    pub result : (k xid number : ℕ) (result : Outcome) → k < length setup.ports → m.from ≡ actor.Switch k → m.said ≡ message.Of xid (spoken.Ravana (extension.CmdAck (life_of (switches k)) number result)) →
        Q (on_result kinds setup begun k (life_of (switches k)) number)
    pub agreed : (b op : ℕ) → m.from ≡ actor.Controller b → has quorum b ≡ true → (b ≡ p → ⊥) → m.said ≡ message.Vr (vr.PrepareOk c.vr.view op) → 0 < most_failures c.vr → c.vr.commit < (marked c.vr b op).commit →
        Q (settling kinds setup c.vr.commit (stepped begun (quiet (marked c.vr b op))))
    pub counted : (b op : ℕ) → m.from ≡ actor.Controller b → has quorum b ≡ true → (b ≡ p → ⊥) → m.said ≡ message.Vr (vr.PrepareOk c.vr.view op) →
        (marked c.vr b op).commit ≡ c.vr.commit → Q (stepped begun (quiet (marked c.vr b op)))

  module _ (Q : Work → Type 0) (of : OfTurns Q) where
    heard_as : (x : ControllerInput) → heard_of m ≡ x → Q (controller_work kinds setup c x) → Q (controller_work kinds setup c (heard_of m))
    heard_as x is h = subst (λ (y : ControllerInput). Q (controller_work kinds setup c y)) (sym is) h

    from_switch : (k : ℕ) → m.from ≡ actor.Switch k → k < length setup.ports → Q (controller_work kinds setup c (heard_of m))
    from_switch k from there =
        by_kind m.said refl (primary_by.said_in kinds setup few w p quorum start picked inside leader small c members switches m rest d to true_of k from there)
      where
        heard_is : (xid : ℕ) (x : Spoken) → m.said ≡ message.Of xid x → heard_of m ≡ controller_input.Of k xid x
        heard_is = primary_by.heard_is kinds setup few w p quorum start picked inside leader small c members switches m rest d to true_of k from there

        -- one that leads hears it
        said_work : (xid : ℕ) (x : Spoken) (work : Work) → on_switch kinds setup begun k xid x ≡ (if leads c.vr then work else resting begun) →
            m.said ≡ message.Of xid x → Q work → Q (controller_work kinds setup c (heard_of m))
        said_work xid x work goes is h =
            heard_as (controller_input.Of k xid x) (heard_is xid x is)
            (subst (λ (y : Work). Q y) (sym (leader_input kinds setup c (controller_input.Of k xid x) true_c.leads ∙ goes ∙ ap (λ (b : Bool). if b then work else resting begun) true_c.leads)) h)

        by_kind : (x : Message) → m.said ≡ x → IsSaidIn c.vr.view (life_of (switches k)) x → Q (controller_work kinds setup c (heard_of m))
        by_kind _ is (Replies xid) =
            said_work xid (spoken.Plain (plain.RoleReply MASTER c.vr.view)) (on_role_reply kinds setup begun k MASTER c.vr.view) refl is
            (subst (λ (b : Bool). Q (if b then on_master kinds setup begun k else resting begun))
            (sym (and_from (nat_eq MASTER MASTER) (nat_eq c.vr.view c.vr.view) (eq-eqb MASTER MASTER refl) (eq-eqb c.vr.view c.vr.view refl)))
            (of.reply k xid there from is (replies_once c k (switches k) _ (between (actor.Switch k) (actor.Controller p) rest) as_said refl role)))
          where
            as_said : Message
            as_said = message.Of xid (spoken.Plain (plain.RoleReply MASTER c.vr.view))

            role : IsUnasked c k (switches k) (between (actor.Controller p) (actor.Switch k) rest) (as_said ∷ between (actor.Switch k) (actor.Controller p) rest)
                ⊎ IsMastered c k (switches k) (between (actor.Controller p) (actor.Switch k) rest) (as_said ∷ between (actor.Switch k) (actor.Controller p) rest)
            role =
                let s = subst (λ (l : List Message). IsAttended kinds setup c k (switches k) (between (actor.Controller p) (actor.Switch k) rest) l)
                (primary_by.own_is kinds setup few w p quorum start picked inside leader small c members switches m rest d to true_of k from there as_said is)
                (primary_by.served kinds setup few w p quorum start picked inside leader small c members switches m rest d to true_of k there) in
                elim s.role [ inl h ↦ inl h | inr h ↦ inr h.0 ]
        by_kind _ is (Tells xid number what) =
            let e : Event = record { switch = k; life = life_of (switches k); number = number; what = what } in
            said_work xid (spoken.Ravana (extension.Event (life_of (switches k)) number what)) (on_wish kinds setup begun e (wish c.vr.log (committed c) e)) refl is
            (of.event k xid number what there from is)
        by_kind _ is (Results xid number result) =
            said_work xid (spoken.Ravana (extension.CmdAck (life_of (switches k)) number result)) (on_result kinds setup begun k (life_of (switches k)) number) refl is
            (of.result k xid number result there from is)

    from_member : (b : ℕ) → m.from ≡ actor.Controller b → has quorum b ≡ true → (b ≡ p → ⊥) → Q (controller_work kinds setup c (heard_of m))
    from_member b from chosen apart =
        heard_as (controller_input.Vr b (vr.PrepareOk c.vr.view op)) (primary_by.heard_ok kinds setup few w p quorum start picked inside leader small c members switches m rest d to true_of b from chosen apart)
        (subst (λ (y : Work). Q y) (sym (leader_input kinds setup c (controller_input.Vr b (vr.PrepareOk c.vr.view op)) true_c.leads ∙ ap (after_step kinds setup begun) step ∙ goes)) by_commit)
      where
        op : ℕ
        op = (primary_by.said_ok kinds setup few w p quorum start picked inside leader small c members switches m rest d to true_of b from chosen apart).0

        says : m.said ≡ message.Vr (vr.PrepareOk c.vr.view op)
        says = (primary_by.said_ok kinds setup few w p quorum start picked inside leader small c members switches m rest d to true_of b from chosen apart).1

        v : VrState
        v = marked c.vr b op

        mid : Work
        mid = stepped begun (quiet v)

        step : vr_step c.vr (vr_input.From b (vr.PrepareOk c.vr.view op)) ≡ quiet v
        step = counts_it c.vr b op true_c.leads (primary_by.small_b kinds setup few w p quorum start picked inside leader small c members switches m rest d to true_of b from chosen apart)
            (λ e. apart (e ∙ d.primary.me)) (primary_by.keeps_next kinds setup few w p quorum start picked inside leader small c members switches m rest d to true_of b from chosen apart).0

        goes : after_step kinds setup begun (quiet v) ≡ (if nat_lt c.vr.commit v.commit then settling kinds setup c.vr.commit mid else mid)
        goes =
            not_started kinds setup c true_c.leads (quiet v) (record { me = refl; controllers = refl; status = refl; view = refl; promise = refl })
            ∙ ap (λ (x : Bool). if x && nat_lt c.vr.commit v.commit then settling kinds setup c.vr.commit mid else mid) true_c.leads

        by_commit : Q (if nat_lt c.vr.commit v.commit then settling kinds setup c.vr.commit mid else mid)
        by_commit =
            cond_both (nat_lt c.vr.commit v.commit) (settling kinds setup c.vr.commit mid) mid (λ (y : Work). Q y)
            (λ more. of.agreed b op from chosen apart says (primary_by.several kinds setup few w p quorum start picked inside leader small c members switches m rest d to true_of b from chosen apart)
            (ltb-true c.vr.commit v.commit more))
            (λ same. of.counted b op from chosen apart says (let few = ltb-false c.vr.commit v.commit same in let least = agreed_no_less c.vr b op in omega (arith, few, least)))

    -- of each turn
    pub each_turn : IsHeard setup p quorum m → Q (controller_work kinds setup c (heard_of m))
    each_turn (inl (b, from, chosen, apart)) = from_member b from chosen apart
    each_turn (inr (k, from, there)) = from_switch k from there
