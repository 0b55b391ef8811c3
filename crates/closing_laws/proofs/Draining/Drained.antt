-- What stays true while a closing is drained behind the start of its view: the quorum keeps up, each switch is served, and
-- nothing else is on its way that is drawn.
use Rattle.std.proofs.Common.{◌≡◌, ◌<◌, ◌⊎◌, inl, inr, ℕ, ◌%◌, Bool, true, false, List, [], ◌∷◌, ◌++◌, map, length, drop, refl, sym, ◌∙◌, ap, subst, arith, ◌≤◌, ◌+◌}
use Rattle.std.specs.Prelude.{nat_eq, ◌&&◌, None, if◌then◌else◌}
use Rattle.std.proofs.lemmas.Bool.{eq-eqb, ne_eqb, true≢false, cases_eq}
use Rattle.of_types.specs.declared.message.Spoken.{Spoken}
use Rattle.of_types.specs.declared.setup.Setup.{Setup}
use Rattle.journal.specs.declared.journal.Actor.{Actor}
use Rattle.journal.specs.declared.journal.Actor.TheVariants as actor
use Rattle.journal.specs.declared.journal.Letter.{Letter}
use Rattle.journal.specs.Actors.{same_actor}
use Rattle.journal.proofs.Leaving.{same_actor-true}
use Rattle.list_facts.specs.Lists.{IsIn}
use Rattle.list_facts.proofs.Elements.{in_append, in_map}
use Rattle.vr_log.specs.declared.entry.Entry.{Entry}
use Rattle.vr_log.specs.declared.message.VrLetter.{VrLetter}
use Rattle.vr_log.specs.declared.message.VrMessage.{VrMessage}
use Rattle.vr_log.specs.declared.message.VrMessage.TheVariants as vr
use Rattle.vr_log.specs.declared.state.VrState.{VrState}
use Rattle.vr_log.specs.Steps.{VrStep, letter}
use Rattle.vr_core.specs.declared.input.VrInput.TheVariants as vr_input
use Rattle.vr_core.specs.Step.{vr_step}
use Rattle.of_switch.specs.declared.says.SwitchInput.{SwitchInput}
use Rattle.of_switch.specs.declared.says.SwitchInput.TheVariants as switch_input
use Rattle.of_switch.specs.declared.says.SwitchSays.{SwitchSays}
use Rattle.of_switch.specs.State.{SwitchState, SwitchTurn}
use Rattle.of_switch.specs.Rules.{switch_turn}
use Rattle.group_controller.specs.declared.messages.ControllerSays.{ControllerSays}
use Rattle.group_controller.specs.declared.messages.ControllerInput.{ControllerInput}
use Rattle.group_controller.specs.State.{ControllerState, to_members}
use Rattle.run_spec.specs.declared.messages.Message.{Message}
use Rattle.run_spec.specs.declared.messages.Message.TheVariants as message
use Rattle.run_spec.specs.declared.messages.Unsealed.TheVariants as unsealed
use Rattle.run_spec.specs.States.{controller_hears, controller_message, switch_hears, switch_message}
use Rattle.run_spec.specs.Closing.{is_drawn}
use Rattle.closing_laws.specs.Quorum.{has}
use Rattle.closing_laws.specs.Ways.{Sent, sent_by, goes, between, told_to}
use Rattle.closing_laws.specs.Following.{ArePrepares, Start, KeepsUp, IsAgreed, LeadsFrom}
use Rattle.closing_laws.specs.Serving.{IsAttended, IsSettled}
use Rattle.closing_laws.proofs.Journal.Between.{between_other, between_own, posted_other, posted_own}
use Rattle.closing_laws.specs.Measure.{message_worth}
use Rattle.closing_laws.proofs.Draining.Followers.{Hears, hears}
use Rattle.closing_laws.proofs.Measure.MemberMeasure.{member_lowers}
use Rattle.closing_laws.proofs.Measure.Worths.{worths_of}

-- one of many takes another state
abbrev pub put : {A : Type 0} → (ℕ → A) → ℕ → A → ℕ → A
put at c x j = if nat_eq j c then x else at j

pub put_own : {A : Type 0} (at : ℕ → A) (c : ℕ) (x : A) → put at c x c ≡ x
put_own at c x = ap (λ (b : Bool). if b then x else at c) (eq-eqb c c refl)

pub put_other : {A : Type 0} (at : ℕ → A) (c : ℕ) (x : A) (j : ℕ) → (j ≡ c → ⊥) → put at c x j ≡ at j
put_other at c x j e = ap (λ (b : Bool). if b then x else at j) (ne_eqb j c e)

controllers_apart : (b p : ℕ) → (b ≡ p → ⊥) → same_actor (actor.Controller b) (actor.Controller p) ≡ false
controllers_apart b p e = ne_eqb b p e

switches_apart : (b p : ℕ) → (b ≡ p → ⊥) → same_actor (actor.Switch b) (actor.Switch p) ≡ false
switches_apart b p e = ne_eqb b p e

-- what a controller hears of a message on its way
abbrev pub heard_of : Sent → ControllerInput
heard_of m = controller_hears m.from (unsealed.Message m.said)

-- and a switch
abbrev pub heard_at : Sent → SwitchInput
heard_at m = switch_hears m.from (unsealed.Message m.said)

-- a message that goes another way
pub way_apart : (from to : Actor) (m : Sent) → (m.from ≡ from → m.to ≡ to → ⊥) → goes from to m ≡ false
way_apart from to m differ = by_tests (same_actor m.from from) (same_actor m.to to) refl refl
  where
    by_tests : (a b : Bool) → same_actor m.from from ≡ a → same_actor m.to to ≡ b → goes from to m ≡ false
    by_tests true true f t = absurd (differ (same_actor-true m.from from f) (same_actor-true m.to to t))
    by_tests true false f t = ap (λ (x : Bool). x && same_actor m.to to) f ∙ t
    by_tests false b f t = ap (λ (x : Bool). x && same_actor m.to to) f

-- the ways of messages that are drawn
pub data IsWay (primary : ℕ) (quorum : List ℕ) (m : Sent) : Type 0 where
  To_member : (b : ℕ) → m.from ≡ actor.Controller primary → m.to ≡ actor.Controller b → has quorum b ≡ true → (b ≡ primary → ⊥) → IsWay primary quorum m
  From_member : (b : ℕ) → m.from ≡ actor.Controller b → m.to ≡ actor.Controller primary → has quorum b ≡ true → (b ≡ primary → ⊥) → IsWay primary quorum m
  To_switch : (s : ℕ) → m.from ≡ actor.Controller primary → m.to ≡ actor.Switch s → IsWay primary quorum m
  From_switch : (s : ℕ) → m.from ≡ actor.Switch s → m.to ≡ actor.Controller primary → IsWay primary quorum m

module _ (kinds : List ℕ) (setup : Setup) (w p : ℕ) (quorum : List ℕ) (start : Start) where
  abbrev to_member_of : List Sent → ℕ → List Message
  to_member_of waiting b = between (actor.Controller p) (actor.Controller b) waiting

  abbrev from_member_of : List Sent → ℕ → List Message
  from_member_of waiting b = between (actor.Controller b) (actor.Controller p) waiting

  abbrev to_switch_of : List Sent → ℕ → List Message
  to_switch_of waiting s = between (actor.Controller p) (actor.Switch s) waiting

  abbrev from_switch_of : List Sent → ℕ → List Message
  from_switch_of waiting s = between (actor.Switch s) (actor.Controller p) waiting

  -- what is true of the primary alone, between two turns
  pub record IsDraining (c : ControllerState) : Type 0 where
    pub me : c.vr.me ≡ p
    pub size : c.vr.controllers ≡ setup.controllers
    pub view : c.vr.view ≡ w
    pub lead : LeadsFrom start c.vr
    pub settled : IsSettled kinds setup c
    pub agreed : IsAgreed c.vr quorum

  -- and of all
  pub record Drains (c : ControllerState) (members : ℕ → VrState) (switches : ℕ → SwitchState) (waiting : List Sent) : Type 0 where
    pub primary : IsDraining c
    pub keeps_up : (b : ℕ) → has quorum b ≡ true → (b ≡ p → ⊥) → KeepsUp start c.vr b (members b) (to_member_of waiting b) (from_member_of waiting b)
    pub served : (s : ℕ) → s < length setup.ports → IsAttended kinds setup c s (switches s) (to_switch_of waiting s) (from_switch_of waiting s)
    pub ways : (m : Sent) → IsIn m waiting → is_drawn quorum m.from m.to ≡ true → IsWay p quorum m

  -- a message that is lost
  module _ (inside : has quorum p ≡ true) (c : ControllerState) (members : ℕ → VrState) (switches : ℕ → SwitchState) (m : Sent) (rest : List Sent) (d : Drains c members switches (m ∷ rest)) where
    pub drains_lost : is_drawn quorum m.from m.to ≡ false → Drains c members switches rest
    drains_lost lost = record {
      primary = d.primary;
      keeps_up = λ b chosen other.
          subst (λ (l : List Message). KeepsUp start c.vr b (members b) l (from_member_of rest b)) (same (actor.Controller p) (actor.Controller b) chosen)
          (subst (λ (l : List Message). KeepsUp start c.vr b (members b) (to_member_of (m ∷ rest) b) l) (same (actor.Controller b) (actor.Controller p) inside) (d.keeps_up b chosen other));
      served = λ s there.
          subst (λ (l : List Message). IsAttended kinds setup c s (switches s) l (from_switch_of rest s)) (same (actor.Controller p) (actor.Switch s) refl)
          (subst (λ (l : List Message). IsAttended kinds setup c s (switches s) (to_switch_of (m ∷ rest) s) l) (same (actor.Switch s) (actor.Controller p) inside) (d.served s there));
      ways = λ x among. d.ways x (inr among);
    }
      where
        same : (from to : Actor) → is_drawn quorum from to ≡ true → between from to (m ∷ rest) ≡ between from to rest
        same from to drawn =
            between_other from to m rest (way_apart from to m (λ f t. true≢false (sym drawn ∙ ap (λ (a : Actor). is_drawn quorum a to) (sym f) ∙ ap (λ (a : Actor). is_drawn quorum m.from a) (sym t) ∙ lost)))

    -- a member of the quorum hears from the primary
    module _ (b : ℕ) (from : m.from ≡ actor.Controller p) (to : m.to ≡ actor.Controller b) (chosen : has quorum b ≡ true) (other : b ≡ p → ⊥) (leader : p ≡ w % setup.controllers) (small : p < setup.controllers) where
      here : to_member_of (m ∷ rest) b ≡ m.said ∷ to_member_of rest b
      here = between_own (actor.Controller p) (actor.Controller b) m rest from to

      keeps : KeepsUp start c.vr b (members b) (m.said ∷ to_member_of rest b) (from_member_of (m ∷ rest) b)
      keeps = subst (λ (l : List Message). KeepsUp start c.vr b (members b) l (from_member_of (m ∷ rest) b)) here (d.keeps_up b chosen other)

      pub said_by : (x : VrMessage) × (m.said ≡ message.Vr x)
      said_by = by_state keeps
        where
          by_entries : (es : List Entry) → ArePrepares c.vr.view c.vr.commit (length (members b).log) es (m.said ∷ to_member_of rest b) → (x : VrMessage) × (m.said ≡ message.Vr x)
          by_entries [] all = absurd all
          by_entries (e ∷ es) all = (_, all.0.2)

          by_state : KeepsUp start c.vr b (members b) (m.said ∷ to_member_of rest b) (from_member_of (m ∷ rest) b) → (x : VrMessage) × (m.said ≡ message.Vr x)
          by_state (inl h) = (vr.StartView c.vr.view start.base start.known (drop start.base start.log), let e = h.word in cc)
          by_state (inr h) = by_entries _ h.entries

      abbrev x : VrMessage
      x = said_by.0

      abbrev step : VrStep
      step = vr_step (members b) (vr_input.From p x)

      elsewhere : (a t : Actor) → (a ≡ actor.Controller p → t ≡ actor.Controller b → ⊥) → between a t (m ∷ rest) ≡ between a t rest
      elsewhere a t differ = between_other a t m rest (way_apart a t m (λ f g. differ (sym f ∙ from) (sym g ∙ to)))

      own_quiet : (a : Actor) (t : Actor) → same_actor (actor.Controller b) a ≡ false → (a ≡ actor.Controller p → t ≡ actor.Controller b → ⊥) →
          between a t (rest ++ map (sent_by controller_message (actor.Controller b)) (to_members step.letters)) ≡ between a t (m ∷ rest)
      own_quiet a t apart differ = posted_other controller_message (actor.Controller b) a t rest (to_members step.letters) apart ∙ sym (elsewhere a t differ)

      leads_here : c.vr.me ≡ c.vr.view % c.vr.controllers
      leads_here = d.primary.me ∙ leader ∙ ap (λ (v : ℕ). v % setup.controllers) (sym d.primary.view) ∙ ap (λ (k : ℕ). c.vr.view % k) (sym d.primary.size)

      small_here : c.vr.me < c.vr.controllers
      small_here = let me = d.primary.me in let size = d.primary.size in omega (arith, me, size, small)

      keeps_heard : KeepsUp start c.vr b (members b) (message.Vr x ∷ to_member_of rest b) (from_member_of rest b)
      keeps_heard =
          subst (λ (l : List Message). KeepsUp start c.vr b (members b) (message.Vr x ∷ to_member_of rest b) l)
          (elsewhere (actor.Controller b) (actor.Controller p) (λ f g. other (let e : b ≡ p = cc in e)))
          (subst (λ (y : Message). KeepsUp start c.vr b (members b) (y ∷ to_member_of rest b) (from_member_of (m ∷ rest) b)) said_by.1 keeps)

      pub heard : Hears start c.vr b (members b) x (to_member_of rest b) (from_member_of rest b)
      heard = hears start c.vr d.primary.lead leads_here small_here b (λ e. other (e ∙ d.primary.me)) (members b) x (to_member_of rest b) (from_member_of rest b) keeps_heard

      -- what it answers is worth less
      pub answers_less : worths_of quorum controller_message (actor.Controller b) (to_members step.letters) + 1 ≤ message_worth m.said
      answers_less =
          subst (λ (y : Message). worths_of quorum controller_message (actor.Controller b) (to_members step.letters) + 1 ≤ message_worth y) (sym said_by.1)
          (subst (λ (k : ℕ). worths_of quorum controller_message (actor.Controller b) (to_members (vr_step (members b) (vr_input.From k x)).letters) + 1 ≤ message_worth (message.Vr x)) d.primary.me
          (member_lowers start c.vr d.primary.lead leads_here small_here b (λ e. other (e ∙ d.primary.me)) (members b) x (to_member_of rest b) (from_member_of rest b) keeps_heard quorum))

      abbrev letters : List (Letter ControllerSays)
      letters = to_members step.letters

      abbrev members' : ℕ → VrState
      members' = put members b step.state

      abbrev waiting' : List Sent
      waiting' = rest ++ map (sent_by controller_message (actor.Controller b)) letters

      out_stays : to_member_of waiting' b ≡ to_member_of rest b
      out_stays = posted_other controller_message (actor.Controller b) (actor.Controller p) (actor.Controller b) rest letters (controllers_apart b p other)

      in_grows : from_member_of waiting' b ≡ from_member_of rest b ++ told_to controller_message (actor.Controller p) letters
      in_grows = posted_own controller_message (actor.Controller b) (actor.Controller p) rest letters

      follows_now : KeepsUp start c.vr b (members' b) (to_member_of waiting' b) (from_member_of waiting' b)
      follows_now =
          subst (λ (l : List Message). KeepsUp start c.vr b (members' b) l (from_member_of waiting' b)) (sym out_stays)
          (subst (λ (l : List Message). KeepsUp start c.vr b (members' b) (to_member_of rest b) l)
          (ap (λ (k : ℕ). from_member_of rest b ++ told_to controller_message (actor.Controller k) (to_members heard.answers)) d.primary.me
          ∙ ap (λ (ls : List VrLetter). from_member_of rest b ++ told_to controller_message (actor.Controller p) (to_members ls)) (sym heard.letters)
          ∙ ap (λ (k : ℕ). from_member_of rest b ++ told_to controller_message (actor.Controller p) (to_members (vr_step (members b) (vr_input.From k x)).letters)) d.primary.me ∙ sym in_grows)
          (subst (λ (s : VrState). KeepsUp start c.vr b s (to_member_of rest b) (from_member_of rest b ++ told_to controller_message (actor.Controller c.vr.me) (to_members heard.answers)))
          (ap (λ (k : ℕ). (vr_step (members b) (vr_input.From k x)).state) d.primary.me ∙ sym (put_own members b step.state)) (inr heard.follows)))

      new_ways : (y : Sent) → IsIn y (map (sent_by controller_message (actor.Controller b)) letters) → IsWay p quorum y
      new_ways y among =
          let r = in_map (sent_by controller_message (actor.Controller b)) letters y among in
          by_answers heard.only heard.letters r.0 r.1 r.2
        where
          by_answers : (heard.answers ≡ [] ⊎ ((said : VrMessage) × (heard.answers ≡ letter said c.vr.me ∷ []))) → (vr_step (members b) (vr_input.From c.vr.me x)).letters ≡ heard.answers →
              (l : Letter ControllerSays) → IsIn l letters → y ≡ sent_by controller_message (actor.Controller b) l → IsWay p quorum y
          by_answers only is l there same = elim only [
            | inl none ↦ absurd (subst (λ (ls : List VrLetter). IsIn l (to_members ls)) (ap (λ (k : ℕ). (vr_step (members b) (vr_input.From k x)).letters) (sym d.primary.me) ∙ is ∙ none) there)
            | inr one ↦
                elim (subst (λ (ls : List VrLetter). IsIn l (to_members ls)) (ap (λ (k : ℕ). (vr_step (members b) (vr_input.From k x)).letters) (sym d.primary.me) ∙ is ∙ one.1) there) [
                  | inl e ↦ From_member b (ap (λ (z : Sent). z.from) same) (ap (λ (z : Sent). z.to) same ∙ ap (λ (z : Letter ControllerSays). z.to) e ∙ ap (λ (k : ℕ). actor.Controller k) d.primary.me) chosen other
                  | inr e ↦ absurd e
                ]
          ]

      pub drains_member : ((vr_step (members b) (vr_input.From p x)).promise ≡ None) × Drains c members' switches waiting'
      drains_member = (
        ap (λ (k : ℕ). (vr_step (members b) (vr_input.From k x)).promise) (sym d.primary.me) ∙ heard.unsaved,
        record {
          primary = d.primary;
          keeps_up = λ j member not_p. elim (cases_eq j b) [
            | inl e ↦ subst (λ (k : ℕ). KeepsUp start c.vr k (members' k) (to_member_of waiting' k) (from_member_of waiting' k)) (sym e) follows_now
            | inr e ↦
                subst (λ (l : List Message). KeepsUp start c.vr j (members' j) l (from_member_of waiting' j))
                (sym (own_quiet (actor.Controller p) (actor.Controller j) (controllers_apart b p other) (λ f g. e (let h : j ≡ b = cc in h))))
                (subst (λ (l : List Message). KeepsUp start c.vr j (members' j) (to_member_of (m ∷ rest) j) l)
                (sym (own_quiet (actor.Controller j) (actor.Controller p) (controllers_apart b j (λ i. e (sym i))) (λ f g. other (let h : p ≡ b = cc in sym h))))
                (subst (λ (s : VrState). KeepsUp start c.vr j s (to_member_of (m ∷ rest) j) (from_member_of (m ∷ rest) j)) (sym (put_other members b step.state j e)) (d.keeps_up j member not_p)))
          ];
          served = λ s there.
              subst (λ (l : List Message). IsAttended kinds setup c s (switches s) l (from_switch_of waiting' s)) (sym (own_quiet (actor.Controller p) (actor.Switch s) (controllers_apart b p other) (λ f g. absurd cc)))
              (subst (λ (l : List Message). IsAttended kinds setup c s (switches s) (to_switch_of (m ∷ rest) s) l) (sym (own_quiet (actor.Switch s) (actor.Controller p) refl (λ f g. absurd cc))) (d.served s there));
          ways = λ y among drawn. elim (in_append y rest (map (sent_by controller_message (actor.Controller b)) letters) among) [
            | inl old ↦ d.ways y (inr old) drawn
            | inr new ↦ new_ways y new
          ];
        },
      )

    -- a switch hears from the primary. A turn of it keeps what is served
    module _ (s xid : ℕ) (said : Spoken) (from : m.from ≡ actor.Controller p) (to : m.to ≡ actor.Switch s) (says : m.said ≡ message.Of xid said) where
      abbrev turn : SwitchTurn
      turn = switch_turn (switches s) (switch_input.Of p xid said)

      abbrev switches' : ℕ → SwitchState
      switches' = put switches s turn.state

      abbrev after_it : List Sent
      after_it = rest ++ map (sent_by switch_message (actor.Switch s)) turn.letters

      here_at : to_switch_of (m ∷ rest) s ≡ message.Of xid said ∷ to_switch_of rest s
      here_at = between_own (actor.Controller p) (actor.Switch s) m rest from to ∙ ap (λ (y : Message). y ∷ to_switch_of rest s) says

      apart_from : (a t : Actor) → (a ≡ actor.Controller p → t ≡ actor.Switch s → ⊥) → between a t (m ∷ rest) ≡ between a t rest
      apart_from a t differ = between_other a t m rest (way_apart a t m (λ f g. differ (sym f ∙ from) (sym g ∙ to)))

      quiet_way : (a t : Actor) → same_actor (actor.Switch s) a ≡ false → (a ≡ actor.Controller p → t ≡ actor.Switch s → ⊥) → between a t after_it ≡ between a t (m ∷ rest)
      quiet_way a t other differ = posted_other switch_message (actor.Switch s) a t rest turn.letters other ∙ sym (apart_from a t differ)

      pub served_before : s < length setup.ports → IsAttended kinds setup c s (switches s) (message.Of xid said ∷ to_switch_of rest s) (from_switch_of rest s)
      served_before there =
          subst (λ (l : List Message). IsAttended kinds setup c s (switches s) l (from_switch_of rest s)) here_at
          (subst (λ (l : List Message). IsAttended kinds setup c s (switches s) (to_switch_of (m ∷ rest) s) l) (apart_from (actor.Switch s) (actor.Controller p) (λ f g. absurd cc)) (d.served s there))

      pub drains_switch : s < length setup.ports → IsAttended kinds setup c s turn.state (to_switch_of rest s) (from_switch_of rest s ++ told_to switch_message (actor.Controller p) turn.letters) →
          ((l : Letter SwitchSays) → IsIn l turn.letters → (l.to ≡ actor.Controller p) ⊎ ((t : ℕ) × (l.to ≡ actor.Switch t))) → Drains c members switches' after_it
      drains_switch there kept only = record {
        primary = d.primary;
        keeps_up = λ b chosen other.
            subst (λ (l : List Message). KeepsUp start c.vr b (members b) l (from_member_of after_it b)) (sym (quiet_way (actor.Controller p) (actor.Controller b) refl (λ f g. absurd cc)))
            (subst (λ (l : List Message). KeepsUp start c.vr b (members b) (to_member_of (m ∷ rest) b) l) (sym (quiet_way (actor.Controller b) (actor.Controller p) refl (λ f g. absurd cc))) (d.keeps_up b chosen other));
        served = λ t there'. elim (cases_eq t s) [
          | inl e ↦ subst (λ (k : ℕ). IsAttended kinds setup c k (switches' k) (to_switch_of after_it k) (from_switch_of after_it k)) (sym e) own
          | inr e ↦
              subst (λ (l : List Message). IsAttended kinds setup c t (switches' t) l (from_switch_of after_it t)) (sym (quiet_way (actor.Controller p) (actor.Switch t) refl (λ f g. e (let h : t ≡ s = cc in h))))
              (subst (λ (l : List Message). IsAttended kinds setup c t (switches' t) (to_switch_of (m ∷ rest) t) l)
              (sym (quiet_way (actor.Switch t) (actor.Controller p) (switches_apart s t (λ i. e (sym i))) (λ f g. absurd cc)))
              (subst (λ (x : SwitchState). IsAttended kinds setup c t x (to_switch_of (m ∷ rest) t) (from_switch_of (m ∷ rest) t)) (sym (put_other switches s turn.state t e)) (d.served t there')))
        ];
        ways = λ y among drawn. elim (in_append y rest (map (sent_by switch_message (actor.Switch s)) turn.letters) among) [
          | inl old ↦ d.ways y (inr old) drawn
          | inr new ↦ let r = in_map (sent_by switch_message (actor.Switch s)) turn.letters y new in way_of_letter y r.0 r.2 (only r.0 r.1) drawn
        ];
      }
        where
          own : IsAttended kinds setup c s (switches' s) (to_switch_of after_it s) (from_switch_of after_it s)
          own =
              subst (λ (l : List Message). IsAttended kinds setup c s (switches' s) l (from_switch_of after_it s)) (sym (posted_other switch_message (actor.Switch s) (actor.Controller p) (actor.Switch s) rest turn.letters refl))
              (subst (λ (l : List Message). IsAttended kinds setup c s (switches' s) (to_switch_of rest s) l) (sym (posted_own switch_message (actor.Switch s) (actor.Controller p) rest turn.letters))
              (subst (λ (x : SwitchState). IsAttended kinds setup c s x (to_switch_of rest s) (from_switch_of rest s ++ told_to switch_message (actor.Controller p) turn.letters)) (sym (put_own switches s turn.state)) kept))

          way_of_letter : (y : Sent) (l : Letter SwitchSays) → y ≡ sent_by switch_message (actor.Switch s) l → (l.to ≡ actor.Controller p) ⊎ ((t : ℕ) × (l.to ≡ actor.Switch t)) → is_drawn quorum y.from y.to ≡ true → IsWay p quorum y
          way_of_letter y l is (inl to_p) drawn = From_switch s (ap (λ (z : Sent). z.from) is) (ap (λ (z : Sent). z.to) is ∙ to_p)
          way_of_letter y l is (inr (t, to_t)) drawn =
              absurd (true≢false (sym drawn ∙ ap (λ (z : Sent). is_drawn quorum z.from z.to) is ∙ ap (λ (a : Actor). is_drawn quorum (actor.Switch s) a) to_t))

  -- a turn of the primary
  module _ (c c' : ControllerState) (members : ℕ → VrState) (switches : ℕ → SwitchState) (m : Sent) (rest : List Sent) (letters : List (Letter ControllerSays)) (d : Drains c members switches (m ∷ rest)) where
    abbrev after_turn : List Sent
    after_turn = rest ++ map (sent_by controller_message (actor.Controller p)) letters

    pub drains_primary : IsDraining c' →
        ((b : ℕ) → has quorum b ≡ true → (b ≡ p → ⊥) → KeepsUp start c'.vr b (members b) (to_member_of rest b ++ told_to controller_message (actor.Controller b) letters) (from_member_of rest b)) →
        ((s : ℕ) → s < length setup.ports → IsAttended kinds setup c' s (switches s) (to_switch_of rest s ++ told_to controller_message (actor.Switch s) letters) (from_switch_of rest s)) →
        ((l : Letter ControllerSays) → IsIn l letters → ((b : ℕ) × (l.to ≡ actor.Controller b) × (b ≡ p → ⊥)) ⊎ ((t : ℕ) × (l.to ≡ actor.Switch t))) → Drains c' members switches after_turn
    drains_primary now keeps serves only = record {
      primary = now;
      keeps_up = λ b chosen other.
          subst (λ (l : List Message). KeepsUp start c'.vr b (members b) l (from_member_of after_turn b)) (sym (posted_own controller_message (actor.Controller p) (actor.Controller b) rest letters))
          (subst (λ (l : List Message). KeepsUp start c'.vr b (members b) (to_member_of rest b ++ told_to controller_message (actor.Controller b) letters) l)
          (sym (posted_other controller_message (actor.Controller p) (actor.Controller b) (actor.Controller p) rest letters (controllers_apart p b (λ e. other (sym e))))) (keeps b chosen other));
      served = λ s there.
          subst (λ (l : List Message). IsAttended kinds setup c' s (switches s) l (from_switch_of after_turn s)) (sym (posted_own controller_message (actor.Controller p) (actor.Switch s) rest letters))
          (subst (λ (l : List Message). IsAttended kinds setup c' s (switches s) (to_switch_of rest s ++ told_to controller_message (actor.Switch s) letters) l)
          (sym (posted_other controller_message (actor.Controller p) (actor.Switch s) (actor.Controller p) rest letters refl)) (serves s there));
      ways = λ y among drawn. elim (in_append y rest (map (sent_by controller_message (actor.Controller p)) letters) among) [
        | inl old ↦ d.ways y (inr old) drawn
        | inr new ↦ let r = in_map (sent_by controller_message (actor.Controller p)) letters y new in way_of_letter y r.0 r.2 (only r.0 r.1) drawn
      ];
    }
      where
        way_of_letter : (y : Sent) (l : Letter ControllerSays) → y ≡ sent_by controller_message (actor.Controller p) l → ((b : ℕ) × (l.to ≡ actor.Controller b) × (b ≡ p → ⊥)) ⊎ ((t : ℕ) × (l.to ≡ actor.Switch t)) →
            is_drawn quorum y.from y.to ≡ true → IsWay p quorum y
        way_of_letter y l is (inl (b, to_b, other)) drawn =
            To_member b (ap (λ (z : Sent). z.from) is) (ap (λ (z : Sent). z.to) is ∙ to_b)
            (sym (ap (λ (z : Sent). is_drawn quorum z.from z.to) is ∙ ap (λ (a : Actor). is_drawn quorum (actor.Controller p) a) to_b) ∙ drawn) other
        way_of_letter y l is (inr (t, to_t)) drawn = To_switch t (ap (λ (z : Sent). z.from) is) (ap (λ (z : Sent). z.to) is ∙ to_t)
