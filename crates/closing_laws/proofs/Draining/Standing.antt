-- What stands after a past of a closing whose view has started, and what is left to do.
use Rattle.std.proofs.Common.{◌≡◌, ◌≤◌, ◌<◌, ◌⊎◌, inl, inr, ℕ, ◌%◌, Bool, true, false, List, [], ◌∷◌, ◌++◌, map, length, refl, sym, ◌∙◌, ap, subst, arith, append-nil, ◌+◌, ◌*◌}
use Rattle.std.specs.Prelude.{◌&&◌, None, if◌then◌else◌}
use Rattle.std.proofs.lemmas.Bool.{eq-eqb, cases_eq}
use Rattle.of_types.specs.declared.message.Event.{Event}
use Rattle.of_types.specs.Setups.{IsSetup}
use Rattle.journal.specs.declared.journal.Actor.{Actor}
use Rattle.journal.specs.declared.journal.Actor.TheVariants as actor
use Rattle.journal.specs.declared.journal.JournalEntry.{JournalEntry}
use Rattle.journal.specs.declared.journal.JournalEntry.TheVariants.{Post}
use Rattle.journal.specs.declared.journal.Letter.{Letter}
use Rattle.journal.specs.declared.journal.Packet.{Packet}
use Rattle.journal.specs.declared.journal.SaveResult.{SaveResult}
use Rattle.journal.specs.Actors.{actor_of}
use Rattle.journal.specs.Part.{part}
use Rattle.journal.specs.Limits.{pool_packets}
use Rattle.journal.specs.Pool.{pool, numbered_letters}
use Rattle.list_facts.specs.Lists.{IsIn}
use Rattle.vr_log.specs.declared.state.Status.{Status}
use Rattle.vr_log.specs.declared.state.Status.TheVariants.{Normal, ViewChange, Recovering, Down}
use Rattle.vr_log.specs.declared.state.VrState.{VrState}
use Rattle.vr_log.specs.Log.{received}
use Rattle.vr_log.specs.Members.{is_primary, leads}
use Rattle.of_switch.specs.declared.says.SwitchSays.{SwitchSays}
use Rattle.of_switch.specs.State.{SwitchState}
use Rattle.of_switch.specs.Rules.{switch_turn}
use Rattle.group_controller.specs.declared.messages.ControllerSays.{ControllerSays}
use Rattle.group_controller.specs.State.{ControllerState}
use Rattle.group_controller.specs.Rules.{controller_work}
use Rattle.run_spec.specs.declared.messages.Message.{Message}
use Rattle.run_spec.specs.States.{Scene, IsFaithful, ControllerAt, controller_message, sealed_letters, switch_at, switch_message}
use Rattle.run_spec.specs.Legal.{IsPossible}
use Rattle.run_spec.specs.Script.{IsInputOf, IsPosted, owed_of}
use Rattle.run_spec.proofs.Pasts.{possible_before, self_controller, self_switch}
use Rattle.run_spec.proofs.Pools.{one_actor}
use Rattle.run_laws.proofs.RunAgreement.Pasts.{fits}
use Rattle.run_laws.proofs.Laws.{always}
use Rattle.closing_laws.specs.Measure.{commands_from, left_to_do}
use Rattle.closing_laws.specs.Quorum.{has}
use Rattle.closing_laws.specs.Ways.{Sent, sent_by}
use Rattle.closing_laws.specs.Following.{KeepsUp, Start}
use Rattle.closing_laws.specs.Serving.{IsTrueOf}
use Rattle.closing_laws.proofs.Draining.Drained as drained_by
use Rattle.closing_laws.proofs.Draining.Drained.{heard_at, heard_of, put}
use Rattle.closing_laws.proofs.Journal.Carrying.{AllCarry, IsIdle, Posts, carry_both, controllers_stay, letters_carry, ordered_may, reported_may, sw, switches_stay}
use Rattle.closing_laws.proofs.Journal.Posting.{map_none, never_posts, posted_own, switch_fits}
use Rattle.closing_laws.proofs.Journal.Taking.{all_fit, at}
use Rattle.closing_laws.proofs.Measure.DrainingMeasure.{left_alike}
use Rattle.closing_laws.proofs.Measure.PrimaryLowers.{place_of}
use Rattle.closing_laws.proofs.Pool.Rooms.{Keeps, NothingBeside}
use Rattle.closing_laws.proofs.Pool.Rooms as rooms
use Rattle.closing_laws.proofs.Pool.Roomy.{IsRoomy}

module _ {B : Type 0} (scene : Scene B) (results : List (List SaveResult)) (w : ℕ) (quorum : List ℕ) (start : Start) where
  abbrev pub n : ℕ
  n = scene.setup.controllers

  abbrev pub p : ℕ
  p = w % n

  abbrev pub Past : Type 0
  Past = List (JournalEntry B)

  abbrev pub Drains' : ControllerState → (ℕ → VrState) → (ℕ → SwitchState) → List Sent → Type 0
  Drains' c members switches waiting = drained_by.Drains scene.kinds scene.setup w p quorum start c members switches waiting

  abbrev pub IsRoomy' : ControllerState → (ℕ → VrState) → (ℕ → SwitchState) → List Sent → Type 0
  IsRoomy' c members switches waiting = IsRoomy scene.kinds scene.setup w p quorum start c members switches waiting

  -- what the actors hold after a past, beside what is on its way
  pub record Stands (P : Past) (waiting : List Sent) : Type 0 where
    pub members : ℕ → VrState
    pub switches : ℕ → SwitchState
    pub members_are : (b : ℕ) → has quorum b ≡ true → (b ≡ p → ⊥) → (at scene results b P).now.vr ≡ members b
    pub switches_are : (s : ℕ) → s < length scene.setup.ports → (sw scene results s P).now ≡ switches s
    pub drains : Drains' (at scene results p P).now members switches waiting
    pub roomy : IsRoomy' (at scene results p P).now members switches waiting

  -- what an actor owes, as messages on their way
  abbrev pub owes : Actor → Past → List Sent
  owes (actor.Controller c) P = map (sent_by controller_message (actor.Controller c)) (at scene results c P).owed
  owes (actor.Switch s) P = map (sent_by switch_message (actor.Switch s)) (sw scene results s P).owed

  pub record Rests (P : Past) : Type 0 where
    pub waiting : List Sent
    pub carries : AllCarry scene.sealing (pool P) waiting
    pub stands : Stands P waiting
    pub posted : IsPosted scene results P

  pub record Owes (P : Past) : Type 0 where
    pub newest : JournalEntry B
    pub older : Past
    pub is : P ≡ newest ∷ older
    pub waiting : List Sent
    pub carries : AllCarry scene.sealing (pool P) waiting
    pub stands : Stands P (waiting ++ owes (actor_of newest) P)

  pub data Mode (P : Past) : Type 0 where
    Resting : Rests P → Mode P
    Owing : Owes P → Mode P

  -- what is left to do after a past, with this on its way
  abbrev pub left_after : Past → List Sent → ℕ
  left_after P waiting = left_to_do scene.kinds scene.setup quorum (at scene results p P).now (λ s. (sw scene results s P).now) waiting

  abbrev pub left_in : (P : Past) → Mode P → ℕ
  left_in P (Resting r) = left_after P r.waiting
  left_in P (Owing o) = left_after P (o.waiting ++ owes (actor_of o.newest) P)

  -- the turns for the commands of what is committed, from what was processed as the view started
  abbrev pub turns_for : ControllerState → ℕ
  turns_for c = 3 * commands_from scene.kinds scene.setup c (place_of start)

  abbrev pub turns_known : Past → ℕ
  turns_known P = turns_for (at scene results p P).now

  -- an actor that owes nothing
  none_owed : (a : Actor) (P : Past) → owed_of scene results a P ≡ [] → owes a P ≡ []
  none_owed (actor.Controller c) P h = ap (λ (ls : List (Letter ControllerSays)). map (sent_by controller_message (actor.Controller c)) ls) (map_none (λ (l : Letter ControllerSays). record { to = l.to; body = scene.sealing.sealed (controller_message l.body) }) (at scene results c P).owed h)
  none_owed (actor.Switch s) P h = ap (λ (ls : List (Letter SwitchSays)). map (sent_by switch_message (actor.Switch s)) ls) (map_none (λ (l : Letter SwitchSays). record { to = l.to; body = scene.sealing.sealed (switch_message l.body) }) (sw scene results s P).owed h)

  pub rested : (P : Past) → Mode P → IsPosted scene results P → Rests P
  rested P (Resting r) posted = r
  rested P (Owing o) posted =
      let mine = subst (λ (Q : Past). IsPosted scene results Q → owed_of scene results (actor_of o.newest) Q ≡ []) (sym o.is) (λ h. h) posted in
      let none = none_owed (actor_of o.newest) P mine in
      record {
        waiting = o.waiting;
        carries = o.carries;
        stands = subst (λ (ms : List Sent). Stands P ms) (ap (λ (ms : List Sent). o.waiting ++ ms) none ∙ append-nil o.waiting) o.stands;
        posted = posted;
      }

  pub rested_left : (P : Past) (mode : Mode P) (posted : IsPosted scene results P) → left_after P (rested P mode posted).waiting ≡ left_in P mode
  unfolding rested
  rested_left P (Resting r) posted = refl
  rested_left P (Owing o) posted =
      let mine = subst (λ (Q : Past). IsPosted scene results Q → owed_of scene results (actor_of o.newest) Q ≡ []) (sym o.is) (λ h. h) posted in
      sym (ap (λ (ms : List Sent). left_after P (o.waiting ++ ms)) (none_owed (actor_of o.newest) P mine) ∙ ap (left_after P) (append-nil o.waiting))

  -- an entry that changes nobody leaves as much
  pub idle_left : (e : JournalEntry B) (P : Past) (waiting : List Sent) → IsIdle scene results e → left_after (e ∷ P) waiting ≡ left_after P waiting
  idle_left e P waiting idle =
      ap (λ (c : ControllerState). left_to_do scene.kinds scene.setup quorum c (λ s. (sw scene results s (e ∷ P)).now) waiting) (controllers_stay scene results e P idle p)
      ∙ left_alike scene.kinds scene.setup quorum (at scene results p P).now (λ s. (sw scene results s (e ∷ P)).now) (λ s. (sw scene results s P).now) waiting (λ k there. switches_stay scene results e P idle k)

  pub idle_known : (e : JournalEntry B) (P : Past) → IsIdle scene results e → turns_known (e ∷ P) ≡ turns_known P
  idle_known e P idle = ap turns_for (controllers_stay scene results e P idle p)

  -- an entry that changes nobody
  pub idle_stands : (e : JournalEntry B) (P : Past) (waiting : List Sent) → IsIdle scene results e → Stands P waiting → Stands (e ∷ P) waiting
  idle_stands e P waiting idle s = record {
    members = s.members;
    switches = s.switches;
    members_are = λ b chosen other. ap (λ (c : ControllerState). c.vr) (controllers_stay scene results e P idle b) ∙ s.members_are b chosen other;
    switches_are = λ k there. switches_stay scene results e P idle k ∙ s.switches_are k there;
    drains = subst (λ (c : ControllerState). Drains' c s.members s.switches waiting) (sym (controllers_stay scene results e P idle p)) s.drains;
    roomy = subst (λ (c : ControllerState). IsRoomy' c s.members s.switches waiting) (sym (controllers_stay scene results e P idle p)) s.roomy;
  }

  pub posted_after : (a : Actor) (first : ℕ) (letters : List (Letter B)) (lost : ℕ) (P : Past) → owed_of scene results a (Post a first letters lost ∷ P) ≡ []
  posted_after (actor.Controller c) first letters lost P =
      ap (λ (x : ControllerAt). sealed_letters controller_message scene.sealing x.owed) (posted_own scene results c first letters lost P)
  posted_after (actor.Switch s) first letters lost P =
      ap (λ (b : Bool). sealed_letters switch_message scene.sealing (switch_at scene s (if b then (Post (actor.Switch s) first letters lost, None) ∷ part (actor.Switch s) P else part (actor.Switch s) P)).owed) (self_switch s)

  abbrev pub AreTrue : ControllerState → (ℕ → SwitchState) → Type 0
  AreTrue c switches = rooms.AreTrue scene.kinds scene.setup c switches

  -- the members of the quorum have promised no later view
  pub record HavePromised (P : Past) : Type 0 where
    pub leads : leads (at scene results p P).now.vr ≡ true
    pub view : (at scene results p P).now.vr.view ≡ w
    pub promises : (b : ℕ) → has quorum b ≡ true → (at scene results b P).now.vr.promise ≤ w

  -- an entry that changes nobody keeps what is promised
  pub idle_promised : (e : JournalEntry B) (P : Past) → IsIdle scene results e → HavePromised P → HavePromised (e ∷ P)
  idle_promised e P idle h = record {
    leads = ap (λ (c : ControllerState). leads c.vr) (controllers_stay scene results e P idle p) ∙ h.leads;
    view = ap (λ (c : ControllerState). c.vr.view) (controllers_stay scene results e P idle p) ∙ h.view;
    promises = λ b chosen. subst (λ (c : ControllerState). c.vr.promise ≤ w) (sym (controllers_stay scene results e P idle b)) (h.promises b chosen);
  }

  -- what is true of the states of a past is true of states that are those
  pub true_of : (P : Past) (waiting : List Sent) (s : Stands P waiting) → AreTrue (at scene results p P).now (λ k. (sw scene results k P).now) → AreTrue (at scene results p P).now s.switches
  true_of P waiting s t = record {
    primary = t.primary;
    each = λ k there. subst (λ (x : SwitchState). IsTrueOf scene.kinds scene.setup (at scene results p P).now k x) (s.switches_are k there) (t.each k there);
  }

  leads_now : (s : VrState) → s.status ≡ Normal → is_primary s ≡ true → leads s ≡ true
  leads_now s normal primary =
      ap (λ (x : Status). (elim x [ Normal ↦ true | ViewChange ↦ false | Recovering ↦ false | Down ↦ false ]) && is_primary s) normal ∙ primary

  pub promised : (P : Past) (waiting : List Sent) → Stands P waiting → HavePromised P
  promised P waiting s =
      let d = s.drains.primary in
      record {
        leads = leads_now c.vr d.lead.normal (eq-eqb (c.vr.view % c.vr.controllers) c.vr.me (ap (λ (v : ℕ). v % c.vr.controllers) d.view ∙ ap (λ (k : ℕ). w % k) d.size ∙ sym d.me));
        view = d.view;
        promises = λ b chosen. by_same b chosen (cases_eq b p);
      }
    where
      c : ControllerState
      c = (at scene results p P).now

      of_member : (b : ℕ) (x : VrState) (out in_ : List Message) → KeepsUp start c.vr b x out in_ → x.promise ≤ c.vr.view
      of_member b x out in_ (inl h) = let is = ap (λ (y : VrState). y.promise) h.state_is in omega (arith, is)
      of_member b x out in_ (inr h) = h.promise

      by_same : (b : ℕ) → has quorum b ≡ true → (b ≡ p) ⊎ (b ≡ p → ⊥) → (at scene results b P).now.vr.promise ≤ w
      by_same b chosen (inl e) =
          let low = s.drains.primary.lead.promise in
          let view = s.drains.primary.view in
          let it : c.vr.promise ≤ w = omega (arith, low, view) in
          subst (λ (k : ℕ). (at scene results k P).now.vr.promise ≤ w) (sym e) it
      by_same b chosen (inr e) =
          let low = of_member b (s.members b) _ _ (s.drains.keeps_up b chosen e) in
          let view = s.drains.primary.view in
          let same = ap (λ (y : VrState). y.promise) (s.members_are b chosen e) in
          omega (arith, low, view, same)

  pub mode_promised : (P : Past) → Mode P → HavePromised P
  mode_promised P (Resting r) = promised P r.waiting r.stands
  mode_promised P (Owing o) = promised P (o.waiting ++ owes (actor_of o.newest) P) o.stands

  -- one that leads, with the same view and promise
  pub record IsAlike (c c' : ControllerState) : Type 0 where
    pub leads : leads c'.vr ≡ leads c.vr
    pub view : c'.vr.view ≡ c.vr.view
    pub promise : c'.vr.promise ≡ c.vr.promise

  -- a turn of the primary that hears a member or a switch
  pub record PrimaryTurn (c : ControllerState) (members : ℕ → VrState) (switches : ℕ → SwitchState) (m : Sent) (rest : List Sent) : Type 0 where
    pub unsaved : (controller_work scene.kinds scene.setup c (heard_of m)).save ≡ None
    pub alike : IsAlike c (controller_work scene.kinds scene.setup c (heard_of m)).state
    pub keeps : AreTrue c switches → AreTrue (controller_work scene.kinds scene.setup c (heard_of m)).state switches → (controller_work scene.kinds scene.setup c (heard_of m)).state.full ≡ None →
        Drains' (controller_work scene.kinds scene.setup c (heard_of m)).state members switches
        (rest ++ map (sent_by controller_message (actor.Controller p)) (controller_work scene.kinds scene.setup c (heard_of m)).letters)
    pub lowers : AreTrue c switches → AreTrue (controller_work scene.kinds scene.setup c (heard_of m)).state switches →
        left_to_do scene.kinds scene.setup quorum (controller_work scene.kinds scene.setup c (heard_of m)).state switches
        (rest ++ map (sent_by controller_message (actor.Controller p)) (controller_work scene.kinds scene.setup c (heard_of m)).letters) + 1 + turns_for c ≤
        left_to_do scene.kinds scene.setup quorum c switches (m ∷ rest) + turns_for (controller_work scene.kinds scene.setup c (heard_of m)).state

  -- what holds in all of it: a turn of the primary or of a switch keeps what stands, with less to do, and what is true in each past
  pub record HoldsThroughout : Type 0 where
    pub inside : has quorum p ≡ true
    pub small : p < n
    pub by_primary : (c : ControllerState) (members : ℕ → VrState) (switches : ℕ → SwitchState) (m : Sent) (rest : List Sent) → Drains' c members switches (m ∷ rest) → m.to ≡ actor.Controller p →
        ((b : ℕ) × (m.from ≡ actor.Controller b) × (has quorum b ≡ true) × (b ≡ p → ⊥)) ⊎ ((s : ℕ) × (m.from ≡ actor.Switch s) × (s < length scene.setup.ports)) →
        ((s : ℕ) → s < length scene.setup.ports → IsTrueOf scene.kinds scene.setup c s (switches s)) → PrimaryTurn c members switches m rest
    pub by_switch : (c : ControllerState) (members : ℕ → VrState) (switches : ℕ → SwitchState) (m : Sent) (rest : List Sent) (s : ℕ) → s < length scene.setup.ports → m.from ≡ actor.Controller p → m.to ≡ actor.Switch s →
        Drains' c members switches (m ∷ rest) → AreTrue c switches → AreTrue c (put switches s (switch_turn (switches s) (heard_at m)).state) →
        Drains' c members (put switches s (switch_turn (switches s) (heard_at m)).state) (rest ++ map (sent_by switch_message (actor.Switch s)) (switch_turn (switches s) (heard_at m)).letters)
        × (left_to_do scene.kinds scene.setup quorum c (put switches s (switch_turn (switches s) (heard_at m)).state) (rest ++ map (sent_by switch_message (actor.Switch s)) (switch_turn (switches s) (heard_at m)).letters) + 1 ≤
        left_to_do scene.kinds scene.setup quorum c switches (m ∷ rest))
    pub truths : (P : Past) → IsPossible scene results P → HavePromised P → AreTrue (at scene results p P).now (λ s. (sw scene results s P).now)
    pub named : (P : Past) → IsPossible scene results P → (q : Packet B) → IsIn q (pool P) → (s : ℕ) → (q.to ≡ actor.Switch s) ⊎ (q.from ≡ actor.Switch s) → s < length scene.setup.ports
    pub logged : (P : Past) → IsPossible scene results P → HavePromised P → (e : Event) → IsIn e (received (at scene results p P).now.vr.log) → e.switch < length scene.setup.ports
    pub keeps_room : Keeps scene.kinds scene.setup w p quorum start NothingBeside IsRoomy'
    pub has_room : (c : ControllerState) (members : ℕ → VrState) (switches : ℕ → SwitchState) (waiting : List Sent) → Drains' c members switches waiting → AreTrue c switches →
        ((e : Event) → IsIn e (received c.vr.log) → e.switch < length scene.setup.ports) → IsRoomy' c members switches waiting → length waiting ≤ pool_packets

  -- and what is posted
  module _ (setup : IsSetup scene.setup) (faithful : IsFaithful scene.sealing) where
    -- what an actor owes can be said
    pub post_carries : (a : Actor) (first : ℕ) (letters : List (Letter B)) (lost : ℕ) (P : Past) → IsPossible scene results (Post a first letters lost ∷ P) →
        AllCarry scene.sealing (numbered_letters first a letters) (owes a P)
    post_carries (actor.Controller c) first letters lost P possible =
        let old = possible_before scene results _ P possible in
        let may = fits scene results (Post (actor.Controller c) first letters lost) P possible c (self_controller c) in
        let holds = (always scene results setup faithful P old 0).controllers c (possible.named.0) in
        subst (λ (ls : List (Letter B)). AllCarry scene.sealing (numbered_letters first (actor.Controller c) ls) (owes (actor.Controller c) P)) (sym may.0)
        (letters_carry scene.sealing faithful controller_message (actor.Controller c) first (at scene results c P).owed (λ l among. ordered_may scene.kinds scene.setup _ c l (holds.owed l among)) may.2)
    post_carries (actor.Switch s) first letters lost P possible =
        let old = possible_before scene results _ P possible in
        let may = switch_fits scene results s (Post (actor.Switch s) first letters lost) P refl possible possible.named.0 in
        let holds = (always scene results setup faithful P old 0).switches s (possible.named.0) in
        subst (λ (ls : List (Letter B)). AllCarry scene.sealing (numbered_letters first (actor.Switch s) ls) (owes (actor.Switch s) P)) (sym may.0)
        (letters_carry scene.sealing faithful switch_message (actor.Switch s) first (sw scene results s P).owed (λ l among. reported_may s _ _ l (holds.owed l among)) may.2)

    -- what is owed is posted
    pub posts : (P : Past) → Mode P → (a : Actor) (first : ℕ) (letters : List (Letter B)) (lost : ℕ) → IsInputOf a P → IsPossible scene results (Post a first letters lost ∷ P) → lost ≡ 0 → Rests (Post a first letters lost ∷ P)
    posts P (Resting r) a first letters lost input possible room = absurd (never_posts scene results P r.posted a first letters lost input possible)
    posts P (Owing o) a first letters lost input possible room =
        let it = subst (λ (Q : Past). IsInputOf a Q) o.is input in
        let whose : actor_of o.newest ≡ a = one_actor (actor_of o.newest) a it.1 in
        record {
          waiting = o.waiting ++ owes a P;
          carries = subst (λ (ps : List (Packet B)). AllCarry scene.sealing ps (o.waiting ++ owes a P)) (sym (ap (λ (l : List (Packet B)). pool P ++ l) (all_fit first a letters lost room)))
              (carry_both scene.sealing (pool P) (numbered_letters first a letters) o.waiting (owes a P) o.carries (post_carries a first letters lost P possible));
          stands = idle_stands (Post a first letters lost) P (o.waiting ++ owes a P) (Posts a first letters lost) (subst (λ (b : Actor). Stands P (o.waiting ++ owes b P)) whose o.stands);
          posted = posted_after a first letters lost P;
        }

    pub posts_left : (P : Past) (mode : Mode P) (a : Actor) (first : ℕ) (letters : List (Letter B)) (lost : ℕ) (input : IsInputOf a P) (possible : IsPossible scene results (Post a first letters lost ∷ P)) (room : lost ≡ 0) →
        left_after (Post a first letters lost ∷ P) (posts P mode a first letters lost input possible room).waiting ≡ left_in P mode
    unfolding posts
    posts_left P (Resting r) a first letters lost input possible room =
        absurd (never_posts scene results P r.posted a first letters lost input possible)
    posts_left P (Owing o) a first letters lost input possible room =
        let it = subst (λ (Q : Past). IsInputOf a Q) o.is input in
        let whose : actor_of o.newest ≡ a = one_actor (actor_of o.newest) a it.1 in
        idle_left (Post a first letters lost) P (o.waiting ++ owes a P) (Posts a first letters lost) ∙ ap (λ (b : Actor). left_after P (o.waiting ++ owes b P)) (sym whose)
