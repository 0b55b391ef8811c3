-- A turn of the primary keeps what is true while a closing is drained.
use Rattle.std.proofs.Common.{◌≡◌, ◌≤◌, ◌<◌, ◌⊎◌, inl, inr, ℕ, ◌+◌, ◌/◌, ◌%◌, max, true, false, List, ◌∷◌, ◌++◌, map, length, take, refl, sym, ◌∙◌, ap, subst, arith, length-set}
use Rattle.std.specs.Prelude.{nat_eq, ◌&&◌, slice_index, None}
use Rattle.std.specs.List.{AllByRecursion}
use Rattle.std.proofs.lemmas.List.{get_or-set_other, get_or-set_same, take-append-le, length-append}
use Rattle.std.proofs.lemmas.Bool.{cases_lt, cases_order, eq-eqb, cases_eq}
use Rattle.of_types.specs.declared.message.Spoken.{Spoken}
use Rattle.of_types.specs.declared.numbers.TheConstants.{MASTER}
use Rattle.of_types.specs.declared.setup.Setup.{Setup}
use Rattle.journal.specs.declared.journal.Actor.{Actor}
use Rattle.journal.specs.declared.journal.Actor.TheVariants as actor
use Rattle.journal.specs.declared.journal.Letter.{Letter}
use Rattle.list_facts.specs.Lists.{IsIn}
use Rattle.vr_log.specs.declared.entry.Entry.{Entry}
use Rattle.vr_log.specs.declared.message.VrMessage.TheVariants as vr
use Rattle.vr_log.specs.declared.state.Status.{Status}
use Rattle.vr_log.specs.declared.state.Status.TheVariants.{Normal, ViewChange, Recovering, Down}
use Rattle.vr_log.specs.declared.state.VrState.{VrState}
use Rattle.vr_log.specs.Members.{is_normal, is_primary, leads, most_failures}
use Rattle.vr_normal.specs.Cases.{acked_by}
use Rattle.of_switch.specs.State.{SwitchState, life_of}
use Rattle.group_controller.specs.declared.messages.ControllerInput.{ControllerInput}
use Rattle.group_controller.specs.declared.messages.ControllerInput.TheVariants as controller_input
use Rattle.group_controller.specs.declared.messages.ControllerSays.{ControllerSays}
use Rattle.group_controller.specs.State.{ControllerState, Work}
use Rattle.group_controller.specs.Rules.{controller_work}
use Rattle.dispatcher.specs.Marks.{Marks}
use Rattle.run_spec.specs.declared.messages.Message.{Message}
use Rattle.run_spec.specs.declared.messages.Message.TheVariants as message
use Rattle.run_spec.specs.declared.messages.Unsealed.TheVariants as unsealed
use Rattle.run_spec.specs.States.{controller_hears, controller_message}
use Rattle.closing_laws.specs.Quorum.{has}
use Rattle.closing_laws.specs.Ways.{Sent, sent_by, between, told_to}
use Rattle.closing_laws.specs.Following.{ArePrepares, Start, KeepsUp, IsAgreed, LeadsFrom}
use Rattle.closing_laws.specs.Serving.{AreFew, Extends, IsSaidIn, Replies, Tells, Results, IsAttended, IsSettled, IsTrueOf, IsTruePrimary}
use Rattle.closing_laws.proofs.Draining.Agreeing.{agreed_longer, counted_agreed, keeps_up_acked, keeps_up_still}
use Rattle.closing_laws.proofs.Draining.Drained as drained_by
use Rattle.closing_laws.proofs.Draining.Drained.{way_apart, heard_of}
use Rattle.closing_laws.proofs.Draining.Followers.{keeps_up_longer, started_within}
use Rattle.closing_laws.proofs.Journal.Between.{between_other, between_own}
use Rattle.closing_laws.proofs.Lists.Picked.{IsPicked, another}
use Rattle.closing_laws.proofs.Primary.Agreed as agreed_by
use Rattle.closing_laws.proofs.Primary.Confirmed as confirmed
use Rattle.closing_laws.proofs.Primary.EventTurns as event_by
use Rattle.closing_laws.proofs.Primary.ProperTurns.{AreForOthers, IsProper, IsSamePlace}
use Rattle.closing_laws.proofs.Primary.ProperTurns as proper
use Rattle.closing_laws.proofs.Primary.Resulted as result_by
use Rattle.closing_laws.proofs.Primary.Turned.{HasTurned}

pub leads_alike : (s s' : VrState) → IsSamePlace s s' → leads s' ≡ leads s
leads_alike s s' h =
    ap (λ (x : Status). (elim x [ Normal ↦ true | ViewChange ↦ false | Recovering ↦ false | Down ↦ false ]) && is_primary s') h.status
    ∙ ap (λ (v : ℕ). is_normal s && nat_eq (v % s'.controllers) s'.me) h.view
    ∙ ap (λ (n : ℕ). is_normal s && nat_eq (s.view % n) s'.me) h.controllers
    ∙ ap (λ (k : ℕ). is_normal s && nat_eq (s.view % s.controllers) k) h.me

module _ (kinds : List ℕ) (setup : Setup) (few : AreFew kinds setup) (w p : ℕ) (quorum : List ℕ) (start : Start) (picked : IsPicked setup.controllers w quorum) (inside : has quorum p ≡ true)
    (leader : p ≡ w % setup.controllers) (small : (b : ℕ) → has quorum b ≡ true → b < setup.controllers) where
  abbrev n : ℕ
  n = setup.controllers

  abbrev Drains : ControllerState → (ℕ → VrState) → (ℕ → SwitchState) → List Sent → Type 0
  Drains c members switches waiting = drained_by.Drains kinds setup w p quorum start c members switches waiting

  -- what a turn that extends the log leaves of the members
  module _ (c : ControllerState) (old : VrState) (members : ℕ → VrState) (out in_ : ℕ → List Message) (work : Work) (me : old.me ≡ p) (size : old.controllers ≡ n) (view : old.view ≡ w) (lead : LeadsFrom start old)
      (agreed : IsAgreed old quorum) (keeps : (b : ℕ) → has quorum b ≡ true → (b ≡ p → ⊥) → KeepsUp start old b (members b) (out b) (in_ b))
      (c_is : c.vr ≡ old) (more : List Entry) (e : Extends c more work.state work.letters) (settled : IsSettled kinds setup work.state) (now_true : IsTruePrimary work.state) where
    abbrev new : VrState
    new = work.state.vr

    same : IsSamePlace old new
    same = subst (λ (s : VrState). IsSamePlace s new) c_is record {
      me = ap (λ (s : VrState). s.me) e.state_is;
      controllers = ap (λ (s : VrState). s.controllers) e.state_is;
      status = ap (λ (s : VrState). s.status) e.state_is;
      view = ap (λ (s : VrState). s.view) e.state_is;
      promise = ap (λ (s : VrState). s.promise) e.state_is;
    }

    log_is : new.log ≡ old.log ++ more
    log_is = ap (λ (s : VrState). s.log) e.state_is ∙ ap (λ (s : VrState). s.log ++ more) c_is

    acked_is : new.acked ≡ old.acked
    acked_is = ap (λ (s : VrState). s.acked) e.state_is ∙ ap (λ (s : VrState). s.acked) c_is

    -- alone, or one of several
    commit_is : ((most_failures old ≡ 0) × (new.commit ≡ old.commit + length more)) ⊎ ((0 < most_failures old) × (new.commit ≡ old.commit))
    commit_is = by_size (cases_lt 0 (most_failures old))
      where
        by_size : (0 < most_failures old) ⊎ (most_failures old ≤ 0) → ((most_failures old ≡ 0) × (new.commit ≡ old.commit + length more)) ⊎ ((0 < most_failures old) × (new.commit ≡ old.commit))
        by_size (inl some) = inr (some, e.several (subst (λ (s : VrState). 0 < most_failures s) (sym c_is) some) ∙ ap (λ (s : VrState). s.commit) c_is)
        by_size (inr none) =
            let zero_it : most_failures old ≡ 0 = omega (arith, none) in
            inl (zero_it, e.alone (ap most_failures c_is ∙ zero_it) ∙ ap (λ (s : VrState). s.commit + length more) c_is)

    more_committed : old.commit ≤ new.commit
    more_committed = elim commit_is [ inl a ↦ let k = a.1 in omega (arith, k) | inr b ↦ let k = b.1 in omega (arith, k) ]

    lead_now : LeadsFrom start new
    lead_now = record {
      begins = ap (take (length start.log)) log_is ∙ take-append-le (length start.log) old.log more (started_within start old lead) ∙ lead.begins;
      started = lead.started;
      within = lead.within;
      known = (let known = lead.known in let up = more_committed in omega (arith, known, up));
      commit = now_true.commit;
      one = now_true.one;
      normal = same.status ∙ lead.normal;
      promise = (let low = lead.promise in let p1 = same.promise in let v1 = same.view in omega (arith, low, p1, v1));
      counts = ap (λ (l : List ℕ). length l) acked_is ∙ lead.counts ∙ sym same.controllers;
    }

    -- what members acknowledged is within the log
    acked_within : (b : ℕ) → has quorum b ≡ true → (b ≡ p → ⊥) → slice_index old.acked b ≤ length old.log
    acked_within b chosen other = by_state (keeps b chosen other)
      where
        by_state : KeepsUp start old b (members b) (out b) (in_ b) → slice_index old.acked b ≤ length old.log
        by_state (inl k) = let none = k.acked in omega (arith, none)
        by_state (inr k) = let low = k.acked in let most = k.most in omega (arith, low, most)

    some_other : 0 < most_failures old → (b : ℕ) × (has quorum b ≡ true) × (b ≡ p → ⊥)
    some_other some = let half = ap (λ (k : ℕ). k / 2) size in another n w p quorum picked inside (omega (arith, half, some))

    whole : most_failures old ≡ 0 → old.commit ≡ length old.log
    whole none =
        let all = agreed (length old.log) (omega arith) (λ b chosen other.
        let low = small b chosen in let low_p = small p inside in
        absurd (other (let same_b : b ≡ p = omega (arith, low, low_p, none, size) in same_b ∙ sym me))) in
        let within = lead.commit in
        omega (arith, all, within)

    agreed_now : IsAgreed new quorum
    agreed_now = agreed_longer old new quorum more log_is same.me acked_is more_committed (by_size commit_is) agreed
      where
        by_size : ((most_failures old ≡ 0) × (new.commit ≡ old.commit + length more)) ⊎ ((0 < most_failures old) × (new.commit ≡ old.commit)) →
            ((b : ℕ) × (has quorum b ≡ true) × (b ≡ old.me → ⊥) × (slice_index old.acked b ≤ length old.log)) ⊎ (new.commit ≡ length new.log)
        by_size (inl a) =
            let before = whole a.0 in let grown = a.1 in let long = ap (λ (l : List Entry). length l) log_is ∙ length-append old.log more in
            inr (omega (arith, before, grown, long))
        by_size (inr b) = let o = some_other b.0 in inl (o.0, o.1, (λ i. o.2 (i ∙ me)), acked_within o.0 o.1 o.2)

    pub is_draining : drained_by.IsDraining kinds setup w p quorum start work.state
    is_draining = record {
      me = same.me ∙ me;
      size = same.controllers ∙ size;
      view = same.view ∙ view;
      lead = lead_now;
      settled = settled;
      agreed = agreed_now;
    }

    pub all_keep_up : (b : ℕ) → has quorum b ≡ true → (b ≡ p → ⊥) → KeepsUp start new b (members b) (out b ++ told_to controller_message (actor.Controller b) work.letters) (in_ b)
    all_keep_up b chosen other =
        keeps_up_longer start old lead new more b (members b) (out b) (in_ b) (told_to controller_message (actor.Controller b) work.letters) same.controllers same.view log_is more_committed
        (ap (λ (l : List ℕ). slice_index l b) acked_is)
        (subst (λ (s : VrState). ArePrepares s.view new.commit (length s.log) more (told_to controller_message (actor.Controller b) work.letters)) c_is
        (e.members b (let low = small b chosen in let same_n = ap (λ (s : VrState). s.controllers) c_is in omega (arith, low, same_n, size)) (λ i. other (i ∙ ap (λ (s : VrState). s.me) c_is ∙ me))))
        (keeps b chosen other)

  -- a turn of the primary
  module _ (c : ControllerState) (members : ℕ → VrState) (switches : ℕ → SwitchState) (m : Sent) (rest : List Sent) (d : Drains c members switches (m ∷ rest)) (to : m.to ≡ actor.Controller p)
      (true_of : (s : ℕ) → s < length setup.ports → IsTrueOf kinds setup c s (switches s)) where
    abbrev work : Work
    work = controller_work kinds setup c (heard_of m)

    abbrev out : ℕ → List Message
    out t = between (actor.Controller p) (actor.Switch t) rest

    abbrev in_before : ℕ → List Message
    in_before t = between (actor.Switch t) (actor.Controller p) (m ∷ rest)

    abbrev in_after : ℕ → List Message
    in_after t = between (actor.Switch t) (actor.Controller p) rest

    leading : leads c.vr ≡ true
    leading =
        let q = d.primary in
        ap (λ (x : Status). (elim x [ Normal ↦ true | ViewChange ↦ false | Recovering ↦ false | Down ↦ false ]) && is_primary c.vr) q.lead.normal
        ∙ eq-eqb (c.vr.view % c.vr.controllers) c.vr.me (ap (λ (v : ℕ). v % c.vr.controllers) q.view ∙ ap (λ (k : ℕ). w % k) q.size ∙ sym leader ∙ sym q.me)

    small_p : p < n
    small_p = small p inside

    -- what is on its way to members, and from those that said nothing now
    out_same : (a t : Actor) → (t ≡ actor.Controller p → ⊥) → between a t (m ∷ rest) ≡ between a t rest
    out_same a t other = between_other a t m rest (way_apart a t m (λ f g. other (sym g ∙ to)))

    pub served : (t : ℕ) → t < length setup.ports → IsAttended kinds setup c t (switches t) (out t) (in_before t)
    served t less = subst (λ (l : List Message). IsAttended kinds setup c t (switches t) l (in_before t)) (out_same (actor.Controller p) (actor.Switch t) (λ e. absurd cc)) (d.served t less)

    -- letters go to switches and to other members
    apart_letters : (x : Work) → AreForOthers c.vr.me x.letters → (l : Letter ControllerSays) → IsIn l x.letters → ((b : ℕ) × (l.to ≡ actor.Controller b) × (b ≡ p → ⊥)) ⊎ ((t : ℕ) × (l.to ≡ actor.Switch t))
    apart_letters x others l among = by_actor l.to refl
      where
        by_actor : (a : Actor) → l.to ≡ a → ((b : ℕ) × (l.to ≡ actor.Controller b) × (b ≡ p → ⊥)) ⊎ ((t : ℕ) × (l.to ≡ actor.Switch t))
        by_actor (actor.Controller b) is = inl (b, is, (λ e. others l among b is (e ∙ sym d.primary.me)))
        by_actor (actor.Switch t) is = inr (t, is)

    -- alone, all is committed
    pub whole_p : most_failures c.vr ≡ 0 → c.vr.commit ≡ length c.vr.log
    whole_p none =
        let q = d.primary in
        let size = q.size in
        let all = q.agreed (length c.vr.log) (omega arith) (λ b chosen other.
        let low = small b chosen in let low_p = small_p in
        absurd (other (let same_b : b ≡ p = omega (arith, low, low_p, none, size) in same_b ∙ sym q.me))) in
        let within = q.lead.commit in
        omega (arith, all, within)

    -- from a switch
    module _ (k : ℕ) (from : m.from ≡ actor.Switch k) (there : k < length setup.ports) where
      own : in_before k ≡ m.said ∷ in_after k
      own = between_own (actor.Switch k) (actor.Controller p) m rest from to

      others : (t : ℕ) → (t ≡ k → ⊥) → in_after t ≡ in_before t
      others t other = sym (between_other (actor.Switch t) (actor.Controller p) m rest (way_apart (actor.Switch t) (actor.Controller p) m (λ f g. other (let e : actor.Switch k ≡ actor.Switch t = sym from ∙ f in let s : k ≡ t = cc in sym s))))

      pub said_in : IsSaidIn c.vr.view (life_of (switches k)) m.said
      said_in = (subst (λ (l : List Message). AllByRecursion (λ x. IsSaidIn c.vr.view (life_of (switches k)) x) l) own (served k there).heard).0

      -- what the turn leaves, by what it left of the switches
      leaves : (x : Work) (marks : Marks) → HasTurned kinds setup switches in_after c out marks x → IsTruePrimary x.state → AreForOthers c.vr.me x.letters →
          Drains x.state members switches (rest ++ map (sent_by controller_message (actor.Controller p)) x.letters)
      leaves x marks h now_true apart =
          let q = d.primary in
          let keeps = λ (b : ℕ) (chosen : has quorum b ≡ true) (other : b ≡ p → ⊥).
          subst (λ (l : List Message). KeepsUp start c.vr b (members b) (between (actor.Controller p) (actor.Controller b) rest) l)
          (between_other (actor.Controller b) (actor.Controller p) m rest (way_apart (actor.Controller b) (actor.Controller p) m (λ f g. absurd (let e : actor.Switch k ≡ actor.Controller b = sym from ∙ f in cc))))
          (subst (λ (l : List Message). KeepsUp start c.vr b (members b) l (between (actor.Controller b) (actor.Controller p) (m ∷ rest)))
          (out_same (actor.Controller p) (actor.Controller b) (λ e. other (let s : b ≡ p = cc in s))) (d.keeps_up b chosen other)) in
          let outs = λ (b : ℕ). between (actor.Controller p) (actor.Controller b) rest in
          let ins = λ (b : ℕ). between (actor.Controller b) (actor.Controller p) rest in
          drained_by.drains_primary kinds setup w p quorum start c x.state members switches m rest x.letters d
          (is_draining c c.vr members outs ins x q.me q.size q.view q.lead q.agreed keeps refl h.more h.extends h.settled now_true)
          (all_keep_up c c.vr members outs ins x q.me q.size q.view q.lead q.agreed keeps refl h.more h.extends h.settled now_true)
          h.served (apart_letters x apart)

      -- what it heard
      pub heard_is : (xid : ℕ) (x : Spoken) → m.said ≡ message.Of xid x → heard_of m ≡ controller_input.Of k xid x
      heard_is xid x is = ap (λ (a : Actor). controller_hears a (unsealed.Message m.said)) from ∙ ap (λ (y : Message). controller_hears (actor.Switch k) (unsealed.Message y)) is

      pub own_is : (x : Message) → m.said ≡ x → in_before k ≡ x ∷ in_after k
      own_is x is = own ∙ ap (λ (y : Message). y ∷ in_after k) is

      abbrev Kept : Work → Type 0
      Kept x = IsTruePrimary c → IsTruePrimary x.state → ((t : ℕ) → t < length setup.ports → IsTrueOf kinds setup x.state t (switches t)) → x.state.full ≡ None →
          Drains x.state members switches (rest ++ map (sent_by controller_message (actor.Controller p)) x.letters)

      heard_from : (x : ControllerInput) → heard_of m ≡ x → IsProper kinds setup c (controller_work kinds setup c x) → Kept (controller_work kinds setup c x) →
          IsProper kinds setup c work × Kept work
      heard_from x is right keeps = (
        subst (λ (y : ControllerInput). IsProper kinds setup c (controller_work kinds setup c y)) (sym is) right,
        subst (λ (y : ControllerInput). Kept (controller_work kinds setup c y)) (sym is) keeps,
      )

      by_kind : (x : Message) → m.said ≡ x → IsSaidIn c.vr.view (life_of (switches k)) x → IsProper kinds setup c work × Kept work
      by_kind _ is (Replies xid) =
          let right = proper.replies kinds setup c leading k xid MASTER c.vr.view in
          heard_from _ (heard_is xid _ is) right (λ one now_true now_truths full.
          leaves _ _ (confirmed.role_comes kinds setup few switches in_before in_after out c one whole_p d.primary.settled true_of served k xid (own_is _ is) others) now_true right.others)
      by_kind _ is (Tells xid number what) =
          let right = proper.events kinds setup c leading k xid (life_of (switches k)) number what in
          heard_from _ (heard_is xid _ is) right (λ one now_true now_truths full.
          leaves _ _ (event_by.event_comes kinds setup few switches in_before in_after out c one whole_p d.primary.settled true_of served k xid number what there (own_is _ is) others full now_true now_truths) now_true right.others)
      by_kind _ is (Results xid number result) =
          let right = proper.results kinds setup c leading k xid (life_of (switches k)) number result in
          heard_from _ (heard_is xid _ is) right (λ one now_true now_truths full.
          leaves _ _ (result_by.result_comes kinds setup few switches in_before in_after out c one whole_p d.primary.settled served k xid number result there (own_is _ is) others full now_true now_truths) now_true right.others)

      pub hears_switch : IsProper kinds setup c work × Kept work
      hears_switch = by_kind m.said refl said_in

    -- from a member of the quorum
    module _ (b : ℕ) (from : m.from ≡ actor.Controller b) (chosen : has quorum b ≡ true) (apart : b ≡ p → ⊥) where
      from_others : (t : ℕ) → in_after t ≡ in_before t
      from_others t = sym (between_other (actor.Switch t) (actor.Controller p) m rest (way_apart (actor.Switch t) (actor.Controller p) m (λ f g. absurd (let e : actor.Controller b ≡ actor.Switch t = sym from ∙ f in cc))))

      keeps_in : KeepsUp start c.vr b (members b) (between (actor.Controller p) (actor.Controller b) rest) (m.said ∷ between (actor.Controller b) (actor.Controller p) rest)
      keeps_in =
          subst (λ (l : List Message). KeepsUp start c.vr b (members b) (between (actor.Controller p) (actor.Controller b) rest) l) (between_own (actor.Controller b) (actor.Controller p) m rest from to)
          (subst (λ (l : List Message). KeepsUp start c.vr b (members b) l (between (actor.Controller b) (actor.Controller p) (m ∷ rest)))
          (out_same (actor.Controller p) (actor.Controller b) (λ e. apart (let s : b ≡ p = cc in s))) (d.keeps_up b chosen apart))

      pub said_ok : (op : ℕ) × (m.said ≡ message.Vr (vr.PrepareOk c.vr.view op))
      said_ok = by_state keeps_in
        where
          by_state : KeepsUp start c.vr b (members b) (between (actor.Controller p) (actor.Controller b) rest) (m.said ∷ between (actor.Controller b) (actor.Controller p) rest) →
              (op : ℕ) × (m.said ≡ message.Vr (vr.PrepareOk c.vr.view op))
          by_state (inl h) = absurd (let e = h.silent in cc)
          by_state (inr h) = (h.acks.0, h.acks.1)

      abbrev op : ℕ
      op = said_ok.0

      abbrev next : VrState
      next = agreed_by.marked c.vr b op

      pub small_b : b < c.vr.controllers
      small_b = let low = small b chosen in let size = d.primary.size in omega (arith, low, size)

      pub keeps_next : (op ≤ length c.vr.log) × KeepsUp start next b (members b) (between (actor.Controller p) (actor.Controller b) rest) (between (actor.Controller b) (actor.Controller p) rest)
      keeps_next =
          keeps_up_acked start c.vr next d.primary.lead refl refl refl (agreed_by.agreed_no_less c.vr b op) b op (members b) (between (actor.Controller p) (actor.Controller b) rest) (between (actor.Controller b) (actor.Controller p) rest)
          (get_or-set_same c.vr.acked b (max op (slice_index c.vr.acked b)) 0 (let counts = d.primary.lead.counts in let low = small_b in omega (arith, counts, low)))
          (subst (λ (x : Message). KeepsUp start c.vr b (members b) (between (actor.Controller p) (actor.Controller b) rest) (x ∷ between (actor.Controller b) (actor.Controller p) rest)) said_ok.1 keeps_in)

      all_keep_next : (j : ℕ) → has quorum j ≡ true → (j ≡ p → ⊥) → KeepsUp start next j (members j) (between (actor.Controller p) (actor.Controller j) rest) (between (actor.Controller j) (actor.Controller p) rest)
      all_keep_next j member other = elim (cases_eq j b) [
        | inl e ↦ subst (λ (i : ℕ). KeepsUp start next i (members i) (between (actor.Controller p) (actor.Controller i) rest) (between (actor.Controller i) (actor.Controller p) rest)) (sym e) keeps_next.1
        | inr e ↦
            keeps_up_still start c.vr next d.primary.lead refl refl refl (agreed_by.agreed_no_less c.vr b op) j (members j) _ _
            (get_or-set_other c.vr.acked b j (max op (slice_index c.vr.acked b)) 0 e)
            (subst (λ (l : List Message). KeepsUp start c.vr j (members j) (between (actor.Controller p) (actor.Controller j) rest) l)
            (between_other (actor.Controller j) (actor.Controller p) m rest (way_apart (actor.Controller j) (actor.Controller p) m (λ f g. e (let s : actor.Controller b ≡ actor.Controller j = sym from ∙ f in let i : b ≡ j = cc in sym i))))
            (subst (λ (l : List Message). KeepsUp start c.vr j (members j) l (between (actor.Controller j) (actor.Controller p) (m ∷ rest)))
            (out_same (actor.Controller p) (actor.Controller j) (λ i. other (let s : j ≡ p = cc in s))) (d.keeps_up j member other)))
      ]

      lead_next : LeadsFrom start next
      lead_next =
          let q = d.primary.lead in
          let no_less = agreed_by.agreed_no_less c.vr b op in
          let known = q.known in
          record {
            begins = q.begins;
            started = q.started;
            within = q.within;
            known = omega (arith, known, no_less);
            commit = agreed_by.agreed_within c.vr b op q.commit;
            one = q.one;
            normal = q.normal;
            promise = q.promise;
            counts = length-set c.vr.acked b (max op (slice_index c.vr.acked b)) ∙ q.counts;
          }

      agreed_next : IsAgreed next quorum
      agreed_next =
          counted_agreed (acked_by c.vr b op) w quorum (subst (λ (k : ℕ). IsPicked k w quorum) (sym d.primary.size) picked) (ap (has quorum) d.primary.me ∙ inside)

      pub heard_ok : heard_of m ≡ controller_input.Vr b (vr.PrepareOk c.vr.view op)
      heard_ok =
          ap (λ (a : Actor). controller_hears a (unsealed.Message m.said)) from ∙ ap (λ (y : Message). controller_hears (actor.Controller b) (unsealed.Message y)) said_ok.1

      pub several : 0 < most_failures c.vr
      several =
          let low = small b chosen in
          let low_p = small_p in
          let size = d.primary.size in
          elim (cases_order b p) [
            | inl e ↦ absurd (apart e)
            | inr (inl less) ↦ omega (arith, low, low_p, size, less)
            | inr (inr more) ↦ omega (arith, low, low_p, size, more)
          ]

      abbrev counts : Work
      counts = controller_work kinds setup c (controller_input.Vr b (vr.PrepareOk c.vr.view op))

      keeps_counting : IsTruePrimary c → IsTruePrimary counts.state → ((t : ℕ) → t < length setup.ports → IsTrueOf kinds setup counts.state t (switches t)) → counts.state.full ≡ None →
          Drains counts.state members switches (rest ++ map (sent_by controller_message (actor.Controller p)) counts.letters)
      keeps_counting one now_true now_truths full =
          let q = d.primary in
          let h = agreed_by.agreed_more kinds setup few switches in_after out c one several q.settled
          (λ t less. subst (λ (l : List Message). IsAttended kinds setup c t (switches t) (out t) l) (sym (from_others t)) (served t less)) b op small_b (λ e. apart (e ∙ q.me)) keeps_next.0 full now_true now_truths in
          let outs = λ (j : ℕ). between (actor.Controller p) (actor.Controller j) rest in
          let ins = λ (j : ℕ). between (actor.Controller j) (actor.Controller p) rest in
          drained_by.drains_primary kinds setup w p quorum start c counts.state members switches m rest counts.letters d
          (is_draining (record c { vr = next }) next members outs ins counts q.me q.size q.view lead_next agreed_next all_keep_next refl h.more h.extends h.settled now_true)
          (all_keep_up (record c { vr = next }) next members outs ins counts q.me q.size q.view lead_next agreed_next all_keep_next refl h.more h.extends h.settled now_true)
          h.served (apart_letters counts (proper.acks kinds setup c leading b c.vr.view op).others)

      pub hears_member : IsProper kinds setup c work × (IsTruePrimary c → IsTruePrimary work.state → ((t : ℕ) → t < length setup.ports → IsTrueOf kinds setup work.state t (switches t)) → work.state.full ≡ None →
          Drains work.state members switches (rest ++ map (sent_by controller_message (actor.Controller p)) work.letters))
      hears_member = (
        subst (λ (y : ControllerInput). IsProper kinds setup c (controller_work kinds setup c y)) (sym heard_ok) (proper.acks kinds setup c leading b c.vr.view op),
        subst (λ (y : ControllerInput). IsTruePrimary c → IsTruePrimary (controller_work kinds setup c y).state →
            ((t : ℕ) → t < length setup.ports → IsTrueOf kinds setup (controller_work kinds setup c y).state t (switches t)) → (controller_work kinds setup c y).state.full ≡ None →
            Drains (controller_work kinds setup c y).state members switches (rest ++ map (sent_by controller_message (actor.Controller p)) (controller_work kinds setup c y).letters)) (sym heard_ok) keeps_counting,
      )
