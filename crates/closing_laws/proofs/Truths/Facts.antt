-- What is true of the primary of a quorum and of each switch after every possible past; and who writes to switches and hears of
-- them names switches of the setup.
use Rattle.std.proofs.Common.{◌≡◌, ◌≤◌, ◌<◌, ◌⊎◌, inl, inr, ℕ, true, List, [], ◌∷◌, length, refl, sym, ◌∙◌, ap, subst, arith}
use Rattle.std.specs.Prelude.{slice_get, Some}
use Rattle.of_types.specs.declared.message.Event.{Event}
use Rattle.of_types.specs.declared.setup.Setup.{Setup}
use Rattle.of_types.specs.Lives.{is_switch_up}
use Rattle.of_types.specs.Setups.{IsSetup}
use Rattle.journal.specs.declared.journal.Actor.{Actor}
use Rattle.journal.specs.declared.journal.Actor.TheVariants as actor
use Rattle.journal.specs.declared.journal.JournalEntry.{JournalEntry}
use Rattle.journal.specs.declared.journal.Packet.{Packet}
use Rattle.journal.specs.declared.journal.SaveResult.{SaveResult}
use Rattle.journal.specs.Actors.{IsActor, actor_of}
use Rattle.journal.specs.Part.{part}
use Rattle.journal.specs.Pool.{pool}
use Rattle.list_facts.specs.Lists.{IsIn, IsPrefix}
use Rattle.list_facts.proofs.Elements.{all_of}
use Rattle.list_facts.proofs.Prefixes.{front_prefix, prefix_filter}
use Rattle.vr_log.specs.declared.entry.Entry.{Entry}
use Rattle.vr_log.specs.declared.entry.Entry.TheVariants.{Received}
use Rattle.vr_log.specs.Log.{is_log, received}
use Rattle.two_stage_log.specs.Counts.{processed_of}
use Rattle.vr_log.specs.Members.{leads}
use Rattle.of_switch.specs.State.{SwitchState, events_in, life_of}
use Rattle.group_controller.specs.State.{ControllerState}
use Rattle.controller_moves.proofs.ControllerLaws.Logs.{processed_count}
use Rattle.run_spec.specs.States.{Scene, SwitchAt, IsFaithful, switch_at}
use Rattle.run_spec.specs.Legal.{IsPossible, results_of}
use Rattle.run_spec.specs.Committed.{decided, controller_state, switch_state}
use Rattle.run_spec.proofs.Pasts.{possible_before}
use Rattle.run_spec.proofs.Pools.{Was, New, pool_after}
use Rattle.run_laws.specs.OnceLaws.Facts.{PastFacts, facts_of, events_of, executed_of}
use Rattle.run_laws.specs.OnceLaws.Truths.{IsTrueEntry}
use Rattle.run_laws.specs.OnceLaws.Invariant.{HoldsOfRun, IsHonest, SwitchIsSound, IsSoundAt, Logged, Own}
use Rattle.run_laws.proofs.OnceLaws.ControllerTurns.{received_at}
use Rattle.run_laws.proofs.OnceLaws.Journals.{firm_events, firm_executed}
use Rattle.run_laws.proofs.RunAgreement.Groups.{odd_law}
use Rattle.run_laws.proofs.Laws.{always, led_law, waits_law}
use Rattle.run_laws.proofs.Members.{IsOwned, owned_at}
use Rattle.closing_laws.specs.Quorum.{has}
use Rattle.closing_laws.specs.Serving.{IsTrueOf, IsTruePrimary}
use Rattle.closing_laws.proofs.Lists.Picked.{IsPicked}
use Rattle.closing_laws.proofs.Truths.PrimaryTruths.{committed_is, one_ahead, last_is}
use Rattle.closing_laws.proofs.Truths.Promises.{most_promise}
use Rattle.closing_laws.proofs.Truths.SwitchLists.{StartUp}
use Rattle.closing_laws.proofs.Truths.SwitchOrder.{KeepsOrder}
use Rattle.closing_laws.proofs.Truths.SwitchPasts.{order_now}
use Rattle.closing_laws.proofs.Truths.SwitchTruths.{processed_received, cleared_decided, event_within, life_within, logged_within, none_logged, cleared_within, settled_within}

-- the first event of a life
first_up : (events : List Event) (e : Event) → StartUp events → slice_get events 0 ≡ Some e → is_switch_up e.what ≡ true
first_up [] e h at = absurd h
first_up (x ∷ events) e h at = let same : x ≡ e = cc in subst (λ (y : Event). is_switch_up y.what ≡ true) same h

some_first : (events : List Event) → StartUp events → 0 < length events
some_first [] h = absurd h
some_first (x ∷ events) h = omega arith

-- of a primary, where what is decided begins its log
primary_true : (kinds : List ℕ) (setup : Setup) (f : PastFacts) (c : ControllerState) (me controllers : ℕ) → me < controllers → IsOwned me controllers c.vr → IsHonest kinds setup f c →
    IsPrefix f.decided c.vr.log → leads c.vr ≡ true → IsTruePrimary c
primary_true kinds setup f c me controllers there own honest begins leads_now =
    let valid = own.consistent.follow in
    let ahead = honest.ahead c.vr.commit c.vr.log (Own refl refl) in
    let me_is = own.me_is in
    let all = own.all in
    record {
      leads = leads_now;
      me = omega (arith, me_is, all, there);
      view = honest.views.view;
      one = valid;
      commit = own.consistent.commit;
      ahead = one_ahead f c.vr.log c.vr.commit valid begins ahead;
      unfinished = last_is f c.vr.log c.vr.commit valid begins ahead;
    }

-- and of a switch beside it
switch_true : (kinds : List ℕ) (setup : Setup) (f : PastFacts) (c : ControllerState) (s : ℕ) (state : SwitchState) → is_log c.vr.log ≡ true → IsPrefix f.decided c.vr.log →
    IsHonest kinds setup f c → SwitchIsSound kinds setup f s state → ((life : ℕ) → IsPrefix (events_of life (f.events s)) (events_in state life)) →
    ((life : ℕ) → IsPrefix (executed_of life (f.executed s)) (executed_of life state.executed)) → KeepsOrder state → IsTrueOf kinds setup c s state
switch_true kinds setup f c s state valid begins honest sound events executed order =
    let entries : (i : ℕ) (e : Entry) → slice_get c.vr.log i ≡ Some e → IsTrueEntry kinds setup f i e = λ i e at. honest.entries i e (Logged at) in
    let front = committed_is f c.vr.log c.vr.commit valid begins (honest.ahead c.vr.commit c.vr.log (Own refl refl)) in
    let fewer = processed_count s (life_of state) (front_prefix c.vr.commit c.vr.log) in
    let all = processed_received c.vr.log s (life_of state) in
    record {
      number = sound.well.number_is;
      made = λ i e at. (sound.well.made (life_of state) i e at).1;
      held = order.0.are_held.held_is;
      next = order.0.are_held.next;
      room = order.0.room;
      results = order.0.results;
      cleared = cleared_within kinds setup f c.vr.log c.vr.commit s state valid begins front entries sound events executed;
      logged = logged_within kinds setup f c.vr.log c.vr.commit s state valid begins front entries sound events executed;
      processed = omega (arith, fewer, all);
      life = life_within kinds setup f c.vr.log c.vr.commit s state valid begins front entries sound events executed;
      unlogged = none_logged kinds setup f c.vr.log c.vr.commit s state valid begins front entries sound events executed;
      first = λ some e at. first_up (events_in state (life_of state)) e (order.0.are_held.first some) at;
      begun = λ some. (let made = order.0.are_held.next in let first = some_first (events_in state (life_of state)) (order.0.are_held.first some) in omega (arith, made, first));
      settled = settled_within kinds setup f c.vr.log c.vr.commit s state valid begins front entries sound events executed;
      remembered = order.1;
    }

module _ {B : Type 0} (scene : Scene B) (results : List (List SaveResult)) (setup : IsSetup scene.setup) (faithful : IsFaithful scene.sealing) where
  facts_are : (P : List (JournalEntry B)) → IsPossible scene results P → (p : ℕ) → p < scene.setup.controllers → leads (controller_state scene results p P).vr ≡ true →
      (quorum : List ℕ) → IsPicked scene.setup.controllers (controller_state scene results p P).vr.view quorum →
      ((b : ℕ) → has quorum b ≡ true → (controller_state scene results b P).vr.promise ≤ (controller_state scene results p P).vr.view) →
      IsTruePrimary (controller_state scene results p P)
      × ((s : ℕ) → s < length scene.setup.ports → IsTrueOf scene.kinds scene.setup (controller_state scene results p P) s (switch_state scene s P))
  facts_are P possible p there leads_now quorum picked few =
      let holds : HoldsOfRun scene results P = always scene results setup faithful P possible 0 in
      let honest = (holds.controllers p there).now in
      let own = (owned_at scene (results_of results p) p (part (actor.Controller p) P)).now in
      let group = odd_law scene.setup setup in
      let begins = led_law scene results P setup faithful possible group.0 p group.1 there leads_now
      (most_promise (λ j. (controller_state scene results j P).vr.promise) scene.setup.controllers (controller_state scene results p P).vr.view group.0 quorum group.1 picked few) in (
        primary_true scene.kinds scene.setup (facts_of scene results P) (controller_state scene results p P) p scene.setup.controllers there own honest begins leads_now,
        λ s here.
            let w : SwitchAt = switch_at scene s (part (actor.Switch s) P) in
            let sound : IsSoundAt scene.kinds scene.setup (facts_of scene results P) s w = holds.switches s here in
            switch_true scene.kinds scene.setup (facts_of scene results P) (controller_state scene results p P) s w.now own.consistent.follow begins honest sound.now
            (λ life. prefix_filter _ (firm_events w w.fresh sound.events)) (λ life. prefix_filter _ (firm_executed w w.fresh sound.executed))
            (order_now scene setup s here (part (actor.Switch s) P)),
      )

  -- what is decided begins the primary's log, and it knows no more as committed
  begins_are : (P : List (JournalEntry B)) → IsPossible scene results P → (p : ℕ) → p < scene.setup.controllers → leads (controller_state scene results p P).vr ≡ true →
      (quorum : List ℕ) → IsPicked scene.setup.controllers (controller_state scene results p P).vr.view quorum →
      ((b : ℕ) → has quorum b ≡ true → (controller_state scene results b P).vr.promise ≤ (controller_state scene results p P).vr.view) →
      IsPrefix (decided scene results P) (controller_state scene results p P).vr.log × ((controller_state scene results p P).vr.commit ≤ length (decided scene results P))
  begins_are P possible p there leads_now quorum picked few =
      let holds : HoldsOfRun scene results P = always scene results setup faithful P possible 0 in
      let honest = (holds.controllers p there).now in
      let group = odd_law scene.setup setup in (
        led_law scene results P setup faithful possible group.0 p group.1 there leads_now
            (most_promise (λ j. (controller_state scene results j P).vr.promise) scene.setup.controllers (controller_state scene results p P).vr.view group.0 quorum group.1 picked few),
        (honest.ahead (controller_state scene results p P).vr.commit (controller_state scene results p P).vr.log (Own refl refl)).bound,
      )

  -- of each event of the primary's log the switch is one of the setup, and its life no later than the present one
  logged_are : (P : List (JournalEntry B)) → IsPossible scene results P → (p : ℕ) → p < scene.setup.controllers → leads (controller_state scene results p P).vr ≡ true →
      (quorum : List ℕ) → IsPicked scene.setup.controllers (controller_state scene results p P).vr.view quorum →
      ((b : ℕ) → has quorum b ≡ true → (controller_state scene results b P).vr.promise ≤ (controller_state scene results p P).vr.view) →
      (e : Event) → IsIn e (received (controller_state scene results p P).vr.log) → (e.switch < length scene.setup.ports) × (e.life ≤ life_of (switch_state scene e.switch P))
  logged_are P possible p there leads_now quorum picked few e among =
      let holds : HoldsOfRun scene results P = always scene results setup faithful P possible 0 in
      let honest = (holds.controllers p there).now in
      let own = (owned_at scene (results_of results p) p (part (actor.Controller p) P)).now in
      let c : ControllerState = controller_state scene results p P in
      let f : PastFacts = facts_of scene results P in
      let begins = (begins_are P possible p there leads_now quorum picked few).0 in
      let entries : (i : ℕ) (x : Entry) → slice_get c.vr.log i ≡ Some x → IsTrueEntry scene.kinds scene.setup f i x = λ i x at. honest.entries i x (Logged at) in
      let at = received_at c.vr.log e among in
      let here : e.switch < length scene.setup.ports = (entries at.0 (Received e) at.1).there in
      let w : SwitchAt = switch_at scene e.switch (part (actor.Switch e.switch) P) in
      let sound : IsSoundAt scene.kinds scene.setup f e.switch w = holds.switches e.switch here in (
        here,
        event_within scene.kinds scene.setup f c.vr.log c.vr.commit e.switch w.now own.consistent.follow begins
            (committed_is f c.vr.log c.vr.commit own.consistent.follow begins (honest.ahead c.vr.commit c.vr.log (Own refl refl))) entries sound.now
            (λ life. prefix_filter _ (firm_events w w.fresh sound.events)) (λ life. prefix_filter _ (firm_executed w w.fresh sound.executed)) e among refl,
      )

  -- what left the buffer of a switch was decided as processed, and what a controller knows as committed was decided
  cleared_are : (P : List (JournalEntry B)) → IsPossible scene results P → (s : ℕ) → s < length scene.setup.ports →
      (switch_state scene s P).buffer.cleared ≤ processed_of (decided scene results P) s (life_of (switch_state scene s P))
  cleared_are P possible s there =
      let holds : HoldsOfRun scene results P = always scene results setup faithful P possible 0 in
      cleared_decided scene.kinds scene.setup (facts_of scene results P) s (switch_state scene s P) (holds.switches s there).now

  known_are : (P : List (JournalEntry B)) → IsPossible scene results P → (c : ℕ) → c < scene.setup.controllers → (controller_state scene results c P).vr.commit ≤ length (decided scene results P)
  known_are P possible c there =
      let holds : HoldsOfRun scene results P = always scene results setup faithful P possible 0 in
      ((holds.controllers c there).now.ahead (controller_state scene results c P).vr.commit (controller_state scene results c P).vr.log (Own refl refl)).bound

  -- who has sent what waits is of the setup
  sender_named : (P : List (JournalEntry B)) → IsPossible scene results P → (q : Packet B) → IsIn q (pool P) → IsActor scene.setup q.from
  sender_named [] possible q h = absurd h
  sender_named (e ∷ before) possible q h =
      elim (pool_after e before q h) [
        | Was old ↦ sender_named before (possible_before scene results e before possible) q old
        | New a first letters lost is posted ↦
            subst (λ (b : Actor). IsActor scene.setup b) (ap (λ (x : JournalEntry B). actor_of x) is ∙ sym posted.from_is) possible.named.0
      ]

  switch_named : (P : List (JournalEntry B)) → IsPossible scene results P → (q : Packet B) → IsIn q (pool P) → (s : ℕ) → (q.to ≡ actor.Switch s) ⊎ (q.from ≡ actor.Switch s) → s < length scene.setup.ports
  switch_named P possible q h s (inl to) =
      subst (λ (a : Actor). IsActor scene.setup a) to (all_of (λ (p : Packet B). IsActor scene.setup p.to) (pool P) q (waits_law scene results P setup faithful possible) h)
  switch_named P possible q h s (inr from) = subst (λ (a : Actor). IsActor scene.setup a) from (sender_named P possible q h)

-- what is true of the primary that a quorum follows, and of each switch
pub facts : {B : Type 0} (scene : Scene B) (results : List (List SaveResult)) → IsSetup scene.setup → IsFaithful scene.sealing → (P : List (JournalEntry B)) → IsPossible scene results P →
    (p : ℕ) → p < scene.setup.controllers → leads (controller_state scene results p P).vr ≡ true →
    (quorum : List ℕ) → IsPicked scene.setup.controllers (controller_state scene results p P).vr.view quorum →
    ((b : ℕ) → has quorum b ≡ true → (controller_state scene results b P).vr.promise ≤ (controller_state scene results p P).vr.view) →
    IsTruePrimary (controller_state scene results p P)
    × ((s : ℕ) → s < length scene.setup.ports → IsTrueOf scene.kinds scene.setup (controller_state scene results p P) s (switch_state scene s P))
facts scene results setup faithful P possible p there leads_now quorum picked few = facts_are scene results setup faithful P possible p there leads_now quorum picked few

-- what is decided begins its log, and no more is committed
pub begins : {B : Type 0} (scene : Scene B) (results : List (List SaveResult)) → IsSetup scene.setup → IsFaithful scene.sealing → (P : List (JournalEntry B)) → IsPossible scene results P →
    (p : ℕ) → p < scene.setup.controllers → leads (controller_state scene results p P).vr ≡ true →
    (quorum : List ℕ) → IsPicked scene.setup.controllers (controller_state scene results p P).vr.view quorum →
    ((b : ℕ) → has quorum b ≡ true → (controller_state scene results b P).vr.promise ≤ (controller_state scene results p P).vr.view) →
    IsPrefix (decided scene results P) (controller_state scene results p P).vr.log × ((controller_state scene results p P).vr.commit ≤ length (decided scene results P))
begins scene results setup faithful P possible p there leads_now quorum picked few = begins_are scene results setup faithful P possible p there leads_now quorum picked few

-- of each event of its log the switch is one of the setup, and its life no later than the present one
pub logged : {B : Type 0} (scene : Scene B) (results : List (List SaveResult)) → IsSetup scene.setup → IsFaithful scene.sealing → (P : List (JournalEntry B)) → IsPossible scene results P →
    (p : ℕ) → p < scene.setup.controllers → leads (controller_state scene results p P).vr ≡ true →
    (quorum : List ℕ) → IsPicked scene.setup.controllers (controller_state scene results p P).vr.view quorum →
    ((b : ℕ) → has quorum b ≡ true → (controller_state scene results b P).vr.promise ≤ (controller_state scene results p P).vr.view) →
    (e : Event) → IsIn e (received (controller_state scene results p P).vr.log) → (e.switch < length scene.setup.ports) × (e.life ≤ life_of (switch_state scene e.switch P))
logged scene results setup faithful P possible p there leads_now quorum picked few e among = logged_are scene results setup faithful P possible p there leads_now quorum picked few e among

-- what left the buffer of a switch was decided as processed
pub cleared : {B : Type 0} (scene : Scene B) (results : List (List SaveResult)) → IsSetup scene.setup → IsFaithful scene.sealing → (P : List (JournalEntry B)) → IsPossible scene results P →
    (s : ℕ) → s < length scene.setup.ports → (switch_state scene s P).buffer.cleared ≤ processed_of (decided scene results P) s (life_of (switch_state scene s P))
cleared scene results setup faithful P possible s there = cleared_are scene results setup faithful P possible s there

-- what a controller knows as committed was decided
pub known : {B : Type 0} (scene : Scene B) (results : List (List SaveResult)) → IsSetup scene.setup → IsFaithful scene.sealing → (P : List (JournalEntry B)) → IsPossible scene results P →
    (c : ℕ) → c < scene.setup.controllers → (controller_state scene results c P).vr.commit ≤ length (decided scene results P)
known scene results setup faithful P possible c there = known_are scene results setup faithful P possible c there

-- a switch that is written to, or has written, is of the setup
pub named : {B : Type 0} (scene : Scene B) (results : List (List SaveResult)) → IsSetup scene.setup → IsFaithful scene.sealing → (P : List (JournalEntry B)) → IsPossible scene results P →
    (q : Packet B) → IsIn q (pool P) → (s : ℕ) → (q.to ≡ actor.Switch s) ⊎ (q.from ≡ actor.Switch s) → s < length scene.setup.ports
named scene results setup faithful P possible q h s who = switch_named scene results setup faithful P possible q h s who
