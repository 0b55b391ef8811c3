-- All that holds after a past holds after one more entry, and so after every legal past. Of the committed
-- logs it is asked that they agree with what is decided, and that this lasts.
use Rattle.std.proofs.Common.{◌≡◌, ◌≢◌, ◌<◌, ℕ, Bool, true, false, List, [], ◌∷◌, length, drop, zero, suc, refl, sym, ◌∙◌, ap, subst, inl, inr, arith}
use Rattle.std.specs.Prelude.{Option, Some, if◌then◌else◌}
use Rattle.journal.specs.Orderly.{IsOrderly}
use Rattle.of_types.specs.declared.message.Event.{Event}
use Rattle.of_types.specs.declared.message.Executed.{Executed}
use Rattle.journal.specs.declared.journal.Actor.{Actor}
use Rattle.journal.specs.declared.journal.Actor.TheVariants as actor
use Rattle.journal.specs.declared.journal.JournalEntry.{JournalEntry}
use Rattle.journal.specs.declared.journal.JournalEntry.TheVariants.{Post, Draw, Refused}
use Rattle.journal.specs.declared.journal.Letter.{Letter}
use Rattle.journal.specs.declared.journal.Packet.{Packet}
use Rattle.journal.specs.declared.journal.SaveResult.{SaveResult}
use Rattle.journal.specs.Actors.{same_actor, actor_of, IsActor}
use Rattle.journal.specs.Part.{part, drawn}
use Rattle.journal.specs.Pool.{pool}
use Rattle.list_facts.proofs.Places.{get_zero, none_at}
use Rattle.list_facts.proofs.Prefixes.{prefix_is, prefix_refl}
use Rattle.list_facts.specs.Lists.{IsIn, IsPrefix}
use Rattle.of_switch.specs.declared.says.SwitchInput.{SwitchInput}
use Rattle.of_switch.specs.State.{SwitchState, starting_switch}
use Rattle.of_switch.specs.Rules.{switch_turn}
use Rattle.group_controller.specs.declared.messages.ControllerInput.{ControllerInput}
use Rattle.group_controller.specs.declared.messages.ControllerSays.{ControllerSays}
use Rattle.vr_log.specs.declared.entry.Entry.{Entry}
use Rattle.vr_log.specs.declared.entry.Entry.TheVariants.{Processed}
use Rattle.vr_log.specs.Members.{is_up}
use Rattle.group_controller.specs.State.{ControllerState, starting_controller, committed, down}
use Rattle.group_controller.specs.Rules.{controller_work}
use Rattle.run_spec.specs.States.{Scene, SwitchAt, ControllerAt, switch_at, switch_step, controller_at, sealed_letters, switch_message, controller_message, content}
use Rattle.run_spec.specs.Legal.{FitsDebt, AreTyped, IsTurn, IsSoundSwitch, IsSoundController, EntryFits, IsPossible, results_of}
use Rattle.run_spec.proofs.Pasts.{possible_before, from_some, self_switch, self_controller, legal_finds, turn_fresh}
use Rattle.run_spec.specs.Committed.{controller_state, kept_of, kept, decided}
use Rattle.run_laws.specs.OnceLaws.Facts.{PastFacts, Later, firm_switch, facts_of}
use Rattle.run_spec.specs.Inputs.{IsHeardAt, By_draw, By_local}
use Rattle.run_spec.proofs.Entries.{ControllerGoes, Turns, Falls, Stays, Own, Other, controller_after, SwitchGoes, Takes, Rests, Posts, Refuses, switch_goes, Mine, Another, switch_after}
use Rattle.run_spec.specs.States.{IsFaithful}
use Rattle.run_spec.specs.Inputs.{IsHeard, By_draw, By_local}
use Rattle.run_laws.specs.OnceLaws.Premises.{AreControllers, IsProperLog}
use Rattle.run_laws.specs.OnceLaws.Invariant.{SwitchIsSound, IsSoundAt, IsReport, IsHonest, IsHonestAt, IsOrder, IsTrueBetween, IsHeardBySwitch, IsHeardByController, HoldsEntry, Logged, Gathered, Answered, Fetched, HoldsAhead, Own as Owns, Collects, Answers, Supplies, HoldsOfRun}
use Rattle.run_laws.specs.OnceLaws.Truths.{IsTrueEntry, IsAhead}
use Rattle.run_laws.proofs.OnceLaws.Growing.{sound_more, order_more, sound_at_more, honest_at_more, between_more}
use Rattle.run_laws.proofs.OnceLaws.Switches.{switch_keeps}
use Rattle.run_laws.proofs.OnceLaws.ControllerTurns.{controller_keeps}
use Rattle.run_laws.proofs.OnceLaws.TableRows.{opening_valid}
use Rattle.run_spec.proofs.Pools.{one_actor, drawn_found, IsPosted, Was, New, pool_after}
use Rattle.run_laws.proofs.OnceLaws.Packets.{heard_by_switch, heard_by_controller, switch_packet, controller_packet}

-- what is firm is a beginning of what a switch has now
pub firm_events : (w : SwitchAt) (b : Bool) → IsPrefix w.before.events w.now.events → IsPrefix (if b then w.before else w.now).events w.now.events
firm_events w true p = p
firm_events w false p = prefix_refl w.now.events

pub firm_executed : (w : SwitchAt) (b : Bool) → IsPrefix w.before.executed w.now.executed → IsPrefix (if b then w.before else w.now).executed w.now.executed
firm_executed w true p = p
firm_executed w false p = prefix_refl w.now.executed

firm_before : (w : SwitchAt) → w.fresh ≡ true → firm_switch w ≡ w.before
firm_before w h = rw h refl

-- no entries beside number 0
nothing_ahead : (f : PastFacts) (k : ℕ) (entries : List Entry) → k ≡ 0 → entries ≡ [] → IsAhead f k entries
nothing_ahead f k entries is none = record { bound = omega (arith, is); one = λ j among. absurd (subst (λ (l : List Entry). IsIn (Processed j) l) none among) }

module _ {B : Type 0} (scene : Scene B) (results : List (List SaveResult)) (faithful : IsFaithful scene.sealing)
    (grows : (e : JournalEntry B) (before : List (JournalEntry B)) → IsPossible scene results (e ∷ before) → ((i : ℕ) → HoldsOfRun scene results (drop i before)) → IsPrefix (decided scene results before) (decided scene results (e ∷ before)))
    (front : (e : JournalEntry B) (before : List (JournalEntry B)) → IsPossible scene results (e ∷ before) → ((i : ℕ) → HoldsOfRun scene results (drop i before)) →
    (c : ℕ) → c < scene.setup.controllers → IsPrefix (kept scene results c (e ∷ before)) (decided scene results (e ∷ before)))
    (sides : AreControllers scene results) where
  module _ (e : JournalEntry B) (before : List (JournalEntry B)) (legal : IsPossible scene results (e ∷ before)) (trust : (i : ℕ) → HoldsOfRun scene results (drop i before)) where
    holds : HoldsOfRun scene results before
    holds = trust 0

    pub named_switch : (s : ℕ) → same_actor (actor_of e) (actor.Switch s) ≡ true → s < length scene.setup.ports
    named_switch s h = subst (λ (a : Actor). IsActor scene.setup a) (one_actor (actor_of e) (actor.Switch s) h) legal.named.0

    pub named_controller : (c : ℕ) → same_actor (actor_of e) (actor.Controller c) ≡ true → c < scene.setup.controllers
    named_controller c h = subst (λ (a : Actor). IsActor scene.setup a) (one_actor (actor_of e) (actor.Controller c) h) legal.named.0

    finds : (a : Actor) (id : ℕ) (keep : Bool) → e ≡ Draw a id keep → (p : Packet B) × (drawn e before ≡ Some p)
    finds a id keep is = legal_finds scene results e before legal a id keep is

    -- a switch after a step of its own, and of another actor
    stepped : (s : ℕ) → part (actor.Switch s) (e ∷ before) ≡ (e, drawn e before) ∷ part (actor.Switch s) before →
        switch_at scene s (part (actor.Switch s) (e ∷ before)) ≡ switch_step scene (switch_at scene s (part (actor.Switch s) before)) e (drawn e before)
    stepped s is = ap (λ (p : List (JournalEntry B × Option (Packet B))). switch_at scene s p) is

    stayed : (s : ℕ) → part (actor.Switch s) (e ∷ before) ≡ part (actor.Switch s) before →
        switch_at scene s (part (actor.Switch s) (e ∷ before)) ≡ switch_at scene s (part (actor.Switch s) before)
    stayed s is = ap (λ (p : List (JournalEntry B × Option (Packet B))). switch_at scene s p) is

    -- a refusal takes back an input that is fresh
    refused_fresh : (s : ℕ) (a : Actor) → e ≡ Refused a → s < length scene.setup.ports → part (actor.Switch s) (e ∷ before) ≡ (e, drawn e before) ∷ part (actor.Switch s) before →
        (switch_at scene s (part (actor.Switch s) before)).fresh ≡ true
    refused_fresh s a refuses there is =
        let sound = (subst (λ (p : List (JournalEntry B × Option (Packet B))). IsSoundSwitch scene s p) is (legal.switches s there)).0 in
        let turn : IsTurn (part (actor.Switch s) before) =
        subst (λ (x : JournalEntry B). FitsDebt switch_message scene.sealing (switch_at scene s (part (actor.Switch s) before)).owed (part (actor.Switch s) before) x) refuses sound in
        holds.turns s there turn

    -- what is firm grows
    firm_goes : (s : ℕ) (w' : SwitchAt) → s < length scene.setup.ports → part (actor.Switch s) (e ∷ before) ≡ (e, drawn e before) ∷ part (actor.Switch s) before →
        SwitchGoes scene e (drawn e before) (switch_at scene s (part (actor.Switch s) before)) w' →
        IsPrefix (firm_switch (switch_at scene s (part (actor.Switch s) before))).events (firm_switch w').events × IsPrefix (firm_switch (switch_at scene s (part (actor.Switch s) before))).executed (firm_switch w').executed
    firm_goes s w' there is goes =
        let w : SwitchAt = switch_at scene s (part (actor.Switch s) before) in
        let h = holds.switches s there in
        let p = firm_events w w.fresh h.events in
        let q = firm_executed w w.fresh h.executed in
        elim goes [
          | Takes x heard step ↦ subst (λ (v : SwitchAt). IsPrefix (firm_switch w).events (firm_switch v).events × IsPrefix (firm_switch w).executed (firm_switch v).executed) (sym step) (p, q)
          | Rests step ↦ subst (λ (v : SwitchAt). IsPrefix (firm_switch w).events (firm_switch v).events × IsPrefix (firm_switch w).executed (firm_switch v).executed) (sym step) (p, q)
          | Posts step ↦ subst (λ (v : SwitchAt). IsPrefix (firm_switch w).events (firm_switch v).events × IsPrefix (firm_switch w).executed (firm_switch v).executed) (sym step) (p, q)
          | Refuses a refuses step ↦
              let back = firm_before w (refused_fresh s a refuses there is) in
              subst (λ (v : SwitchAt). IsPrefix (firm_switch w).events (firm_switch v).events × IsPrefix (firm_switch w).executed (firm_switch v).executed) (sym step)
              (prefix_is _ _ (ap (λ (v : SwitchState). v.events) (sym back)), prefix_is _ _ (ap (λ (v : SwitchState). v.executed) (sym back)))
        ]

    firm_grows : (s : ℕ) → IsPrefix (firm_switch (switch_at scene s (part (actor.Switch s) before))).events (firm_switch (switch_at scene s (part (actor.Switch s) (e ∷ before)))).events
        × IsPrefix (firm_switch (switch_at scene s (part (actor.Switch s) before))).executed (firm_switch (switch_at scene s (part (actor.Switch s) (e ∷ before)))).executed
    firm_grows s =
        elim (switch_after scene s e before) [
          | Mine same is ↦
              let w' = switch_step scene (switch_at scene s (part (actor.Switch s) before)) e (drawn e before) in
              let r = firm_goes s w' (named_switch s same) is (switch_goes scene (switch_at scene s (part (actor.Switch s) before)) e (drawn e before)) in
              subst (λ (v : SwitchAt). IsPrefix (firm_switch (switch_at scene s (part (actor.Switch s) before))).events (firm_switch v).events × IsPrefix (firm_switch (switch_at scene s (part (actor.Switch s) before))).executed (firm_switch v).executed) (sym (stepped s is)) r
          | Another other is ↦
              subst (λ (v : SwitchAt). IsPrefix (firm_switch (switch_at scene s (part (actor.Switch s) before))).events (firm_switch v).events × IsPrefix (firm_switch (switch_at scene s (part (actor.Switch s) before))).executed (firm_switch v).executed) (sym (stayed s is))
              (prefix_refl _, prefix_refl _)
        ]

    -- the facts grow
    pub later : Later (facts_of scene results before) (facts_of scene results (e ∷ before))
    later = record { decided = grows e before legal trust; events = λ s. (firm_grows s).0; executed = λ s. (firm_grows s).1 }

    -- what a switch hears is true
    pub switch_hears_truth : (s : ℕ) (x : SwitchInput) → same_actor (actor_of e) (actor.Switch s) ≡ true → IsHeardAt scene e (drawn e before) x → IsHeardBySwitch scene.kinds scene.setup (facts_of scene results before) s x
    switch_hears_truth s x same (By_draw a id keep p is found hears) =
        let r = drawn_found scene.sealing.size a id keep before (subst (λ (y : JournalEntry B). IsOrderly scene.sealing.size (y ∷ before)) is legal.orderly) in
        let it : r.packet ≡ p = from_some r.packet p (sym r.found ∙ ap (λ (y : JournalEntry B). drawn y before) (sym is) ∙ found) in
        let mine : a ≡ actor.Switch s = one_actor a (actor.Switch s) (ap (λ (y : JournalEntry B). same_actor (actor_of y) (actor.Switch s)) (sym is) ∙ same) in
        let goes : p.to ≡ actor.Switch s = ap (λ (y : Packet B). y.to) (sym it) ∙ r.goes_to ∙ mine in
        subst (λ (y : SwitchInput). IsHeardBySwitch scene.kinds scene.setup (facts_of scene results before) s y) (sym hears)
        (heard_by_switch scene.kinds scene.setup (facts_of scene results before) s p.from p.to (content scene.sealing p) goes
        (holds.packets p (subst (λ (y : Packet B). IsIn y (pool before)) it r.among)))
    switch_hears_truth s x same (By_local a input is hears) =
        subst (λ (y : SwitchInput). IsHeardBySwitch scene.kinds scene.setup (facts_of scene results before) s y) (sym hears) (subst (λ (y : JournalEntry B). EntryFits y) is legal.fits.0)

    pub controller_hears_truth : (c : ℕ) (x : ControllerInput) → same_actor (actor_of e) (actor.Controller c) ≡ true → IsHeard scene e (drawn e before) x → IsHeardByController scene.kinds scene.setup (facts_of scene results before) x
    controller_hears_truth c x same (By_draw a id keep p is found hears) =
        let r = drawn_found scene.sealing.size a id keep before (subst (λ (y : JournalEntry B). IsOrderly scene.sealing.size (y ∷ before)) is legal.orderly) in
        let it : r.packet ≡ p = from_some r.packet p (sym r.found ∙ ap (λ (y : JournalEntry B). drawn y before) (sym is) ∙ found) in
        let mine : a ≡ actor.Controller c = one_actor a (actor.Controller c) (ap (λ (y : JournalEntry B). same_actor (actor_of y) (actor.Controller c)) (sym is) ∙ same) in
        let goes : p.to ≡ actor.Controller c = ap (λ (y : Packet B). y.to) (sym it) ∙ r.goes_to ∙ mine in
        subst (λ (y : ControllerInput). IsHeardByController scene.kinds scene.setup (facts_of scene results before) y) (sym hears)
        (heard_by_controller scene.kinds scene.setup (facts_of scene results before) c p.from p.to (content scene.sealing p) goes
        (holds.packets p (subst (λ (y : Packet B). IsIn y (pool before)) it r.among)))
    controller_hears_truth c x same (By_local a input is hears) =
        subst (λ (y : ControllerInput). IsHeardByController scene.kinds scene.setup (facts_of scene results before) y) (sym hears) (subst (λ (y : JournalEntry B). EntryFits y) is legal.fits.0)

    -- a switch after an entry of its own
    sound_goes : (s : ℕ) (w' : SwitchAt) → same_actor (actor_of e) (actor.Switch s) ≡ true → SwitchGoes scene e (drawn e before) (switch_at scene s (part (actor.Switch s) before)) w' →
        IsSoundAt scene.kinds scene.setup (facts_of scene results (e ∷ before)) s w'
    sound_goes s w' same goes =
        let w : SwitchAt = switch_at scene s (part (actor.Switch s) before) in
        let h = holds.switches s (named_switch s same) in
        let m = sound_at_more scene.kinds scene.setup later s w h in
        elim goes [
          | Takes x heard step ↦
              let k = switch_keeps scene.kinds scene.setup (facts_of scene results before) s x (switch_hears_truth s x same heard) w.now h.now in
              subst (λ (v : SwitchAt). IsSoundAt scene.kinds scene.setup (facts_of scene results (e ∷ before)) s v) (sym step)
              (record { now = sound_more scene.kinds scene.setup later s (switch_turn w.now x).state k.sound; before = m.now; events = k.events; executed = k.executed; owed = k.said })
          | Rests step ↦
              subst (λ (v : SwitchAt). IsSoundAt scene.kinds scene.setup (facts_of scene results (e ∷ before)) s v) (sym step)
              (record { now = m.now; before = m.before; events = m.events; executed = m.executed; owed = m.owed })
          | Posts step ↦
              subst (λ (v : SwitchAt). IsSoundAt scene.kinds scene.setup (facts_of scene results (e ∷ before)) s v) (sym step)
              (record { now = m.now; before = m.before; events = m.events; executed = m.executed; owed = λ l k. absurd k })
          | Refuses a refuses step ↦
              subst (λ (v : SwitchAt). IsSoundAt scene.kinds scene.setup (facts_of scene results (e ∷ before)) s v) (sym step)
              (record { now = m.before; before = m.before; events = prefix_refl w.before.events; executed = prefix_refl w.before.executed; owed = λ l k. absurd k })
        ]

    sound_after : (s : ℕ) → s < length scene.setup.ports → IsSoundAt scene.kinds scene.setup (facts_of scene results (e ∷ before)) s (switch_at scene s (part (actor.Switch s) (e ∷ before)))
    sound_after s there =
        elim (switch_after scene s e before) [
          | Mine same is ↦ subst (λ (v : SwitchAt). IsSoundAt scene.kinds scene.setup (facts_of scene results (e ∷ before)) s v) (sym (stepped s is))
              (sound_goes s _ same (switch_goes scene (switch_at scene s (part (actor.Switch s) before)) e (drawn e before)))
          | Another other is ↦ subst (λ (v : SwitchAt). IsSoundAt scene.kinds scene.setup (facts_of scene results (e ∷ before)) s v) (sym (stayed s is))
              (sound_at_more scene.kinds scene.setup later s _ (holds.switches s there))
        ]

    turns_after : (s : ℕ) → s < length scene.setup.ports → IsTurn (part (actor.Switch s) (e ∷ before)) → (switch_at scene s (part (actor.Switch s) (e ∷ before))).fresh ≡ true
    turns_after s there turn =
        elim (switch_after scene s e before) [
          | Mine same is ↦ ap (λ (v : SwitchAt). v.fresh) (stepped s is)
              ∙ turn_fresh scene (switch_at scene s (part (actor.Switch s) before)) e (drawn e before) (part (actor.Switch s) before) finds (subst (λ (p : List (JournalEntry B × Option (Packet B))). IsTurn p) is turn)
          | Another other is ↦ ap (λ (v : SwitchAt). v.fresh) (stayed s is) ∙ holds.turns s there (subst (λ (p : List (JournalEntry B × Option (Packet B))). IsTurn p) is turn)
        ]

    -- a controller that is down is honest
    nothing_there : (c : ControllerState) (promise life : ℕ) → IsHonest scene.kinds scene.setup (facts_of scene results (e ∷ before)) (down c promise life)
    nothing_there c promise life = record { entries = λ i y k. none_held i y k; marks = λ s l i k. absurd k; ahead = λ k entries has. none_ahead k entries has; views = record { view = omega arith; responses = λ r k. absurd k } }
      where
        none_held : (i : ℕ) (y : Entry) → HoldsEntry (down c promise life).vr i y → IsTrueEntry scene.kinds scene.setup (facts_of scene results (e ∷ before)) i y
        none_held i y (Logged at) = absurd (none_at i y at)
        none_held i y (Gathered g among at) = absurd among
        none_held i y (Answered r filled among is at) = absurd among
        none_held i y (Fetched p is at) = cc

        none_ahead : (k : ℕ) (entries : List Entry) → HoldsAhead (down c promise life).vr k entries → IsAhead (facts_of scene results (e ∷ before)) k entries
        none_ahead k entries (Owns is log) = nothing_ahead (facts_of scene results (e ∷ before)) k entries is log
        none_ahead k entries (Collects g among is log) = absurd among
        none_ahead k entries (Answers r filled among it is log) = absurd among
        none_ahead k entries (Supplies p it is log) = cc

    -- what a controller has committed after a turn is decided, and valid
    work_front : (c : ℕ) (w : ControllerState) → c < scene.setup.controllers → controller_state scene results c (e ∷ before) ≡ w → is_up w.vr ≡ true →
        IsPrefix (committed w) (decided scene results (e ∷ before)) × IsProperLog (committed w)
    work_front c w there now up =
        let on : kept scene results c (e ∷ before) ≡ committed w = ap (λ (y : ControllerState). kept_of y) now ∙ rw up refl in (
          subst (λ (l : List Entry). IsPrefix l (decided scene results (e ∷ before))) on (front e before legal trust c there),
          subst (λ (l : List Entry). IsProperLog l) on (sides.valid e before legal trust c there),
        )

    honest_goes : (c : ℕ) → same_actor (actor_of e) (actor.Controller c) ≡ true →
        ControllerGoes scene e (drawn e before) (controller_at scene (results_of results c) c (part (actor.Controller c) before)) (controller_at scene (results_of results c) c (part (actor.Controller c) (e ∷ before))) →
        IsHonestAt scene.kinds scene.setup (facts_of scene results (e ∷ before)) c (controller_at scene (results_of results c) c (part (actor.Controller c) (e ∷ before)))
    honest_goes c same (Turns x heard now owed) =
        let w : ControllerAt = controller_at scene (results_of results c) c (part (actor.Controller c) before) in
        let there = named_controller c same in
        let h = holds.controllers c there in
        let hears = controller_hears_truth c x same heard in
        let goes = sides.turns e before legal trust c there same x heard h.now hears in
        let k = controller_keeps scene.kinds scene.setup sides.setup (facts_of scene results before) (facts_of scene results (e ∷ before)) later c w.now x hears h.now goes
        (λ up. (work_front c (controller_work scene.kinds scene.setup w.now x).state there now up).0) (λ up. (work_front c (controller_work scene.kinds scene.setup w.now x).state there now up).1) in
        record {
          now = subst (λ (y : ControllerState). IsHonest scene.kinds scene.setup (facts_of scene results (e ∷ before)) y) (sym now) k.now;
          owed = subst (λ (ls : List (Letter ControllerSays)). (l : Letter ControllerSays) → IsIn l ls → IsOrder scene.kinds scene.setup (facts_of scene results (e ∷ before)) c l) (sym owed) k.said;
        }
    honest_goes c same (Falls old promise life now owed) =
        record {
          now = subst (λ (y : ControllerState). IsHonest scene.kinds scene.setup (facts_of scene results (e ∷ before)) y) (sym now) (nothing_there old promise life);
          owed = subst (λ (ls : List (Letter ControllerSays)). (l : Letter ControllerSays) → IsIn l ls → IsOrder scene.kinds scene.setup (facts_of scene results (e ∷ before)) c l) (sym owed) (λ l k. absurd k);
        }
    honest_goes c same (Stays now owed) =
        let m = honest_at_more scene.kinds scene.setup later c _ (holds.controllers c (named_controller c same)) in
        record {
          now = subst (λ (y : ControllerState). IsHonest scene.kinds scene.setup (facts_of scene results (e ∷ before)) y) (sym now) m.now;
          owed = elim owed [
            | inl is ↦ subst (λ (ls : List (Letter ControllerSays)). (l : Letter ControllerSays) → IsIn l ls → IsOrder scene.kinds scene.setup (facts_of scene results (e ∷ before)) c l) (sym is) m.owed
            | inr is ↦ subst (λ (ls : List (Letter ControllerSays)). (l : Letter ControllerSays) → IsIn l ls → IsOrder scene.kinds scene.setup (facts_of scene results (e ∷ before)) c l) (sym is) (λ l k. absurd k)
          ];
        }

    honest_after : (c : ℕ) → c < scene.setup.controllers →
        IsHonestAt scene.kinds scene.setup (facts_of scene results (e ∷ before)) c (controller_at scene (results_of results c) c (part (actor.Controller c) (e ∷ before)))
    honest_after c there =
        elim (controller_after scene (results_of results c) c e before) [
          | Own same is goes ↦ honest_goes c same goes
          | Other other is ↦
              subst (λ (p : List (JournalEntry B × Option (Packet B))). IsHonestAt scene.kinds scene.setup (facts_of scene results (e ∷ before)) c (controller_at scene (results_of results c) c p)) (sym is)
              (honest_at_more scene.kinds scene.setup later c _ (holds.controllers c there))
        ]

    -- a packet that is new was owed
    new_packet : (a : Actor) (first : ℕ) (letters : List (Letter B)) (lost : ℕ) (p : Packet B) → e ≡ Post a first letters lost → IsPosted a letters p →
        IsTrueBetween scene.kinds scene.setup (facts_of scene results (e ∷ before)) p.from p.to (content scene.sealing p)
    new_packet (actor.Switch s) first letters lost p is posted =
        let mine : same_actor (actor_of e) (actor.Switch s) ≡ true = ap (λ (y : JournalEntry B). same_actor (actor_of y) (actor.Switch s)) is ∙ self_switch s in
        elim (switch_after scene s e before) [
          | Mine same part_is ↦
              let there = named_switch s same in
              let w : SwitchAt = switch_at scene s (part (actor.Switch s) before) in
              let sound = (subst (λ (q : List (JournalEntry B × Option (Packet B))). IsSoundSwitch scene s q) part_is (legal.switches s there)).0 in
              let fits : (letters ≡ sealed_letters switch_message scene.sealing w.owed) × (letters ≢ []) × AreTyped switch_message w.owed =
              subst (λ (y : JournalEntry B). FitsDebt switch_message scene.sealing w.owed (part (actor.Switch s) before) y) is sound in
              let stepped_to : switch_at scene s (part (actor.Switch s) (e ∷ before)) ≡ record w { owed = []; fresh = false } =
              stepped s part_is ∙ ap (λ (y : JournalEntry B). switch_step scene w y (drawn e before)) is in
              let events_are : w.now.events ≡ (firm_switch (switch_at scene s (part (actor.Switch s) (e ∷ before)))).events = ap (λ (v : SwitchAt). (firm_switch v).events) (sym stepped_to) in
              let executed_are : w.now.executed ≡ (firm_switch (switch_at scene s (part (actor.Switch s) (e ∷ before)))).executed = ap (λ (v : SwitchAt). (firm_switch v).executed) (sym stepped_to) in
              switch_packet scene.sealing faithful scene.kinds scene.setup (facts_of scene results (e ∷ before)) p s there w.owed fits.2
              (λ l k. subst (λ (xs : List Executed). IsReport s (firm_switch (switch_at scene s (part (actor.Switch s) (e ∷ before)))).events xs l) executed_are
              (subst (λ (xs : List Event). IsReport s xs w.now.executed l) events_are ((holds.switches s there).owed l k)))
              (subst (λ (ls : List (Letter B)). IsPosted (actor.Switch s) ls p) fits.0 posted)
          | Another other part_is ↦ let no : true ≡ false = sym mine ∙ other in absurd cc
        ]
    new_packet (actor.Controller c) first letters lost p is posted =
        let mine : same_actor (actor_of e) (actor.Controller c) ≡ true = ap (λ (y : JournalEntry B). same_actor (actor_of y) (actor.Controller c)) is ∙ self_controller c in
        elim (controller_after scene (results_of results c) c e before) [
          | Own same part_is goes ↦
              let there = named_controller c same in
              let w : ControllerAt = controller_at scene (results_of results c) c (part (actor.Controller c) before) in
              let sound = (subst (λ (q : List (JournalEntry B × Option (Packet B))). IsSoundController scene (results_of results c) c q) part_is (legal.controllers c there)).0 in
              let fits : (letters ≡ sealed_letters controller_message scene.sealing w.owed) × (letters ≢ []) × AreTyped controller_message w.owed =
              subst (λ (y : JournalEntry B). FitsDebt controller_message scene.sealing w.owed (part (actor.Controller c) before) y) is sound in
              controller_packet scene.sealing faithful scene.kinds scene.setup (facts_of scene results (e ∷ before)) p c w.owed fits.2
              (λ l k. order_more scene.kinds scene.setup later c l ((holds.controllers c there).owed l k))
              (subst (λ (ls : List (Letter B)). IsPosted (actor.Controller c) ls p) fits.0 posted)
          | Other other part_is ↦ let no : true ≡ false = sym mine ∙ other in absurd cc
        ]

    packets_after : (p : Packet B) → IsIn p (pool (e ∷ before)) → IsTrueBetween scene.kinds scene.setup (facts_of scene results (e ∷ before)) p.from p.to (content scene.sealing p)
    packets_after p k =
        elim (pool_after e before p k) [
          | Was old ↦ between_more scene.kinds scene.setup later p.from p.to (content scene.sealing p) (holds.packets p old)
          | New a first letters lost is posted ↦ new_packet a first letters lost p is posted
        ]

    pub holds_after : HoldsOfRun scene results (e ∷ before)
    holds_after = record { switches = sound_after; turns = turns_after; controllers = honest_after; packets = packets_after }

  holds_first : HoldsOfRun scene results []
  holds_first = record {
    switches = λ s there. record {
      now = starts s;
      before = starts s;
      events = prefix_refl [];
      executed = prefix_refl [];
      owed = λ l k. absurd k;
    };
    turns = λ s there turn. absurd turn;
    controllers = λ c there. record {
      now = record { entries = λ i y k. none_held c i y k; marks = λ s l i k. absurd k; ahead = λ k entries has. none_ahead c k entries has; views = record { view = omega arith; responses = λ r k. absurd k } };
      owed = λ l k. absurd k;
    };
    packets = λ p k. absurd k;
  }
    where
      starts : (s : ℕ) → SwitchIsSound scene.kinds scene.setup (facts_of scene results []) s (starting_switch s scene.setup)
      starts s = record {
        well = record {
          number_is = refl;
          lives = refl;
          made = λ l i x at. absurd (none_at i x at);
          held = λ x k. absurd k;
          next = refl;
          done = λ l i x at. absurd (none_at i x at);
          count = refl;
        };
        good = λ x k. absurd k;
        issued = λ l i x at. absurd (none_at i x at);
        dropped = λ l. let none = get_zero [] l in omega (arith, none);
        rows = opening_valid;
      }

      none_held : (c i : ℕ) (y : Entry) → HoldsEntry (starting_controller c scene.setup.controllers).vr i y → IsTrueEntry scene.kinds scene.setup (facts_of scene results []) i y
      none_held c i y (Logged at) = absurd (none_at i y at)
      none_held c i y (Gathered g among at) = absurd among
      none_held c i y (Answered r filled among is at) = absurd among
      none_held c i y (Fetched p is at) = cc

      none_ahead : (c k : ℕ) (entries : List Entry) → HoldsAhead (starting_controller c scene.setup.controllers).vr k entries → IsAhead (facts_of scene results []) k entries
      none_ahead c k entries (Owns is log) = nothing_ahead (facts_of scene results []) k entries is log
      none_ahead c k entries (Collects g among is log) = absurd among
      none_ahead c k entries (Answers r filled among it is log) = absurd among
      none_ahead c k entries (Supplies p it is log) = cc

  -- after every possible past, and each before it
  all_hold : (entries : List (JournalEntry B)) → IsPossible scene results entries → (i : ℕ) → HoldsOfRun scene results (drop i entries)
  all_hold [] legal zero = holds_first
  all_hold [] legal (suc i) = holds_first
  all_hold (e ∷ before) legal zero = holds_after e before legal (all_hold before (possible_before scene results e before legal))
  all_hold (e ∷ before) legal (suc i) = all_hold before (possible_before scene results e before legal) i

  pub all_holds : (entries : List (JournalEntry B)) → IsPossible scene results entries → HoldsOfRun scene results entries
  all_holds entries legal = all_hold entries legal 0
