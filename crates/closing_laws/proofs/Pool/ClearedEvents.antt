-- What has left the buffers of switches while a closing is drained: events that were known as processed, or were so as the view started.
use Rattle.std.proofs.Common.{◌≡◌, ◌≤◌, ◌<◌, ◌⊎◌, inl, inr, ℕ, ◌%◌, max, Bool, true, false, List, [], ◌∷◌, ◌++◌, length, map, take, filter, refl, sym, ◌∙◌, ap, subst, arith, take_all}
use Rattle.std.specs.Prelude.{Option, if◌then◌else◌}
use Rattle.std.proofs.lemmas.Bool.{cases_eq, ne_eqb}
use Rattle.list_facts.specs.Lists.{IsIn}
use Rattle.list_facts.proofs.Elements.{in_append, in_map}
use Rattle.list_facts.proofs.Prefixes.{take_prefix, takes_prefix}
use Rattle.of_types.specs.declared.message.Event.{Event}
use Rattle.of_types.specs.declared.setup.Setup.{Setup}
use Rattle.of_types.specs.Lives.{count_in}
use Rattle.journal.specs.declared.journal.Actor.{Actor}
use Rattle.journal.specs.declared.journal.Actor.TheVariants as actor
use Rattle.journal.specs.declared.journal.Letter.{Letter}
use Rattle.journal.specs.Actors.{same_actor}
use Rattle.journal.proofs.Leaving.{same_actor-true}
use Rattle.vr_log.specs.declared.entry.Entry.{Entry}
use Rattle.vr_log.specs.declared.message.VrLetter.{VrLetter}
use Rattle.vr_log.specs.declared.state.VrState.{VrState}
use Rattle.vr_log.specs.Log.{received}
use Rattle.vr_log.specs.Members.{others_below}
use Rattle.vr_core.specs.declared.input.VrInput.TheVariants as vr_input
use Rattle.vr_core.specs.Step.{vr_step}
use Rattle.two_stage_log.specs.Counts.{processed_of}
use Rattle.controller_moves.proofs.ControllerLaws.Logs.{count_prefix, processed_count, received_prefix}
use Rattle.of_switch.specs.State.{SwitchState, SwitchTurn, life_of}
use Rattle.group_controller.specs.declared.messages.ControllerSays.{ControllerSays}
use Rattle.group_controller.specs.State.{ControllerState, Work, committed, to_member, to_members}
use Rattle.group_controller.specs.Rules.{controller_work, switches}
use Rattle.group_controller.specs.Settling.{role_letter}
use Rattle.run_spec.specs.declared.messages.Message.{Message}
use Rattle.run_spec.specs.States.{controller_message, switch_message}
use Rattle.closing_laws.specs.Quorum.{has}
use Rattle.closing_laws.specs.Following.{Start}
use Rattle.closing_laws.specs.Serving.{AreFew, IsOlder, IsTrueOf, acknowledges_events}
use Rattle.closing_laws.specs.Views.{IsCovered, IsReadyMember}
use Rattle.closing_laws.specs.Ways.{Sent, between, goes, sent_by, told_to}
use Rattle.closing_laws.proofs.Draining.Drained.{heard_of, put, put_other, put_own}
use Rattle.closing_laws.proofs.Draining.Leading as leading
use Rattle.closing_laws.proofs.Draining.OpeningTurn as opens
use Rattle.closing_laws.proofs.Journal.Between.{between_own, between_sent, posted_other, posted_own}
use Rattle.closing_laws.proofs.Lists.Picked.{IsPicked}
use Rattle.closing_laws.proofs.Measure.StartMeasure as measure
use Rattle.closing_laws.proofs.Pool.PrimaryPosts.{Ack, Clear, Command, Prepare, IsPosted, Posts}
use Rattle.closing_laws.proofs.Pool.RoleRooms as opening
use Rattle.closing_laws.proofs.Pool.Rooms as rooms
use Rattle.closing_laws.proofs.Pool.Rooms.{Keeps, NothingBeside, turn_on}
use Rattle.closing_laws.proofs.Pool.SwitchPosts.{IsTurn, turn_clears, turn_life, turn_lives}
use Rattle.closing_laws.proofs.Pool.TurnPosts.{primary_posts, switch_turns}
use Rattle.closing_laws.proofs.Primary.Finishing.{Grows, grows_committed}
use Rattle.closing_laws.proofs.Truths.SwitchTruths.{processed_received}

-- what was behind a message is among what waited
pub in_later : (from to : Actor) (m : Sent) (rest : List Sent) (x : Message) → IsIn x (between from to rest) → IsIn x (between from to (m ∷ rest))
in_later from to m rest x among = by_way (goes from to m)
  where
    by_way : (b : Bool) → IsIn x (if b then m.said ∷ between from to rest else between from to rest)
    by_way true = inr among
    by_way false = among

-- what an actor is told is in a letter to it
pub in_told : {A : Type 0} (says : A → Message) (to : Actor) (letters : List (Letter A)) (x : Message) → IsIn x (told_to says to letters) →
    (l : Letter A) × IsIn l letters × (l.to ≡ to) × (x ≡ says l.body)
in_told says to [] x none = absurd none
in_told {A} says to (l ∷ letters) x among = by_way (λ rest. let r = in_told says to letters x rest in (r.0, inr r.1, r.2, r.3)) (same_actor l.to to) refl among
  where
    Found : Type 0
    Found = (k : Letter A) × IsIn k (l ∷ letters) × (k.to ≡ to) × (x ≡ says k.body)

    by_way : (IsIn x (told_to says to letters) → Found) → (b : Bool) → same_actor l.to to ≡ b → IsIn x (if b then says l.body ∷ told_to says to letters else told_to says to letters) → Found
    by_way later true own (inl is) = (l, inl refl, same_actor-true l.to to own, is)
    by_way later true own (inr rest) = later rest
    by_way later false other rest = later rest

-- a primary acknowledges no more events than are processed
posted_ack : (log : List Entry) (s life through : ℕ) (l : Letter ControllerSays) → IsPosted log l → l.to ≡ actor.Switch s → acknowledges_events life through ≡ controller_message l.body → through ≤ processed_of log s life
posted_ack log s life through _ (Ack t few) to is =
    let own : t.switch ≡ s = cc in
    let its_life : life ≡ t.life = cc in
    let same : through ≡ t.through = cc in
    subst (λ (n : ℕ). n ≤ processed_of log s life) (sym same) (subst (λ (n : ℕ). t.through ≤ processed_of log s n) (sym its_life) (subst (λ (n : ℕ). t.through ≤ processed_of log n t.life) own few))
posted_ack log s life through _ (Clear t) to is = absurd cc
posted_ack log s life through _ (Command view n few) to is = absurd cc
posted_ack log s life through _ (Prepare to' view op commit entry) to is = absurd cc

-- what is committed is of what is, or was as the view started
more_counted : (s life len : ℕ) (v v' : VrState) → Grows v v' → count_in s life (received (take (max v.commit len) v.log)) ≤ count_in s life (received (take (max v'.commit len) v'.log))
more_counted s life len v v' g =
    count_prefix s life (received_prefix (take_prefix (max v.commit len) (max v'.commit len) (let low = g.commit in omega (arith, low)) g.log))

module _ (kinds : List ℕ) (setup : Setup) (few : AreFew kinds setup) (w p : ℕ) (quorum : List ℕ) (start : Start) (picked : IsPicked setup.controllers w quorum) (inside : has quorum p ≡ true)
    (leader : p ≡ w % setup.controllers) (small : (b : ℕ) → has quorum b ≡ true → b < setup.controllers) where
  abbrev HasCleared : ControllerState → (ℕ → VrState) → (ℕ → SwitchState) → List Sent → Type 0
  HasCleared c members switches waiting = rooms.HasCleared kinds setup w p quorum start c members switches waiting

  primary_clears : (c : ControllerState) (work : Work) (members : ℕ → VrState) (switches : ℕ → SwitchState) (m : Sent) (rest : List Sent) → Grows c.vr work.state.vr →
      ((l : Letter ControllerSays) → IsIn l work.letters → IsPosted (committed work.state) l) → HasCleared c members switches (m ∷ rest) →
      HasCleared work.state members switches (rest ++ map (sent_by controller_message (actor.Controller p)) work.letters)
  primary_clears c work members switches m rest grows each room = record {
    acks = λ s life through there among own. elim (in_append (acknowledges_events life through) (between (actor.Controller p) (actor.Switch s) rest) (told_to controller_message (actor.Switch s) work.letters)
        (subst (λ (l : List Message). IsIn (acknowledges_events life through) l) (posted_own controller_message (actor.Controller p) (actor.Switch s) rest work.letters) among)) [
          | inl old ↦
              let before = room.acks s life through there (in_later (actor.Controller p) (actor.Switch s) m rest (acknowledges_events life through) old) own in
              let more = processed_count s (life_of (switches s)) (grows_committed c work.state grows) in
              omega (arith, before, more)
          | inr new ↦
              let l = in_told controller_message (actor.Switch s) work.letters (acknowledges_events life through) new in
              subst (λ (k : ℕ). through ≤ processed_of (committed work.state) s k) own (posted_ack (committed work.state) s life through l.0 (each l.0 l.1) l.2 l.3)
        ];
    cleared = λ s there.
        let before = room.cleared s there in
        let more = more_counted s (life_of (switches s)) (length start.log) c.vr work.state.vr grows in
        omega (arith, before, more);
  }

  switch_clears : (c : ControllerState) (members : ℕ → VrState) (switches : ℕ → SwitchState) (m : Sent) (rest : List Sent) (s : ℕ) (turn : SwitchTurn) → s < length setup.ports →
      m.from ≡ actor.Controller p → m.to ≡ actor.Switch s → IsTurn c.vr.me c.vr.view (switches s) m.said turn → HasCleared c members switches (m ∷ rest) →
      HasCleared c members (put switches s turn.state) (rest ++ map (sent_by switch_message (actor.Switch s)) turn.letters)
  switch_clears c members switches m rest s turn here from to is room = record {
    acks = λ t life through there among own.
        subst (λ (k : ℕ). through ≤ processed_of (committed c) t k) (sym (same_life t))
        (room.acks t life through there
        (in_later (actor.Controller p) (actor.Switch t) m rest (acknowledges_events life through)
        (subst (λ (l : List Message). IsIn (acknowledges_events life through) l) (posted_other switch_message (actor.Switch s) (actor.Controller p) (actor.Switch t) rest turn.letters refl) among))
        (own ∙ same_life t));
    cleared = λ t there. elim (cases_eq t s) [
      | inl e ↦ subst (λ (k : ℕ). (put switches s turn.state k).buffer.cleared ≤ count_in k (life_of (put switches s turn.state k)) log) (sym e)
          (subst (λ (x : SwitchState). x.buffer.cleared ≤ count_in s (life_of x) log) (sym (put_own switches s turn.state))
          (subst (λ (k : ℕ). turn.state.buffer.cleared ≤ count_in s k log) (sym life) (by_turn (turn_clears c.vr.me c.vr.view (switches s) m.said turn is))))
      | inr e ↦ subst (λ (x : SwitchState). x.buffer.cleared ≤ count_in t (life_of x) log) (sym (put_other switches s turn.state t e)) (room.cleared t there)
    ];
  }
    where
      log : List Event
      log = received (take (max c.vr.commit (length start.log)) c.vr.log)

      life : life_of turn.state ≡ life_of (switches s)
      life = turn_life c.vr.me c.vr.view (switches s) m.said turn is

      same_life : (t : ℕ) → life_of (put switches s turn.state t) ≡ life_of (switches t)
      same_life = turn_lives c.vr.me c.vr.view switches s m.said turn is

      by_turn : (turn.state.buffer.cleared ≡ (switches s).buffer.cleared) ⊎
          ((through : ℕ) × (m.said ≡ acknowledges_events (life_of (switches s)) through) × (turn.state.buffer.cleared ≤ max (switches s).buffer.cleared through)) →
          turn.state.buffer.cleared ≤ count_in s (life_of (switches s)) log
      by_turn (inl same) = let before = room.cleared s here in omega (arith, before, same)
      by_turn (inr (through, said, most)) =
          let before = room.cleared s here in
          let ack = room.acks s (life_of (switches s)) through here
          (subst (λ (l : List Message). IsIn (acknowledges_events (life_of (switches s)) through) l) (sym (between_own (actor.Controller p) (actor.Switch s) m rest from to)) (inl (sym said))) refl in
          let within = processed_received (committed c) s (life_of (switches s)) in
          let more = count_prefix s (life_of (switches s)) (received_prefix (takes_prefix c.vr.commit (max c.vr.commit (length start.log)) c.vr.log (omega arith))) in
          omega (arith, before, most, ack, within, more)

  pub keeps_cleared : Keeps kinds setup w p quorum start NothingBeside HasCleared
  keeps_cleared = record {
    lost = λ c members switches m rest d lost beside beside' room. record {
      acks = λ s life through there among own. room.acks s life through there (in_later (actor.Controller p) (actor.Switch s) m rest (acknowledges_events life through) among) own;
      cleared = room.cleared;
    };
    member = λ c members switches m rest b x d from to chosen other says d' beside beside' room. record {
      acks = λ s life through there among own.
          room.acks s life through there
          (in_later (actor.Controller p) (actor.Switch s) m rest (acknowledges_events life through)
          (subst (λ (l : List Message). IsIn (acknowledges_events life through) l)
          (posted_other controller_message (actor.Controller b) (actor.Controller p) (actor.Switch s) rest (to_members (vr_step (members b) (vr_input.From p x)).letters) (ne_eqb b p other)) among)) own;
      cleared = room.cleared;
    };
    primary = λ c members switches m rest d to heard t t' full d' beside beside' room.
        let h = primary_posts kinds setup few w p quorum start picked inside leader small c members switches m rest d to t heard in
        primary_clears c (controller_work kinds setup c (heard_of m)) members switches m rest h.grows h.each room;
    switch = λ c members switches m rest s there d from to t t' d' beside beside' room.
        switch_clears c members switches m rest s (turn_on (switches s) m) there from to
        (switch_turns kinds setup few w p quorum start picked inside leader small c members switches m rest d s there from to t) room;
  }

-- ---- where the view starts

module _ (kinds : List ℕ) (setup : Setup) (few : AreFew kinds setup) (w : ℕ) (quorum : List ℕ) (at : ℕ → VrState) (best : ℕ) (picked : IsPicked setup.controllers w quorum)
    (small : (b : ℕ) → has quorum b ≡ true → b < setup.controllers) (ready : (j : ℕ) → has quorum j ≡ true → IsReadyMember setup.controllers w j (at j)) (covered : IsCovered quorum at best) (chosen : has quorum best ≡ true)
    (voters : ℕ → List ℕ) (promise : Option ℕ) (sw : ℕ → SwitchState) (older : (t : ℕ) → t < length setup.ports → IsOlder (sw t).fence.generation w) where
  abbrev p : ℕ
  p = opens.p kinds setup few w quorum at best picked small ready covered chosen voters promise sw older

  abbrev start : Start
  start = opens.start kinds setup few w quorum at best picked small ready covered chosen voters promise sw older

  abbrev leader : VrState
  leader = opens.leader kinds setup few w quorum at best picked small ready covered chosen voters promise sw older

  abbrev words : List VrLetter
  words = opens.words kinds setup few w quorum at best picked small ready covered chosen voters promise sw older

  abbrev end : Work
  end = opens.end kinds setup few w quorum at best picked small ready covered chosen voters promise sw older

  -- no event is logged
  pub events_same : received end.state.vr.log ≡ received leader.log
  events_same =
      measure.events_same kinds setup quorum (length (filter (has quorum) (others_below leader.me leader.controllers))) 0 sw
      (opens.first kinds setup few w quorum at best picked small ready covered chosen voters promise sw older) refl
      (leading.leads_with setup.controllers w quorum at best picked small ready covered chosen voters).one
      (opens.within kinds setup few w quorum at best picked small ready covered chosen voters promise sw older)
      (opens.whole kinds setup few w quorum at best picked small ready covered chosen voters promise sw older) (omega arith)

  posts : Posts p (opens.asking kinds setup few w quorum at best picked small ready covered chosen voters promise sw older) end
  posts = opening.opening_posts kinds setup few w quorum at best picked small ready covered chosen voters promise sw older

  -- each acknowledgement among the letters of the turn is one of Settle
  acks_posted : (s life through : ℕ) (l : Letter ControllerSays) → IsIn l end.letters → l.to ≡ actor.Switch s → acknowledges_events life through ≡ controller_message l.body →
      through ≤ processed_of (committed end.state) s life
  acks_posted s life through l there to is =
      elim (in_append l (to_members words ++ map (role_letter w) (switches setup)) posts.letters (subst (λ (ls : List (Letter ControllerSays)). IsIn l ls) posts.joined there)) [
        | inl first ↦ elim (in_append l (to_members words) (map (role_letter w) (switches setup)) first) [
          | inl said ↦
              let y = in_map to_member words l said in
              let other : acknowledges_events life through ≡ controller_message (to_member y.0).body = is ∙ ap (λ (x : Letter ControllerSays). controller_message x.body) y.2 in
              absurd cc
          | inr asked ↦
              let y = in_map (role_letter w) (switches setup) l asked in
              let other : acknowledges_events life through ≡ controller_message (role_letter w y.0).body = is ∙ ap (λ (x : Letter ControllerSays). controller_message x.body) y.2 in
              absurd cc
        ]
        | inr more ↦ posted_ack (committed end.state) s life through l (posts.each l more) to is
      ]

  pub cleared_starts : (members : ℕ → VrState) → ((t : ℕ) → t < length setup.ports → IsTrueOf kinds setup end.state t (sw t)) →
      rooms.HasCleared kinds setup w p quorum start end.state members sw (map (sent_by controller_message (actor.Controller p)) end.letters)
  cleared_starts members each = record {
    acks = λ s life through there among own.
        let l = in_told controller_message (actor.Switch s) end.letters (acknowledges_events life through)
        (subst (λ (ms : List Message). IsIn (acknowledges_events life through) ms) (between_sent controller_message (actor.Controller p) (actor.Switch s) end.letters) among) in
        subst (λ (k : ℕ). through ≤ processed_of (committed end.state) s k) own (acks_posted s life through l.0 l.1 l.2 l.3);
    cleared = λ s there.
        let low = (each s there).cleared in
        let same = ap (λ (es : List Event). count_in s (life_of (sw s)) es) events_same in
        let front = take_prefix (length leader.log) (max end.state.vr.commit (length leader.log)) (omega arith)
        (opens.grown kinds setup few w quorum at best picked small ready covered chosen voters promise sw older).log in
        let all = ap (λ (es : List Entry). count_in s (life_of (sw s)) (received es)) (take_all (length leader.log) leader.log (omega arith)) in
        let more = count_prefix s (life_of (sw s)) (received_prefix front) in
        omega (arith, low, same, all, more);
  }
