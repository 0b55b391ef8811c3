-- While a closing is drained few entries of the primary's log are on their way to other members, or acknowledged by them.
use Rattle.std.proofs.Common.{◌≡◌, ◌≤◌, ◌<◌, ◌⊎◌, inl, inr, ℕ, zero, suc, ◌+◌, ◌/◌, ◌%◌, max, Bool, true, false, List, [], ◌∷◌, ◌++◌, map, length, refl, sym, ◌∙◌, ap, subst, arith}
use Rattle.std.specs.Prelude.{nat_le, count_by, filter, slice_index, if◌then◌else◌}
use Rattle.std.proofs.lemmas.Bool.{cases_Bool, cases_eq, cases_lt, cases_order, leb-true, ne_eqb, true≢false}
use Rattle.std.proofs.lemmas.List.Sums.{length-filter}
use Rattle.std.proofs.lemmas.List.{append-nil, get_or-set_other, get_or-set_same}
use Rattle.of_types.specs.declared.message.Event.{Event}
use Rattle.of_types.specs.declared.message.Happening.{Happening}
use Rattle.of_types.specs.declared.setup.Setup.{Setup}
use Rattle.of_types.specs.Lives.{count_in, life_in}
use Rattle.of_types.proofs.Counts.{count_here, count_there}
use Rattle.journal.specs.declared.journal.Actor.{Actor}
use Rattle.journal.specs.declared.journal.Actor.TheVariants as actor
use Rattle.journal.specs.declared.journal.Letter.{Letter}
use Rattle.list_facts.specs.Lists.{IsIn}
use Rattle.list_facts.proofs.Elements.{in_append, in_map}
use Rattle.vr_log.specs.declared.message.VrLetter.{VrLetter}
use Rattle.vr_log.specs.declared.message.VrMessage.TheVariants as vr
use Rattle.vr_log.specs.declared.state.VrState.{VrState}
use Rattle.vr_log.specs.Log.{may_be_received, received}
use Rattle.vr_log.specs.Members.{most_failures, others_below}
use Rattle.vr_log.specs.Steps.{letter, quiet}
use Rattle.vr_normal.specs.Cases.{acked_by, agreed, greatest, is_agreed, ops}
use Rattle.vr_core.specs.declared.input.VrInput.TheVariants as vr_input
use Rattle.vr_core.specs.Step.{vr_step}
use Rattle.dispatcher.specs.declared.answers.EventAction.{EventAction}
use Rattle.dispatcher.specs.declared.answers.EventAction.TheVariants.{Propose, Acknowledge, Nothing}
use Rattle.dispatcher.specs.Folding.{is_done, wish}
use Rattle.two_stage_log.specs.Counts.{processed_of}
use Rattle.of_switch.specs.declared.says.SwitchSays.{SwitchSays}
use Rattle.of_switch.specs.declared.says.SwitchSays.TheVariants as switch_says
use Rattle.of_switch.specs.State.{SwitchState, SwitchTurn, life_of}
use Rattle.of_switch.specs.Events.{window}
use Rattle.of_switch.specs.Rules.{switch_turn}
use Rattle.group_controller.specs.declared.messages.ControllerSays.{ControllerSays}
use Rattle.group_controller.specs.State.{ControllerState, Work, committed, posting_work, resting, stepped, to_members, with_no_met_limit}
use Rattle.group_controller.specs.Settling.{ack_letter}
use Rattle.group_controller.specs.Rules.{controller_work, on_wish}
use Rattle.run_spec.specs.declared.messages.Message.{Message}
use Rattle.run_spec.specs.declared.messages.Message.TheVariants as message
use Rattle.run_spec.specs.declared.messages.Unsealed.TheVariants as unsealed
use Rattle.run_spec.specs.States.{controller_message, switch_hears, switch_message}
use Rattle.closing_laws.specs.Quorum.{has}
use Rattle.closing_laws.specs.Ways.{Sent, sent_by, between}
use Rattle.closing_laws.specs.Following.{IsAgreed, LeadsFrom, Start}
use Rattle.closing_laws.specs.Serving.{AreFew, IsAttended, IsTrueOf, events_said, logged_of}
use Rattle.closing_laws.proofs.Draining.Agreeing as agreeing
use Rattle.closing_laws.proofs.Draining.Agreeing.{counted_agreed}
use Rattle.closing_laws.proofs.Draining.Drained.{heard_of, put, put_other, put_own}
use Rattle.closing_laws.proofs.Draining.Followers.{started_within}
use Rattle.closing_laws.proofs.Draining.PrimaryTurns as primary_turns
use Rattle.closing_laws.proofs.Draining.TurnCases as turn_cases
use Rattle.closing_laws.proofs.Draining.TurnCases.{OfTurns}
use Rattle.closing_laws.proofs.Journal.Between.{between_own}
use Rattle.closing_laws.proofs.Lists.Numbers.{has_in}
use Rattle.closing_laws.proofs.Lists.Picked.{IsPicked}
use Rattle.closing_laws.proofs.Pool.Broadcasts.{AreNear, HasPlace, Tells_entry, Acknowledges_entry, Is_other, Posts, near_append, near_few, prepares_none, prepares_to}
use Rattle.closing_laws.proofs.Pool.Broadcasts as broadcasts
use Rattle.closing_laws.proofs.Pool.Rooms.{is_prepare, turn_on}
use Rattle.closing_laws.proofs.Pool.Rooms as rooms
use Rattle.closing_laws.proofs.Pool.TestCounts.{count_more}
use Rattle.closing_laws.proofs.Pool.TurnPosts.{member_answers}
use Rattle.closing_laws.proofs.Primary.Agreed.{marked}
use Rattle.closing_laws.proofs.Primary.Coming as coming_by
use Rattle.closing_laws.proofs.Primary.Coming.{may_not}
use Rattle.closing_laws.proofs.Primary.Heard as heard_by
use Rattle.closing_laws.proofs.Start.Rounds.{below_in}
use Rattle.closing_laws.proofs.Switches.SwitchKeeps as switch_by

-- ---- what is agreed on

-- the greatest op is the one before, or passes the test
abbrev IsOf : (ℕ → Bool) → ℕ → ℕ → Type 0
IsOf t k g = (g ≡ k) ⊎ ((0 < g) × (t g ≡ true))

greatest_is : (t : ℕ → Bool) (k m : ℕ) → IsOf t k (greatest k (filter t (ops m)))
greatest_is t k zero = inl refl
greatest_is t k (suc m) = by_test (t (suc m)) refl (greatest_is t k m)
  where
    by_test : (b : Bool) → t (suc m) ≡ b → IsOf t k (greatest k (filter t (ops m))) → IsOf t k (greatest k (if b then suc m ∷ filter t (ops m) else filter t (ops m)))
    by_test false is rest = rest
    by_test true is rest = elim (cases_lt (suc m) (greatest k (filter t (ops m)))) [
      | inl less ↦ let same : greatest k (filter t (ops m)) ≡ max (suc m) (greatest k (filter t (ops m))) = omega (arith, less) in subst (IsOf t k) same rest
      | inr most ↦ let same : suc m ≡ max (suc m) (greatest k (filter t (ops m))) = omega (arith, most) in subst (IsOf t k) same (inr (omega arith, is))
    ]

-- where no fewer pass the stronger test, all that pass the weaker one do
all_pass : (t u : ℕ → Bool) (xs : List ℕ) → ((x : ℕ) → IsIn x xs → t x ≡ true → u x ≡ true) → length (filter u xs) ≤ count_by t xs → (y : ℕ) → IsIn y xs → u y ≡ true → t y ≡ true
all_pass t u xs weaker many y among passes = elim (cases_Bool (t y)) [
  | inl is ↦ is
  | inr out ↦ absurd (let fewer = count_more t u xs weaker y among out passes in let same = length-filter u xs in omega (arith, fewer, same, many))
]

module _ (kinds : List ℕ) (setup : Setup) (w p : ℕ) (quorum : List ℕ) (start : Start) where
  abbrev n : ℕ
  n = setup.controllers

  abbrev first : ℕ
  first = length start.log

  -- What members have acknowledged to the primary: nothing, or all of the first log; those outside of the quorum nothing. What is
  -- committed was known as the view started, or all of the quorum have acknowledged it.
  pub record IsCounted (v : VrState) : Type 0 where
    pub outside : (b : ℕ) → has quorum b ≡ false → slice_index v.acked b ≡ 0
    pub acked : (b : ℕ) → has quorum b ≡ true → (b ≡ p → ⊥) → (slice_index v.acked b ≡ 0) ⊎ (length start.log ≤ slice_index v.acked b)
    pub commit : (v.commit ≡ start.known) ⊎ ((length start.log ≤ v.commit) × ((b : ℕ) → has quorum b ≡ true → (b ≡ p → ⊥) → v.commit ≤ slice_index v.acked b))

  -- Entries are on their way to all others of the group alike, and acknowledged by those of the quorum; and few events of a switch
  -- are logged that are not in the first log.
  pub record PrepareRoom (c : ControllerState) (members : ℕ → VrState) (switches : ℕ → SwitchState) (waiting : List Sent) : Type 0 where
    pub counted : IsCounted c.vr
    pub placed : (m : Sent) → IsIn m waiting → HasPlace p setup.controllers quorum (length start.log) m
    pub near : (a b : ℕ) → a < setup.controllers → b < setup.controllers → (a ≡ p → ⊥) → (b ≡ p → ⊥) → AreNear a b waiting
    pub logged : (s : ℕ) → s < length setup.ports → logged_of c s (switches s) ≤ max ((switches s).buffer.cleared + window) (count_in s (life_of (switches s)) (received start.log))

  pub room_committed : (c : ControllerState) (members : ℕ → VrState) (switches : ℕ → SwitchState) (waiting : List Sent) → PrepareRoom c members switches waiting → rooms.HasCommitted kinds setup w p quorum start c
  room_committed c members switches waiting room = elim room.counted.commit [ inl e ↦ inl e | inr h ↦ inr h.0 ]

  module _ (few : AreFew kinds setup) (picked : IsPicked setup.controllers w quorum) (inside : has quorum p ≡ true) (leader : p ≡ w % setup.controllers)
      (small : (b : ℕ) → has quorum b ≡ true → b < setup.controllers) where
    abbrev Drains : ControllerState → (ℕ → VrState) → (ℕ → SwitchState) → List Sent → Type 0
    Drains c members switches waiting = rooms.Drains kinds setup w p quorum start c members switches waiting

    -- alone there is no other
    no_other : n / 2 ≡ 0 → (b : ℕ) → b < n → (b ≡ p → ⊥) → ⊥
    no_other none b less other = let less_p = small p inside in other (omega (arith, none, less, less_p))

    -- nothing was acknowledged, and in a group of several nothing more is committed
    still_counted : (v v' : VrState) → v'.acked ≡ v.acked → (0 < most_failures v → v'.commit ≡ v.commit) → v.controllers ≡ n → LeadsFrom start v' → IsAgreed v' quorum → v'.me ≡ p → IsCounted v → IsCounted v'
    still_counted v v' acked commit size lead agreed me h = record {
      outside = λ b out. ap (λ (l : List ℕ). slice_index l b) acked ∙ h.outside b out;
      acked = λ b chosen other. subst (λ (l : List ℕ). (slice_index l b ≡ 0) ⊎ (length start.log ≤ slice_index l b)) (sym acked) (h.acked b chosen other);
      commit = elim (cases_lt 0 (most_failures v)) [
        | inl some ↦
            subst (λ (k : ℕ). (k ≡ start.known) ⊎ ((length start.log ≤ k) × ((b : ℕ) → has quorum b ≡ true → (b ≡ p → ⊥) → k ≤ slice_index v'.acked b))) (sym (commit some))
            (subst (λ (l : List ℕ). (v.commit ≡ start.known) ⊎ ((length start.log ≤ v.commit) × ((b : ℕ) → has quorum b ≡ true → (b ≡ p → ⊥) → v.commit ≤ slice_index l b))) (sym acked) h.commit)
        | inr none ↦
            let alone : n / 2 ≡ 0 = (let half = ap (λ (k : ℕ). k / 2) size in omega (arith, half, none)) in
            inr (
              agreed (length start.log) (started_within start v' lead) (λ b chosen other. absurd (no_other alone b (small b chosen) (λ e. other (e ∙ sym me)))),
              λ b chosen other. absurd (no_other alone b (small b chosen) other),
            )
      ];
    }

    -- a member of the quorum acknowledges the first log, or more
    module _ (v : VrState) (b op : ℕ) (chosen : has quorum b ≡ true) (other : b ≡ p → ⊥) (late : length start.log ≤ op) (me : v.me ≡ p) (size : v.controllers ≡ n) (lead : LeadsFrom start v) (h : IsCounted v) where
      abbrev next : VrState
      next = acked_by v b op

      own : slice_index next.acked b ≡ max op (slice_index v.acked b)
      own = get_or-set_same v.acked b (max op (slice_index v.acked b)) 0 (let counts = lead.counts in let low = small b chosen in omega (arith, counts, low, size))

      same : (j : ℕ) → (j ≡ b → ⊥) → slice_index next.acked j ≡ slice_index v.acked j
      same j apart = get_or-set_other v.acked b j (max op (slice_index v.acked b)) 0 apart

      no_less : (j : ℕ) → slice_index v.acked j ≤ slice_index next.acked j
      no_less j = elim (cases_eq j b) [
        | inl e ↦ let here = ap (λ (i : ℕ). slice_index next.acked i) e in let there = ap (λ (i : ℕ). slice_index v.acked i) e in let o = own in omega (arith, here, there, o)
        | inr e ↦ let s = same j e in omega (arith, s)
      ]

      out_now : (j : ℕ) → has quorum j ≡ false → slice_index next.acked j ≡ 0
      out_now j out = same j (λ e. true≢false (sym chosen ∙ ap (has quorum) (sym e) ∙ out)) ∙ h.outside j out

      acked_now : (j : ℕ) → has quorum j ≡ true → (j ≡ p → ⊥) → (slice_index next.acked j ≡ 0) ⊎ (length start.log ≤ slice_index next.acked j)
      acked_now j member apart = elim (cases_eq j b) [
        | inl e ↦ inr (let here = ap (λ (i : ℕ). slice_index next.acked i) e in let o = own in omega (arith, here, o, late))
        | inr e ↦ subst (λ (k : ℕ). (k ≡ 0) ⊎ (length start.log ≤ k)) (sym (same j e)) (h.acked j member apart)
      ]

      picked_here : IsPicked next.controllers w quorum
      picked_here = subst (λ (k : ℕ). IsPicked k w quorum) (sym size) picked

      mine : has quorum next.me ≡ true
      mine = ap (has quorum) me ∙ inside

      -- what as many acknowledge as are in the quorum all of the quorum do
      all_agree : (op' : ℕ) → 0 < op' → is_agreed next op' ≡ true → (j : ℕ) → has quorum j ≡ true → (j ≡ p → ⊥) → op' ≤ slice_index next.acked j
      all_agree op' some passes j member apart =
          let count = leb-true (most_failures next) (count_by (λ i. nat_le op' (slice_index next.acked i)) (others_below next.me next.controllers)) passes in
          let half = agreeing.enough next w quorum picked_here mine in
          leb-true op' (slice_index next.acked j)
          (all_pass (λ i. nat_le op' (slice_index next.acked i)) (has quorum) (others_below next.me next.controllers) (λ i there low. of_quorum i (leb-true op' (slice_index next.acked i) low)) (omega (arith, count, half)) j
          (has_in (others_below next.me next.controllers) j (below_in next.me next.controllers j (let less = small j member in omega (arith, less, size)) (ne_eqb next.me j (λ e. apart (sym e ∙ me))))) member)
        where
          of_quorum : (i : ℕ) → op' ≤ slice_index next.acked i → has quorum i ≡ true
          of_quorum i low = by_value (has quorum i) refl
            where
              by_value : (c : Bool) → has quorum i ≡ c → c ≡ true
              by_value true is = refl
              by_value false is = let none = out_now i is in absurd (omega (arith, none, low, some))

      pub acked_counted : IsCounted (marked v b op)
      acked_counted = record {
        outside = out_now;
        acked = acked_now;
        commit = elim (greatest_is (is_agreed next) v.commit (length v.log)) [
          | inl stays ↦ elim h.commit [
            | inl e ↦ inl (stays ∙ e)
            | inr old ↦
                let low = old.0 in
                inr (omega (arith, low, stays), λ j member apart. (let before = old.1 j member apart in let more = no_less j in omega (arith, before, more, stays)))
          ]
          | inr (some, passes) ↦
              let all = all_agree (agreed next) some passes in
              inr (
                counted_agreed next w quorum picked_here mine (length start.log) (started_within start v lead)
                    (λ j member apart.
                    let other_p : (j ≡ p → ⊥) = (λ e. apart (e ∙ sym me)) in
                    let low = all j member other_p in
                    elim (acked_now j member other_p) [ inl none ↦ absurd (omega (arith, none, low, some)) | inr e ↦ e ]),
                all,
              )
        ];
      }

    -- ---- the turns

    -- a member answers its primary alone, and acknowledges
    module _ (b : ℕ) (chosen : has quorum b ≡ true) (other : b ≡ p → ⊥) (view : ℕ) where
      abbrev answered : List VrLetter → List Sent
      answered ls = map (sent_by controller_message (actor.Controller b)) (to_members ls)

      abbrev AreAnswers : List VrLetter → Type 0
      AreAnswers ls = (ls ≡ []) ⊎ ((op : ℕ) × (ls ≡ letter (vr.PrepareOk view op) p ∷ []) × (length start.log ≤ op))

      answers_placed : (ls : List VrLetter) → AreAnswers ls → (y : Sent) → IsIn y (answered ls) → HasPlace p n quorum first y
      answers_placed ls (inl none) y among = absurd (subst (λ (l : List VrLetter). IsIn y (answered l)) none among)
      answers_placed ls (inr (op, one, late)) y among = elim (subst (λ (l : List VrLetter). IsIn y (answered l)) one among) [
        | inl e ↦ Acknowledges_entry b view op (ap (λ (z : Sent). z.from) e) (ap (λ (z : Sent). z.to) e) chosen other late (ap (λ (z : Sent). z.said) e)
        | inr none ↦ absurd none
      ]

      answers_untold : (ls : List VrLetter) → AreAnswers ls → (a : ℕ) → prepares_to a (answered ls) ≡ 0
      answers_untold ls (inl none) a = ap (λ (l : List VrLetter). prepares_to a (answered l)) none
      answers_untold ls (inr (op, one, late)) a = ap (λ (l : List VrLetter). prepares_to a (answered l)) one

    -- a turn of the primary that posts from a state in which all was counted
    turn_keeps : (c : ControllerState) (members : ℕ → VrState) (switches : ℕ → SwitchState) (m : Sent) (rest : List Sent) (old work : Work) (more : List Event) →
        old.letters ≡ [] → old.state.vr.me ≡ p → old.state.vr.controllers ≡ n → IsCounted old.state.vr → Posts quorum first old work more →
        Drains work.state members switches (rest ++ map (sent_by controller_message (actor.Controller p)) work.letters) → PrepareRoom c members switches (m ∷ rest) →
        ((s : ℕ) → s < length setup.ports → count_in s (life_of (switches s)) (received old.state.vr.log ++ more) ≤ max ((switches s).buffer.cleared + window) (count_in s (life_of (switches s)) (received start.log))) →
        PrepareRoom work.state members switches (rest ++ map (sent_by controller_message (actor.Controller p)) work.letters)
    turn_keeps c members switches m rest old work more none me size counts posts d room logged = record {
      counted = still_counted old.state.vr work.state.vr posts.acked posts.commit size d.primary.lead d.primary.agreed d.primary.me counts;
      placed = λ y among. elim (in_append y rest (map (sent_by controller_message (actor.Controller p)) work.letters) among) [
        | inl before ↦ room.placed y (inr before)
        | inr now ↦ even.placed y now
      ];
      near = λ a b less_a less_b other_a other_b.
          let same = even.even a b less_a less_b other_a other_b in
          near_append a b rest (map (sent_by controller_message (actor.Controller p)) work.letters) (room.near a b less_a less_b other_a other_b).1 (even.near a b less_a less_b other_a other_b) (omega (arith, same));
      logged = λ s there. let most = logged s there in let is = ap (count_in s (life_of (switches s))) posts.events in omega (arith, most, is);
    }
      where
        even : broadcasts.AreEven quorum first p n (map (sent_by controller_message (actor.Controller p)) work.letters)
        even =
            subst (λ (ls : List (Letter ControllerSays)). broadcasts.AreEven quorum first p n (map (sent_by controller_message (actor.Controller p)) ls)) (sym (posts.joined ∙ ap (λ (l : List (Letter ControllerSays)). l ++ posts.letters) none))
            (subst (λ (k : ℕ). broadcasts.AreEven quorum first k n (map (sent_by controller_message (actor.Controller k)) posts.letters)) me
            (subst (λ (k : ℕ). broadcasts.AreEven quorum first old.state.vr.me k (map (sent_by controller_message (actor.Controller old.state.vr.me)) posts.letters)) size posts.even))

    module _ (c : ControllerState) (members : ℕ → VrState) (switches : ℕ → SwitchState) (m : Sent) (rest : List Sent) (d : Drains c members switches (m ∷ rest)) (to : m.to ≡ actor.Controller p)
        (truths : rooms.AreTrue kinds setup c switches) (room : PrepareRoom c members switches (m ∷ rest)) where
      abbrev work : Work
      work = controller_work kinds setup c (heard_of m)

      abbrev c1 : ControllerState
      c1 = with_no_met_limit c

      -- with these events logged too, few of each switch are
      abbrev AreFewLogged : List Event → Type 0
      AreFewLogged more = (s : ℕ) → s < length setup.ports →
          count_in s (life_of (switches s)) (received c.vr.log ++ more) ≤ max ((switches s).buffer.cleared + window) (count_in s (life_of (switches s)) (received start.log))

      none_logged : AreFewLogged []
      none_logged s there = let most = room.logged s there in let same = ap (count_in s (life_of (switches s))) (append-nil (received c.vr.log)) in omega (arith, most, same)

      -- a work by which few are
      record HasPosted (x : Work) : Type 0 where
        pub old : ControllerState
        pub same : old.vr ≡ c.vr
        pub more : List Event
        pub few_logged : AreFewLogged more
        pub posts : Posts quorum first (resting old) x more

      abbrev Kept : Work → Type 0
      Kept x = Drains x.state members switches (rest ++ map (sent_by controller_message (actor.Controller p)) x.letters) →
          PrepareRoom x.state members switches (rest ++ map (sent_by controller_message (actor.Controller p)) x.letters)

      posted_keeps : (x : Work) → HasPosted x → Kept x
      posted_keeps x h after =
          turn_keeps c members switches m rest (resting h.old) x h.more refl (ap (λ (v : VrState). v.me) h.same ∙ d.primary.me) (ap (λ (v : VrState). v.controllers) h.same ∙ d.primary.size)
          (subst (λ (v : VrState). IsCounted v) (sym h.same) room.counted) h.posts after room
          (λ s there. let most = h.few_logged s there in let same = ap (λ (v : VrState). count_in s (life_of (switches s)) (received v.log ++ h.more)) h.same in omega (arith, most, same))

      -- from a switch
      module _ (k : ℕ) (from : m.from ≡ actor.Switch k) (there : k < length setup.ports) where
        module _ (xid number : ℕ) (what : Happening) (says : m.said ≡ heard_by.tells_event xid (life_of (switches k)) number what) where
          abbrev e : Event
          e = heard_by.event_of k (life_of (switches k)) number what

          abbrev out : List Message
          out = between (actor.Controller p) (actor.Switch k) rest

          abbrev in_ : List Message
          in_ = between (actor.Switch k) (actor.Controller p) rest

          was : IsAttended kinds setup c k (switches k) out (heard_by.tells_event xid (life_of (switches k)) number what ∷ in_)
          was =
              subst (λ (l : List Message). IsAttended kinds setup c k (switches k) out l)
              (primary_turns.own_is kinds setup few w p quorum start picked inside leader small c members switches m rest d to truths.each k from there (heard_by.tells_event xid (life_of (switches k)) number what) says)
              (primary_turns.served kinds setup few w p quorum start picked inside leader small c members switches m rest d to truths.each k there)

          -- one that is not logged was sent, and few are
          one_logged : logged_of c k (switches k) ≤ number → AreFewLogged (e ∷ [])
          one_logged late s below = elim (cases_eq s k) [
            | inl same ↦
                subst (λ (i : ℕ). count_in i (life_of (switches i)) (received c.vr.log ++ e ∷ []) ≤ max ((switches i).buffer.cleared + window) (count_in i (life_of (switches i)) (received start.log))) (sym same)
                (let sent = (coming_by.parts kinds setup c k (switches k) (truths.each k there) e (events_said k in_) (heard_by.asked kinds setup c k (switches k) xid number what out in_ was).1.coming late).1 in
                let one = count_here (received c.vr.log) e in
                omega (arith, sent, one))
            | inr other ↦
                let most = room.logged s below in
                let same = count_there s (life_of (switches s)) (received c.vr.log) e (λ x. other (sym x)) in
                omega (arith, most, same)
          ]

          its_life : number < logged_of c k (switches k) → life_in k (received c.vr.log) ≡ life_of (switches k)
          its_life before = elim (cases_order (life_in k (received c.vr.log)) (life_of (switches k))) [
            | inl same ↦ same
            | inr (inl older) ↦ absurd (let none = (truths.each k there).unlogged older in omega (arith, none, before))
            | inr (inr younger) ↦ absurd (let most = (truths.each k there).life in omega (arith, most, younger))
          ]

          rests : (w : EventAction) → (w ≡ Propose → AreFewLogged (e ∷ [])) → HasPosted (on_wish kinds setup c1 e w)
          rests Propose logs =
              let r = broadcasts.proposing_posts quorum first kinds setup c1 e in
              record { old = c1; same = refl; more = r.0; few_logged = elim r.1 [ inl none ↦ subst AreFewLogged (sym none) none_logged | inr one ↦ subst AreFewLogged (sym one) (logs refl) ]; posts = r.2 }
          rests (Acknowledge through) logs =
              let ls = ack_letter (record { switch = e.switch; life = e.life; through = through }) ∷ [] in
              record {
                old = c1;
                same = refl;
                more = [];
                few_logged = none_logged;
                posts = broadcasts.posts_silent quorum first (resting c1) (posting_work (resting c1) ls) ls refl refl
                    (λ l among. elim among [ inl is ↦ ap (λ (x : Letter ControllerSays). is_prepare (controller_message x.body)) is | inr none ↦ absurd none ]);
              }
          rests Nothing logs = record { old = c1; same = refl; more = []; few_logged = none_logged; posts = broadcasts.posts_none quorum first (resting c1) }

          event_posted : HasPosted (on_wish kinds setup c1 e (wish c.vr.log (committed c) e))
          event_posted = rests (wish c.vr.log (committed c) e) (λ proposes. elim (cases_lt number (logged_of c k (switches k))) [
            | inl before ↦ absurd (not_proposed (may_be_received e (received c.vr.log)) (may_not k (life_of (switches k)) e (received c.vr.log) refl refl (its_life before) before) (is_done c.vr.log (committed c) e) proposes)
            | inr late ↦ one_logged late
          ])
            where
              not_proposed : (a : Bool) → a ≡ false → (b : Bool) → (if a then Propose else if b then Acknowledge (processed_of (committed c) e.switch e.life) else Nothing) ≡ Propose → ⊥
              not_proposed true is b same = true≢false is
              not_proposed false is true same = absurd cc
              not_proposed false is false same = absurd cc

      -- from a member of the quorum
      module _ (b op : ℕ) (chosen : has quorum b ≡ true) (apart : b ≡ p → ⊥) (says : m.said ≡ message.Vr (vr.PrepareOk c.vr.view op)) where
        late : length start.log ≤ op
        late = by_place (room.placed m (inl refl))
          where
            by_place : HasPlace p n quorum first m → length start.log ≤ op
            by_place (Tells_entry j view o commit entry _ _ _ _ is) = absurd (let e : message.Vr (vr.PrepareOk c.vr.view op) ≡ message.Vr (vr.Prepare view o commit entry) = sym says ∙ is in cc)
            by_place (Acknowledges_entry j view o _ _ _ _ low is) =
                let e : message.Vr (vr.PrepareOk c.vr.view op) ≡ message.Vr (vr.PrepareOk view o) = sym says ∙ is in
                let same : op ≡ o = cc in
                omega (arith, low, same)
            by_place (Is_other off) = absurd (true≢false (ap is_prepare (sym says) ∙ off))

        abbrev mid : Work
        mid = stepped c1 (quiet (marked c.vr b op))

        answer_keeps : (x : Work) → Posts quorum first mid x [] → Kept x
        answer_keeps x posts after =
            turn_keeps c members switches m rest mid x [] refl d.primary.me d.primary.size (acked_counted c.vr b op chosen apart late d.primary.me d.primary.size d.primary.lead room.counted) posts after room none_logged

      of_turns : OfTurns kinds setup few w p quorum start picked inside leader small c members switches m rest d to truths.each truths.primary Kept
      of_turns = record {
        reply = λ k xid there from is none. let r = broadcasts.master_posts quorum first kinds setup c1 k in
            posted_keeps _ (record { old = r.0; same = r.1; more = []; few_logged = none_logged; posts = r.2 });
        event = λ k xid number what there from is. posted_keeps _ (event_posted k from there xid number what is);
        result = λ k xid number result there from is. let r = broadcasts.result_posts quorum first kinds setup c1 k (life_of (switches k)) number in
            posted_keeps _ (record { old = r.0; same = r.1; more = []; few_logged = none_logged; posts = r.2 });
        agreed = λ b op from chosen apart is several more. answer_keeps b op chosen apart is _ (broadcasts.settling_posts quorum first kinds setup c.vr.commit (mid b op chosen apart is));
        counted = λ b op from chosen apart is same. answer_keeps b op chosen apart is _ (broadcasts.posts_none quorum first (mid b op chosen apart is));
      }

      turn_kept : rooms.IsHeard setup p quorum m → Kept work
      turn_kept = turn_cases.each_turn kinds setup few w p quorum start picked inside leader small c members switches m rest d to truths.each truths.primary Kept of_turns

    -- a switch says nothing of the log
    switch_silent : (says : SwitchSays) → is_prepare (switch_message says) ≡ false
    switch_silent (switch_says.Of xid said) = refl
    switch_silent (switch_says.Frame port bytes) = refl

    pub room_kept : rooms.Keeps kinds setup w p quorum start rooms.NothingBeside PrepareRoom
    room_kept = record {
      lost = λ c members switches m rest d gone _ _ room. record {
        counted = room.counted;
        placed = λ y among. room.placed y (inr among);
        near = λ a b less_a less_b other_a other_b. (room.near a b less_a less_b other_a other_b).1;
        logged = room.logged;
      };
      member = λ c members switches m rest b x d from to chosen other says after _ _ room.
          let answers = member_answers kinds setup few w p quorum start picked inside leader small c members switches m rest d b x from to chosen other says in
          let ls = (vr_step (members b) (vr_input.From p x)).letters in
          record {
            counted = room.counted;
            placed = λ y among. elim (in_append y rest (map (sent_by controller_message (actor.Controller b)) (to_members ls)) among) [
              | inl before ↦ room.placed y (inr before)
              | inr now ↦ answers_placed b chosen other c.vr.view ls answers y now
            ];
            near = λ i j less_i less_j other_i other_j.
                let none = answers_untold b chosen other c.vr.view ls answers i in
                near_append i j rest (map (sent_by controller_message (actor.Controller b)) (to_members ls)) (room.near i j less_i less_j other_i other_j).1
                (near_few i j (map (sent_by controller_message (actor.Controller b)) (to_members ls)) (omega (arith, none))) (omega (arith, none));
            logged = room.logged;
          };
      primary = λ c members switches m rest d to heard truths truths_after full after _ _ room. turn_kept c members switches m rest d to truths room heard after;
      switch = λ c members switches m rest s there d from to truths truths_after after _ _ room.
          switch_turns c members switches m rest s there d from to truths truths_after room;
    }
      where
        switch_turns : (c : ControllerState) (members : ℕ → VrState) (switches : ℕ → SwitchState) (m : Sent) (rest : List Sent) (s : ℕ) → s < length setup.ports → Drains c members switches (m ∷ rest) →
            m.from ≡ actor.Controller p → m.to ≡ actor.Switch s → rooms.AreTrue kinds setup c switches → rooms.AreTrue kinds setup c (put switches s (turn_on (switches s) m).state) →
            PrepareRoom c members switches (m ∷ rest) →
            PrepareRoom c members (put switches s (turn_on (switches s) m).state) (rest ++ map (sent_by switch_message (actor.Switch s)) (turn_on (switches s) m).letters)
        switch_turns c members switches m rest s there d from to truths truths_after room = record {
          counted = room.counted;
          placed = λ y among. elim (in_append y rest (map (sent_by switch_message (actor.Switch s)) turn.letters) among) [
            | inl before ↦ room.placed y (inr before)
            | inr now ↦ Is_other (silent y now)
          ];
          near = λ a b less_a less_b other_a other_b.
              let none = prepares_none a (map (sent_by switch_message (actor.Switch s)) turn.letters) silent in
              near_append a b rest (map (sent_by switch_message (actor.Switch s)) turn.letters) (room.near a b less_a less_b other_a other_b).1
              (near_few a b (map (sent_by switch_message (actor.Switch s)) turn.letters) (omega (arith, none))) (omega (arith, none));
          logged = λ t below. elim (cases_eq t s) [
            | inl same ↦ subst (λ (i : ℕ). FewOf i (put switches s turn.state i)) (sym same) (subst (λ (x : SwitchState). FewOf s x) (sym (put_own switches s turn.state)) own)
            | inr other ↦ subst (λ (x : SwitchState). FewOf t x) (sym (put_other switches s turn.state t other)) (room.logged t below)
          ];
        }
          where
            turn : SwitchTurn
            turn = turn_on (switches s) m

            FewOf : ℕ → SwitchState → Type 0
            FewOf i x = logged_of c i x ≤ max (x.buffer.cleared + window) (count_in i (life_of x) (received start.log))

            silent : (y : Sent) → IsIn y (map (sent_by switch_message (actor.Switch s)) turn.letters) → is_prepare y.said ≡ false
            silent y among = let r = in_map (sent_by switch_message (actor.Switch s)) turn.letters y among in ap (λ (z : Sent). is_prepare z.said) r.2 ∙ switch_silent r.0.body

            own_waits : between (actor.Controller p) (actor.Switch s) (m ∷ rest) ≡ m.said ∷ between (actor.Controller p) (actor.Switch s) rest
            own_waits = between_own (actor.Controller p) (actor.Switch s) m rest from to

            served : IsAttended kinds setup c s (switches s) (m.said ∷ between (actor.Controller p) (actor.Switch s) rest) (between (actor.Switch s) (actor.Controller p) (m ∷ rest))
            served = subst (λ (l : List Message). IsAttended kinds setup c s (switches s) l (between (actor.Switch s) (actor.Controller p) (m ∷ rest))) own_waits (d.served s there)

            turn_is : turn ≡ switch_turn (switches s) (switch_hears (actor.Controller c.vr.me) (unsealed.Message m.said))
            turn_is = ap (λ (a : Actor). switch_turn (switches s) (switch_hears a (unsealed.Message m.said))) (from ∙ ap (λ (i : ℕ). actor.Controller i) (sym d.primary.me))

            true_now : IsTrueOf kinds setup c s turn.state
            true_now = subst (λ (x : SwitchState). IsTrueOf kinds setup c s x) (put_own switches s turn.state) (truths_after.each s there)

            left : switch_by.Leaves kinds setup c s (switches s) (between (actor.Controller p) (actor.Switch s) rest) (between (actor.Switch s) (actor.Controller p) (m ∷ rest)) turn
            left =
                subst (λ (t : SwitchTurn). switch_by.Leaves kinds setup c s (switches s) (between (actor.Controller p) (actor.Switch s) rest) (between (actor.Switch s) (actor.Controller p) (m ∷ rest)) t) (sym turn_is)
                (switch_by.leaves kinds setup c s (switches s) truths.primary.view (truths.each s there) (between (actor.Controller p) (actor.Switch s) rest) (between (actor.Switch s) (actor.Controller p) (m ∷ rest))
                m.said served.said.0 served (subst (λ (t : SwitchTurn). IsTrueOf kinds setup c s t.state) turn_is true_now))

            own : FewOf s turn.state
            own =
                let more = left.cleared in
                let most = room.logged s there in
                let same = ap (λ (l : ℕ). count_in s l (received c.vr.log)) left.life in
                let first_same = ap (λ (l : ℕ). count_in s l (received start.log)) left.life in
                omega (arith, more, most, same, first_same)
