-- How many of the words that results may go are on their way while a closing is drained: one for each switch at most.
use Rattle.std.proofs.Common.{◌≡◌, ◌≤◌, ◌<◌, ◌⊎◌, inl, inr, ℕ, zero, suc, ◌+◌, ◌/◌, ◌%◌, Bool, true, false, List, [], ◌∷◌, ◌++◌, length, map, drop, filter, refl, sym, ◌∙◌, ap, subst, arith, append-nil}
use Rattle.std.specs.Prelude.{nat_eq, nat_lt, nat_le, if◌then◌else◌}
use Rattle.std.specs.List.{range_with_len}
use Rattle.std.proofs.Math.Seq.{drop-append_seam}
use Rattle.std.proofs.lemmas.Bool.{and_parts, cases_lt, cond_both, eqb-true, leb-true, ltb-true}
use Rattle.std.proofs.lemmas.List.{length-take-le}
use Rattle.list_facts.specs.Lists.{IsIn, IsPrefix}
use Rattle.list_facts.proofs.Prefixes.{front_prefix, prefix_refl, take_prefix, takes_prefix}
use Rattle.of_types.specs.declared.message.Event.{Event}
use Rattle.of_types.specs.declared.message.Extension.TheVariants as extension
use Rattle.of_types.specs.declared.message.Outcome.{Outcome}
use Rattle.of_types.specs.declared.message.Spoken.TheVariants as spoken
use Rattle.of_types.specs.declared.setup.Setup.{Setup}
use Rattle.journal.specs.declared.journal.Actor.TheVariants as actor
use Rattle.vr_log.specs.declared.entry.Entry.{Entry}
use Rattle.vr_log.specs.declared.state.VrState.{VrState}
use Rattle.vr_log.specs.Log.{is_log, may_be_received, processed, received}
use Rattle.vr_log.specs.Members.{most_failures}
use Rattle.vr_log.specs.Steps.{quiet}
use Rattle.vr_core.specs.declared.input.VrInput.TheVariants as vr_input
use Rattle.vr_core.specs.Step.{vr_step}
use Rattle.two_stage_log.specs.Counts.{processed_of}
use Rattle.app_core.specs.Chain.{concat}
use Rattle.app_core.specs.Issued.{count_issued, issues}
use Rattle.controller_moves.proofs.ControllerLaws.Logs.{processed-append, processed_prefix}
use Rattle.dispatcher.specs.declared.answers.AckThrough.{AckThrough}
use Rattle.dispatcher.specs.declared.answers.EventAction.TheVariants.{Propose, Acknowledge, Nothing}
use Rattle.dispatcher.specs.Folding.{is_done, places_processed}
use Rattle.dispatcher.specs.Marks.{Marks, confirmed_by, has_result, is_pending, outstanding, settled_commands, wanted, with_mark, with_marked_result}
use Rattle.of_switch.specs.State.{SwitchState, SwitchTurn, life_of}
use Rattle.group_controller.specs.State.{ControllerState, Work, committed, resting, stepped, to_members, with_no_met_limit}
use Rattle.group_controller.specs.Rules.{controller_work, on_master, on_wish, switches, on_result}
use Rattle.group_controller.specs.Settling.{ack_letter, after_finishing, command_letters, is_alone, settling, with_answers, with_commands}
use Rattle.run_spec.specs.declared.messages.Message.{Message}
use Rattle.run_spec.specs.declared.messages.Message.TheVariants as message
use Rattle.run_spec.specs.States.{controller_message, switch_message}
use Rattle.closing_laws.specs.Quorum.{has}
use Rattle.closing_laws.specs.Following.{Start}
use Rattle.closing_laws.specs.Serving.{AreFew, events_told, results_said, letters_told_by}
use Rattle.closing_laws.specs.Ways.{Sent, between, sent_by}
use Rattle.closing_laws.proofs.Draining.Drained as drained_by
use Rattle.closing_laws.proofs.Draining.Drained.{heard_of, put}
use Rattle.closing_laws.proofs.Draining.Followers.{started_within}
use Rattle.closing_laws.proofs.Draining.PrimaryTurns as primary_turns
use Rattle.closing_laws.proofs.Draining.TurnCases as turn_cases
use Rattle.closing_laws.proofs.Draining.TurnCases.{OfTurns}
use Rattle.closing_laws.proofs.Journal.Between.{between_own}
use Rattle.closing_laws.proofs.Lists.Picked.{IsPicked}
use Rattle.closing_laws.proofs.Pool.Clearing as clearing
use Rattle.closing_laws.proofs.Pool.ClearingWorks as works
use Rattle.closing_laws.proofs.Pool.ClearingWorks.{None_processed, One_processed}
use Rattle.closing_laws.proofs.Pool.Rooms as rooms
use Rattle.closing_laws.proofs.Pool.Rooms.{AreTrue, IsHeard, Keeps, Standing, is_clear, turn_on, waits}
use Rattle.closing_laws.proofs.Pool.SwitchPosts.{IsTurn, clear_posts, turn_lives}
use Rattle.closing_laws.proofs.Pool.TurnPosts.{primary_posts, switch_turns}
use Rattle.closing_laws.proofs.Pool.Waiting.{members_none, posts_cons, waits_cons}
use Rattle.closing_laws.proofs.Primary.Agreed.{agreed_no_less, agreed_within, marked}
use Rattle.closing_laws.proofs.Primary.Committing.{told_is}
use Rattle.closing_laws.proofs.Primary.Finishing.{Grows, finishing_grows, grows_committed}
use Rattle.closing_laws.proofs.Primary.Growth.{counted_grows, life_grows, log_prefix, places_are}
use Rattle.closing_laws.proofs.Primary.Proposing.{commands_vr}
use Rattle.closing_laws.proofs.Primary.Resulted.{mark_new, with_marks}

-- the words wait in front of what is pending, and none where not all of the first log is committed
abbrev pub ClearRoom : List ℕ → Setup → ℕ → Start → Standing
ClearRoom kinds setup p start c members switches waiting =
    clearing.Holds kinds setup p (λ s. life_of (switches s)) (c.vr.commit < length start.log) (committed c) c.marks waiting

-- so they are no more than switches
pub clears_bounded : (kinds : List ℕ) (setup : Setup) (p : ℕ) (start : Start) (c : ControllerState) (members : ℕ → VrState) (switches : ℕ → SwitchState) (waiting : List Sent) →
    ClearRoom kinds setup p start c members switches waiting → waits is_clear waiting ≤ length setup.ports
clears_bounded kinds setup p start c members switches waiting room =
    clearing.held_few kinds setup p (λ s. life_of (switches s)) (c.vr.commit < length start.log) (committed c) c.marks waiting room

-- Settle commits no less than it begins with
settling_commit : (kinds : List ℕ) (setup : Setup) (before : ℕ) (work : Work) → work.state.vr.commit ≤ length work.state.vr.log → work.state.vr.commit ≤ (settling kinds setup before work).state.vr.commit
unfolding settling
settling_commit kinds setup before work within =
    let told = with_commands kinds setup (with_answers kinds setup before work) in
    let same : told.state.vr ≡ work.state.vr = commands_vr kinds setup (with_answers kinds setup before work) in
    let grown = finishing_grows kinds setup (length (received told.state.vr.log)) told (subst (λ (v : VrState). v.commit ≤ length v.log) (sym same) within) in
    let more = grown.commit in
    let start_is = ap (λ (v : VrState). v.commit) same in
    omega (arith, more, start_is)

module _ (kinds : List ℕ) (setup : Setup) (few : AreFew kinds setup) (w p : ℕ) (quorum : List ℕ) (start : Start) (picked : IsPicked setup.controllers w quorum) (inside : has quorum p ≡ true)
    (leader : p ≡ w % setup.controllers) (small : (b : ℕ) → has quorum b ≡ true → b < setup.controllers) where
  abbrev Room : Standing
  Room = ClearRoom kinds setup p start

  abbrev Begun : Standing
  Begun = rooms.HasBegun kinds setup w p quorum start

  -- a turn of the primary
  module _ (c : ControllerState) (members : ℕ → VrState) (switches : ℕ → SwitchState) (m : Sent) (rest : List Sent) (d : drained_by.Drains kinds setup w p quorum start c members switches (m ∷ rest))
      (to : m.to ≡ actor.Controller p) (t : AreTrue kinds setup c switches) (heard : IsHeard setup p quorum m) where
    abbrev end : Work
    end = controller_work kinds setup c (heard_of m)

    abbrev life : ℕ → ℕ
    life s = life_of (switches s)

    abbrev early : Type 0
    early = end.state.vr.commit < length start.log

    abbrev IsClearing : Work → Type 0
    IsClearing work = works.IsClearing kinds setup p life early rest work

    abbrev Holds : Marks → List Sent → Type 0
    Holds marks waiting = clearing.Holds kinds setup p life early (committed c) marks waiting

    abbrev AreReached : Marks → Type 0
    AreReached marks = clearing.AreReached kinds setup p life (committed c) marks rest

    grown : Grows c.vr end.state.vr
    grown = (primary_posts kinds setup few w p quorum start picked inside leader small c members switches m rest d to t heard).grows

    started : length start.log ≤ length c.vr.log
    started = started_within start c.vr d.primary.lead

    whole : most_failures c.vr ≡ 0 → c.vr.commit ≡ length c.vr.log
    whole = primary_turns.whole_p kinds setup few w p quorum start picked inside leader small c members switches m rest d to t.each

    late_alone : most_failures c.vr ≡ 0 → early → ⊥
    late_alone alone e = let all = whole alone in let long = started in let more = grown.commit in absurd (omega (arith, all, long, more, e))

    module _ (room : Room c members switches (m ∷ rest)) (before : Begun c members switches (m ∷ rest)) (after : rooms.HasCommitted kinds setup w p quorum start end.state) where
      held_before : Holds c.marks (m ∷ rest)
      held_before =
          clearing.held_early kinds setup p life (c.vr.commit < length start.log) (committed c) c.marks early (λ e. let more = grown.commit in omega (arith, more, e)) (m ∷ rest) room

      held : Holds c.marks rest
      held = clearing.held_rest kinds setup p life early (committed c) c.marks m rest held_before

      told_within : (s : ℕ) → letters_told_by kinds setup c s (switches s) ≤ clearing.reached kinds setup p life (committed c) s
      told_within s =
          let told = ap {B = ℕ} (λ (b : Bool). if b then 0 else 1) d.primary.settled.told in
          let is = told_is kinds setup c s (switches s) in
          let up = counted_grows kinds setup s (life s)
          (take_prefix (events_told c) (processed (committed c) + 1) (omega (arith, told)) (prefix_refl (received (committed c)))) in
          omega (arith, is, up)

      reached : AreReached c.marks
      reached = record {
        results = λ s i there among.
            let low = (d.served s there).results i (clearing.results_later kinds setup p s i m rest among) in
            let up = told_within s in
            omega (arith, low, up);
        marked = λ s i there is. let low = (d.served s there).marks i is in let up = told_within s in omega (arith, low, up);
      }

      begins : (marks : Marks) → Holds marks rest → AreReached marks → IsClearing (resting (with_marks c marks))
      begins marks h n = record {
        front = subst (λ (l : List Sent). works.AreInFront kinds setup p life early rest (committed c) marks l) (sym (append-nil rest)) (record { holds = h; reached = n });
        within = t.primary.commit;
        whole = λ is. whole (eqb-true (most_failures c.vr) 0 is);
        late = λ is. late_alone (eqb-true (most_failures c.vr) 0 is);
      }

      rests : IsClearing (resting (with_no_met_limit c))
      rests = begins c.marks held reached

      -- a switch replies
      master_clear : (s : ℕ) → IsClearing (on_master kinds setup (with_no_met_limit c) s)
      master_clear s =
          let marks = confirmed_by c.marks s in
          let now : ControllerState = with_marks c marks in
          let its = filter (λ x. nat_eq x.switch s) (outstanding kinds setup (committed c) marks) in
          let begun = begins marks (clearing.held_marks kinds setup p life early (committed c) c.marks marks (λ u l i is. is) rest held)
          (clearing.reached_marks kinds setup p life early (committed c) c.marks marks (λ u l i is. is) rest reached) in
          record {
            front = works.front_posted kinds setup p life early rest (committed c) marks (resting now) (command_letters kinds setup now its)
                (works.commands_silent kinds setup p life early rest now its) begun.front;
            within = begun.within;
            whole = begun.whole;
            late = begun.late;
          }

      -- a result comes
      result_clear : (s xid number : ℕ) (result : Outcome) → s < length setup.ports → m.from ≡ actor.Switch s → m.said ≡ message.Of xid (spoken.Ravana (extension.CmdAck (life s) number result)) →
          IsClearing (on_result kinds setup (with_no_met_limit c) s (life s) number)
      result_clear s xid number result there from says =
          cond_both (is_pending kinds setup (committed c) s (life s) number) (after_finishing kinds setup (resting (with_marks c now))) (resting (with_no_met_limit c)) (λ (y : Work). IsClearing y)
          (λ pending. works.finished_clear kinds setup p life early rest (resting (with_marks c now)) (begins now (now_held pending) (now_reached pending)))
          (λ _. rests)
        where
          now : Marks
          now = with_marked_result kinds setup (committed c) c.marks s (life s) number

          -- the mark is new, or was there
          only : (u l i : ℕ) → has_result now u l i ≡ true → (has_result c.marks u l i ≡ true) ⊎ ((s ≡ u) × (number ≡ i) × (life s ≡ l))
          only u l i = cond_both (is_pending kinds setup (committed c) s (life s) number) (with_mark c.marks s (life s) number) c.marks
              (λ (ms : Marks). has_result ms u l i ≡ true → (has_result c.marks u l i ≡ true) ⊎ ((s ≡ u) × (number ≡ i) × (life s ≡ l)))
              (λ _ is. elim (mark_new c.marks s (life s) number u l i is) [ inl old ↦ inl old | inr new ↦ inr (new.0, new.2, new.1) ]) (λ _ is. inl is)

          below : number < clearing.reached kinds setup p life (committed c) s
          below =
              let among : IsIn number (clearing.results_from kinds setup p s (m ∷ rest)) =
              subst (λ (l : List Message). IsIn number (results_said l)) (sym (between_own (actor.Switch s) (actor.Controller p) m rest from to))
              (subst (λ (y : Message). IsIn number (results_said (y ∷ between (actor.Switch s) (actor.Controller p) rest))) (sym says) (inl refl)) in
              let low = (d.served s there).results number among in
              let up = told_within s in
              omega (arith, low, up)

          now_held : is_pending kinds setup (committed c) s (life s) number ≡ true → Holds now rest
          now_held pending =
              let parts = and_parts (nat_le (settled_commands kinds setup (committed c) s (life s)) number)
              (nat_lt number (count_issued s (life s) (concat (issues kinds setup (received (committed c)))))) pending in
              clearing.held_none kinds setup p life early (committed c) now rest
              (clearing.held_pending kinds setup p life early (committed c) c.marks m rest s xid number result there from to says
              (leb-true (settled_commands kinds setup (committed c) s (life s)) number parts.0) held_before)
              (λ u l i is. elim (only u l i is) [
                | inl old ↦ held_before.lives u l i old
                | inr (own, same, its) ↦ (subst (λ (k : ℕ). k < length setup.ports) own there, sym its ∙ ap life own)
              ])

          now_reached : is_pending kinds setup (committed c) s (life s) number ≡ true → AreReached now
          now_reached pending = record {
            results = reached.results;
            marked = λ u i there' is. elim (only u (life u) i is) [
              | inl old ↦ reached.marked u i there' old
              | inr (own, same, its) ↦ subst (λ (k : ℕ). i < clearing.reached kinds setup p life (committed c) k) own (let low = below in omega (arith, low, same))
            ];
          }

      -- an event comes
      wish_clear : (e : Event) (a b : Bool) → IsClearing (on_wish kinds setup (with_no_met_limit c) e (if a then Propose else if b then Acknowledge (processed_of (committed c) e.switch e.life) else Nothing))
      wish_clear e true b = works.proposing_clear kinds setup p life early rest (with_no_met_limit c) e rests
      wish_clear e false true =
          let through : AckThrough = record { switch = e.switch; life = e.life; through = processed_of (committed c) e.switch e.life } in
          record {
            front = works.front_posted kinds setup p life early rest (committed c) c.marks (resting (with_no_met_limit c)) (ack_letter through ∷ [])
                (posts_cons is_clear controller_message (actor.Controller p) (ack_letter through) []) rests.front;
            within = rests.within;
            whole = rests.whole;
            late = rests.late;
          }
      wish_clear e false false = rests

      -- a member acknowledges
      module _ (v : VrState) (log : v.log ≡ c.vr.log) (more : Grows c.vr v) (size : v.controllers ≡ c.vr.controllers) where
        abbrev mid : Work
        mid = stepped (with_no_met_limit c) (quiet v)

        longer : IsPrefix (committed c) (committed mid.state)
        longer = grows_committed c mid.state more

        mid_alone : is_alone mid.state ≡ true → most_failures c.vr ≡ 0
        mid_alone alone = ap (λ (k : ℕ). k / 2) (sym size) ∙ eqb-true (v.controllers / 2) 0 alone

        mid_whole : is_alone mid.state ≡ true → v.commit ≡ length v.log
        mid_whole alone = let all = whole (mid_alone alone) in let up = more.commit in let top = more.within in let same = ap (λ (l : List Entry). length l) log in omega (arith, all, up, top, same)

        settled_clear : c.vr.commit < v.commit → (settling kinds setup c.vr.commit mid).state.vr.commit ≡ end.state.vr.commit → IsClearing (settling kinds setup c.vr.commit mid)
        settled_clear up same_end = works.settling_clear kinds setup p life early rest c.vr.commit mid (record {
          front = works.answers_clear kinds setup p life early rest (committed c) c.marks mid c.vr.commit longer
              (subst (λ (new : List Entry). works.Commits kinds setup p life early rest (committed c) c.marks mid new) (sym behind) (by_count (processed longer.rest) refl))
              (subst (λ (l : List Sent). works.AreInFront kinds setup p life early rest (committed c) c.marks l) (sym (append-nil rest)) (record { holds = held; reached = reached }));
          within = more.within;
          whole = mid_whole;
          late = λ alone. late_alone (mid_alone alone);
        })
          where
            behind : drop c.vr.commit (committed mid.state) ≡ longer.rest
            behind =
                ap (λ (k : ℕ). drop k (committed mid.state)) (sym (length-take-le c.vr.commit c.vr.log t.primary.commit)) ∙ ap (drop (length (committed c))) longer.joined
                ∙ drop-append_seam (committed c) longer.rest

            one : is_log (committed mid.state) ≡ true
            one = log_prefix (front_prefix v.commit v.log) (ap is_log log ∙ t.primary.one)

            places : places_processed longer.rest ≡ range_with_len (processed (committed c)) (processed longer.rest)
            places = places_are (committed c) longer.rest (sym (ap is_log longer.joined) ∙ one)

            count : processed (committed mid.state) ≡ processed (committed c) + processed longer.rest
            count = ap processed longer.joined ∙ processed-append (committed c) longer.rest

            top : processed (committed mid.state) ≤ processed c.vr.log
            top = let low = processed_prefix (front_prefix v.commit v.log) in let same = ap processed log in omega (arith, low, same)

            -- all of the first log is committed then
            late : early → ⊥
            late e = elim after [
              | inl known ↦
                  let low = d.primary.lead.known in
                  let grows = settling_commit kinds setup c.vr.commit mid more.within in
                  absurd (omega (arith, known, low, same_end, grows, up))
              | inr all ↦ absurd (omega (arith, all, e))
            ]

            finished : processed (committed c) < processed c.vr.log → 0 < waits is_clear (rest ++ []) → wanted kinds setup (committed c) c.marks ≡ []
            finished ahead some = elim (before.1.finished ahead) [
              | inl low ↦
                  let known = processed_prefix (takes_prefix (length start.log) c.vr.commit c.vr.log all) in
                  let same = ap processed d.primary.lead.begins in
                  absurd (omega (arith, low, known, same))
              | inr none ↦ none
            ]
              where
                all : length start.log ≤ c.vr.commit
                all = elim (cases_lt c.vr.commit (length start.log)) [
                  | inl less ↦
                      let none = room.too_early less in
                      let front = clearing.in_front kinds setup p life (c.vr.commit < length start.log) (committed c) c.marks (m ∷ rest) room in
                      let parts = waits_cons is_clear m rest in
                      let same = ap (waits is_clear) (append-nil rest) in
                      absurd (omega (arith, none, front, parts, same, some))
                  | inr more ↦ more
                ]

            by_count : (n : ℕ) → processed longer.rest ≡ n → works.Commits kinds setup p life early rest (committed c) c.marks mid longer.rest
            by_count zero e = None_processed (places ∙ ap (range_with_len (processed (committed c))) e)
            by_count (suc zero) e =
                let n = count in
                let below = top in
                let ahead : processed (committed c) < processed c.vr.log = omega (arith, n, below, e) in
                One_processed (places ∙ ap (range_with_len (processed (committed c))) e) (omega (arith, n, e)) late
                (ltb-true (processed (committed c)) (length (received (committed c))) (t.primary.unfinished ahead))
                (λ s. life_grows s longer one) (finished ahead)
            by_count (suc (suc n)) e = let k = count in let below = top in let ahead = t.primary.ahead in absurd (omega (arith, k, below, ahead, e))

        still_clear : IsClearing mid
        still_clear = record {
          front = subst (λ (l : List Sent). works.AreInFront kinds setup p life early rest (committed mid.state) c.marks l) (sym (append-nil rest)) (record {
            holds = clearing.held_longer kinds setup p life early (committed c) c.marks (committed mid.state) longer rest held;
            reached = clearing.reached_longer kinds setup p life early (committed c) c.marks (committed mid.state) longer rest reached;
          });
          within = more.within;
          whole = mid_whole;
          late = λ alone. late_alone (mid_alone alone);
        }

      abbrev Clears : Work → Type 0
      Clears work = work.state.vr.commit ≡ end.state.vr.commit → IsClearing work

      acked : (b op : ℕ) → Grows c.vr (marked c.vr b op)
      acked b op = record { log = prefix_refl c.vr.log; commit = agreed_no_less c.vr b op; within = agreed_within c.vr b op t.primary.commit }

      of_turns : OfTurns kinds setup few w p quorum start picked inside leader small c members switches m rest d to t.each t.primary Clears
      of_turns = record {
        reply = λ k xid there from is none _. master_clear k;
        event = λ k xid number what there from is _.
            let e : Event = record { switch = k; life = life k; number = number; what = what } in
            wish_clear e (may_be_received e (received c.vr.log)) (is_done c.vr.log (committed c) e);
        result = λ k xid number result there from is _. result_clear k xid number result there from is;
        agreed = λ b op from chosen apart is several more same. settled_clear (marked c.vr b op) refl (acked b op) refl more same;
        counted = λ b op from chosen apart is still _. still_clear (marked c.vr b op) refl (acked b op) refl;
      }

      pub turn_clear : IsClearing end
      turn_clear = turn_cases.each_turn kinds setup few w p quorum start picked inside leader small c members switches m rest d to t.each t.primary Clears of_turns heard refl

  -- a turn of a switch
  switch_clear : (c : ControllerState) (members : ℕ → VrState) (switches : ℕ → SwitchState) (m : Sent) (rest : List Sent) (s : ℕ) (turn : SwitchTurn) → IsTurn c.vr.me c.vr.view (switches s) m.said turn →
      Room c members switches (m ∷ rest) → Room c members (put switches s turn.state) (rest ++ map (sent_by switch_message (actor.Switch s)) turn.letters)
  switch_clear c members switches m rest s turn is room =
      let early = c.vr.commit < length start.log in
      let same_life = turn_lives c.vr.me c.vr.view switches s m.said turn is in
      let more = map (sent_by switch_message (actor.Switch s)) turn.letters in
      clearing.held_lives kinds setup p (λ t. life_of (switches t)) (λ t. life_of (put switches s turn.state t)) same_life early (committed c) c.marks (rest ++ more)
      (clearing.held_more kinds setup p (λ t. life_of (switches t)) early (committed c) c.marks rest more (clear_posts c.vr.me c.vr.view (switches s) s m.said turn is)
      (clearing.held_rest kinds setup p (λ t. life_of (switches t)) early (committed c) c.marks m rest room))

  pub keeps_clears : Keeps kinds setup w p quorum start Begun Room
  keeps_clears = record {
    lost = λ c members switches m rest d lost beside beside' room.
        clearing.held_rest kinds setup p (λ s. life_of (switches s)) (c.vr.commit < length start.log) (committed c) c.marks m rest room;
    member = λ c members switches m rest b x d from to chosen other says d' beside beside' room.
        let letters = (vr_step (members b) (vr_input.From p x)).letters in
        clearing.held_more kinds setup p (λ s. life_of (switches s)) (c.vr.commit < length start.log) (committed c) c.marks rest (map (sent_by controller_message (actor.Controller b)) (to_members letters))
        (members_none is_clear (λ y. refl) (actor.Controller b) letters)
        (clearing.held_rest kinds setup p (λ s. life_of (switches s)) (c.vr.commit < length start.log) (committed c) c.marks m rest room);
    primary = λ c members switches m rest d to heard t t' full d' beside beside' room. (turn_clear c members switches m rest d to t heard room beside beside'.0).front.holds;
    switch = λ c members switches m rest s there d from to t t' d' beside beside' room.
        switch_clear c members switches m rest s (turn_on (switches s) m)
        (switch_turns kinds setup few w p quorum start picked inside leader small c members switches m rest d s there from to t) room;
  }
