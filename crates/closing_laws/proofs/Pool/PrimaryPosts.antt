-- What a primary posts while a closing is drained: acknowledgements of what is processed, words that results may go, commands, and
-- the entries that other members are told.
use Rattle.std.proofs.Common.{◌≡◌, ◌≤◌, inl, inr, ℕ, zero, suc, ◌+◌, Bool, true, false, List, [], ◌∷◌, ◌++◌, length, map, drop, filter, flat_map, refl, sym, ◌∙◌, ap, subst, arith, append-nil, append_assoc, length-append}
use Rattle.std.specs.Prelude.{nat_eq, not, slice_get, Option, Some, None, if◌then◌else◌}
use Rattle.std.proofs.Math.Seq.{drop-append_seam}
use Rattle.std.proofs.lemmas.Bool.{cond_both}
use Rattle.std.proofs.lemmas.List.{length-take-le}
use Rattle.std.proofs.lemmas.List.Sums.{sum_by-cons}
use Rattle.list_facts.specs.Lists.{IsIn, IsPrefix}
use Rattle.list_facts.proofs.Elements.{in_append, in_filter, in_flat_map, in_map}
use Rattle.list_facts.proofs.Prefixes.{prefix_push, prefix_refl}
use Rattle.of_types.specs.declared.message.Event.{Event}
use Rattle.of_types.specs.declared.setup.Setup.{Setup}
use Rattle.of_types.specs.Lives.{has_ended}
use Rattle.journal.specs.declared.journal.Actor.TheVariants as actor
use Rattle.journal.specs.declared.journal.Letter.{Letter}
use Rattle.vr_log.specs.declared.entry.Entry.{Entry}
use Rattle.vr_log.specs.declared.entry.Entry.TheVariants.{Received, Processed}
use Rattle.vr_log.specs.declared.message.VrMessage.TheVariants as vr
use Rattle.vr_log.specs.declared.state.VrState.{VrState}
use Rattle.vr_log.specs.Log.{is_past_limits, is_processed, may_be_received, processed, received}
use Rattle.vr_log.specs.Members.{others_below}
use Rattle.vr_log.specs.Steps.{letter, quiet, to_others}
use Rattle.two_stage_log.specs.Counts.{processed_of}
use Rattle.app_core.specs.declared.issued.Issued.{Issued}
use Rattle.app_core.specs.Issued.{commands_of}
use Rattle.app_core.specs.Orders.{HasFewOutputs}
use Rattle.controller_moves.proofs.ControllerLaws.Logs.{processed-append, processed_count, processed_prefix}
use Rattle.dispatcher.specs.declared.answers.AckThrough.{AckThrough}
use Rattle.dispatcher.specs.declared.answers.EventAction.TheVariants.{Propose, Acknowledge, Nothing}
use Rattle.dispatcher.specs.declared.numbered.NumberedOrder.{NumberedOrder}
use Rattle.dispatcher.specs.Folding.{acknowledgement, acknowledges_event, acknowledges_at, clears_at, is_done, numbered, places_processed, wish}
use Rattle.dispatcher.specs.Marks.{confirmed_by, is_confirmed, is_pending, is_wanted, outstanding, wanted, with_marked_result}
use Rattle.group_controller.specs.declared.messages.ControllerSays.{ControllerSays}
use Rattle.group_controller.specs.State.{ControllerState, Work, committed, leaving, resting, stepped, to_member, with_no_met_limit}
use Rattle.group_controller.specs.Settling.{ack_letter, after_finishing, after_proposal, answers_at, clear_letter, command_letter, command_letters, finishing, goes_on, is_alone, is_settled, is_untold, processing, proposing, settling, with_answers, with_commands}
use Rattle.group_controller.specs.Rules.{on_master, on_result, on_wish}
use Rattle.run_spec.specs.States.{controller_message}
use Rattle.closing_laws.specs.Serving.{AreFew}
use Rattle.closing_laws.proofs.Measure.AnswerWorths.{acknowledges_few}
use Rattle.closing_laws.proofs.Pool.Rooms.{is_event}
use Rattle.closing_laws.proofs.Pool.Waiting.{members_none, posts_always, posts_append, posts_cons, posts_never, posts_of}
use Rattle.closing_laws.proofs.Primary.Agreed.{agreed_no_less, agreed_within, marked}
use Rattle.closing_laws.proofs.Primary.Finishing.{Grows, grows_committed, grows_none, grows_then}
use Rattle.closing_laws.proofs.Primary.Proposing.{commands_vr, committed_same, proposal, proposed_as, pushed}

-- a letter, by what is committed: an acknowledgement names processed events alone, and a command has few outputs
pub data IsPosted (log : List Entry) : Letter ControllerSays → Type 0 where
  Ack : (t : AckThrough) → t.through ≤ processed_of log t.switch t.life → IsPosted log (ack_letter t)
  Clear : (t : AckThrough) → IsPosted log (clear_letter t)
  Command : (view : ℕ) (n : NumberedOrder) → HasFewOutputs n.order → IsPosted log (command_letter view n)
  Prepare : (to view op commit : ℕ) (entry : Entry) → IsPosted log (to_member (letter (vr.Prepare view op commit entry) to))

pub posted_more : {front log : List Entry} → IsPrefix front log → (l : Letter ControllerSays) → IsPosted front l → IsPosted log l
posted_more p _ (Ack t few) = Ack t (let more = processed_count t.switch t.life p in omega (arith, few, more))
posted_more p _ (Clear t) = Clear t
posted_more p _ (Command view n few) = Command view n few
posted_more p _ (Prepare to view op commit entry) = Prepare to view op commit entry

acknowledges_in : (log : List Entry) (o : Option Event) (t : AckThrough) → IsIn t (acknowledges_event log o) → t.through ≤ processed_of log t.switch t.life
acknowledges_in log None t among = absurd among
acknowledges_in log (Some e) t among = by_life (has_ended e.switch e.life (received log)) among
  where
    by_life : (b : Bool) → IsIn t (if b then [] else acknowledgement log e.switch e.life ∷ []) → t.through ≤ processed_of log t.switch t.life
    by_life true none = absurd none
    by_life false (inl is) = subst (λ (x : AckThrough). x.through ≤ processed_of log x.switch x.life) (sym is) (omega arith)
    by_life false (inr none) = absurd none

places_count : (log : List Entry) → length (places_processed log) ≡ processed log
places_count [] = refl
places_count (Received e ∷ log) =
    let parts = sum_by-cons (λ (x : Entry). if is_processed x then 1 else 0) (Received e) log in
    let rest = places_count log in
    omega (arith, parts, rest)
places_count (Processed j ∷ log) =
    let parts = sum_by-cons (λ (x : Entry). if is_processed x then 1 else 0) (Processed j) log in
    let rest = places_count log in
    omega (arith, parts, rest)

-- commands are posted as such
commands_each : (kinds : List ℕ) (setup : Setup) (c : ControllerState) (log : List Entry) (xs : List Issued) → ((x : Issued) → IsIn x xs → HasFewOutputs x.order) →
    (l : Letter ControllerSays) → IsIn l (command_letters kinds setup c xs) → IsPosted log l
commands_each kinds setup c log xs few l among =
    let y = in_map (λ x. command_letter c.vr.view (numbered kinds setup (committed c) x)) xs l among in
    subst (λ (z : Letter ControllerSays). IsPosted log z) (sym y.2) (Command c.vr.view (numbered kinds setup (committed c) y.0) (few y.0 y.1))

-- those that are due are of the applications
due_few : (kinds : List ℕ) (setup : Setup) → AreFew kinds setup → (c : ControllerState) (x : Issued) → IsIn x (outstanding kinds setup (committed c) c.marks) → HasFewOutputs x.order
due_few kinds setup few c x among =
    let wants = in_filter (λ x. is_confirmed c.marks x.switch) (wanted kinds setup (committed c) c.marks) x among in
    few.outputs (received (committed c)) (processed (committed c)) x
    (in_filter (is_wanted (committed c) c.marks) (commands_of kinds setup (received (committed c)) (processed (committed c))) x wants)

module _ (me : ℕ) where
  -- the events and acknowledgements of events among letters
  abbrev pub events_posted : List (Letter ControllerSays) → ℕ
  events_posted letters = posts_of is_event controller_message (actor.Controller me) letters

  commands_counted : (kinds : List ℕ) (setup : Setup) (c : ControllerState) (xs : List Issued) → events_posted (command_letters kinds setup c xs) ≡ 0
  commands_counted kinds setup c xs =
      posts_never is_event controller_message (actor.Controller me) (λ (x : Issued). command_letter c.vr.view (numbered kinds setup (committed c) x)) (λ x. refl) xs

  answers_counted : (kinds : List ℕ) (setup : Setup) (c : ControllerState) (places : List ℕ) → events_posted (flat_map (answers_at kinds setup c) places) ≤ length places
  answers_counted kinds setup c [] = omega arith
  answers_counted kinds setup c (j ∷ places) =
      let all = posts_append is_event controller_message (actor.Controller me) (answers_at kinds setup c j) (flat_map (answers_at kinds setup c) places) in
      let parts = posts_append is_event controller_message (actor.Controller me) (map ack_letter (acknowledges_at (committed c) j)) (map clear_letter (clears_at kinds setup (committed c) j)) in
      let acks = posts_always is_event controller_message (actor.Controller me) ack_letter (λ x. refl) (acknowledges_at (committed c) j) in
      let few = acknowledges_few (committed c) (slice_get (received (committed c)) j) in
      let clears = posts_never is_event controller_message (actor.Controller me) clear_letter (λ x. refl) (clears_at kinds setup (committed c) j) in
      let rest = answers_counted kinds setup c places in
      omega (arith, all, parts, acks, few, clears, rest)

  -- a work goes on from another: what it posts, and that each event is acknowledged once as it is committed as processed
  pub record Posts (old new : Work) : Type 0 where
    pub letters : List (Letter ControllerSays)
    pub joined : new.letters ≡ old.letters ++ letters
    pub each : (l : Letter ControllerSays) → IsIn l letters → IsPosted (committed new.state) l
    pub events : events_posted letters + processed (committed old.state) ≤ processed (committed new.state)
    pub grows : Grows old.state.vr new.state.vr
    pub view : new.state.vr.view ≡ old.state.vr.view

  pub posts_still : (work : Work) → work.state.vr.commit ≤ length work.state.vr.log → Posts work work
  posts_still work within = record {
    letters = [];
    joined = sym (append-nil work.letters);
    each = λ l none. absurd none;
    events = omega arith;
    grows = grows_none work.state.vr within;
    view = refl;
  }

  pub posts_then : (a b c : Work) → Posts a b → Posts b c → Posts a c
  posts_then a b c p q = record {
    letters = p.letters ++ q.letters;
    joined = q.joined ∙ ap (λ (z : List (Letter ControllerSays)). z ++ q.letters) p.joined ∙ append_assoc a.letters p.letters q.letters;
    each = λ l among. elim (in_append l p.letters q.letters among) [
      | inl first ↦ posted_more (grows_committed b.state c.state q.grows) l (p.each l first)
      | inr later ↦ q.each l later
    ];
    events =
        let parts = posts_append is_event controller_message (actor.Controller me) p.letters q.letters in
        let first = p.events in
        let later = q.events in
        omega (arith, parts, first, later);
    grows = grows_then a.state.vr b.state.vr c.state.vr p.grows q.grows;
    view = q.view ∙ p.view;
  }

  module _ (kinds : List ℕ) (setup : Setup) (few : AreFew kinds setup) where
    -- what is newly committed as processed is answered
    answers_post : (old : ControllerState) (work : Work) (before : ℕ) → Grows old.vr work.state.vr → work.state.vr.view ≡ old.vr.view → before ≡ length (committed old) →
        Posts (leaving work old) (with_answers kinds setup before work)
    answers_post old work before grown view is = record {
      letters = flat_map (answers_at kinds setup work.state) (places_processed (drop before (committed work.state)));
      joined = refl;
      each = λ l among.
          let r = in_flat_map (answers_at kinds setup work.state) (places_processed (drop before (committed work.state))) l among in
          elim (in_append l (map ack_letter (acknowledges_at (committed work.state) r.0)) (map clear_letter (clears_at kinds setup (committed work.state) r.0)) r.2) [
            | inl m ↦
                let y = in_map ack_letter (acknowledges_at (committed work.state) r.0) l m in
                subst (λ (z : Letter ControllerSays). IsPosted (committed work.state) z) (sym y.2) (Ack y.0 (acknowledges_in (committed work.state) (slice_get (received (committed work.state)) r.0) y.0 y.1))
            | inr m ↦
                let y = in_map clear_letter (clears_at kinds setup (committed work.state) r.0) l m in
                subst (λ (z : Letter ControllerSays). IsPosted (committed work.state) z) (sym y.2) (Clear y.0)
          ];
      events =
          let front = grows_committed old work.state grown in
          let rest : drop before (committed work.state) ≡ front.rest =
          ap (λ (k : ℕ). drop k (committed work.state)) is ∙ ap (drop (length (committed old))) front.joined ∙ drop-append_seam (committed old) front.rest in
          let few = answers_counted kinds setup work.state (places_processed (drop before (committed work.state))) in
          let count = places_count (drop before (committed work.state)) ∙ ap processed rest in
          let parts = ap processed front.joined ∙ processed-append (committed old) front.rest in
          omega (arith, few, count, parts);
      grows = grown;
      view = view;
    }

    -- the commands that are due go out
    commands_post : (work : Work) → work.state.vr.commit ≤ length work.state.vr.log → Posts work (with_commands kinds setup work)
    commands_post work within =
        cond_both (is_untold work.state) _ _ (λ (y : Work). Posts work y)
        (λ _. record {
          letters = command_letters kinds setup work.state (outstanding kinds setup (committed work.state) work.state.marks);
          joined = refl;
          each = commands_each kinds setup work.state (committed work.state) (outstanding kinds setup (committed work.state) work.state.marks) (due_few kinds setup few work.state);
          events = let none = commands_counted kinds setup work.state (outstanding kinds setup (committed work.state) work.state.marks) in omega (arith, none);
          grows = grows_none work.state.vr within;
          view = refl;
        })
        (λ _. posts_still work within)

    -- an entry is proposed
    module _ (work : Work) (entry : Entry) (within : work.state.vr.commit ≤ length work.state.vr.log) where
      abbrev c : ControllerState
      c = work.state

      long : length (c.vr.log ++ entry ∷ []) ≡ length c.vr.log + 1
      long = length-append c.vr.log (entry ∷ [])

      proposal_posts : Posts work (proposed_as false work entry)
      proposal_posts = record {
        letters = proposal c entry;
        joined = refl;
        each = λ l among.
            let said = vr.Prepare c.vr.view (length c.vr.log + 1) c.vr.commit entry in
            let y = in_map to_member (to_others c.vr said) l among in
            let z = in_map (letter said) (others_below c.vr.me c.vr.controllers) y.0 y.1 in
            subst (λ (x : Letter ControllerSays). IsPosted (committed (pushed c entry c.vr.commit)) x) (sym (y.2 ∙ ap to_member z.2)) (Prepare z.0 c.vr.view (length c.vr.log + 1) c.vr.commit entry);
        events =
            let none = members_none is_event (λ x. refl) (actor.Controller me) (to_others c.vr (vr.Prepare c.vr.view (length c.vr.log + 1) c.vr.commit entry)) in
            let same = ap processed (committed_same c entry within) in
            omega (arith, none, same);
        grows = record { log = prefix_push c.vr.log entry; commit = omega arith; within = let l = long in omega (arith, l, within) };
        view = refl;
      }

      -- alone it is committed at once
      alone_posts : Posts work (with_commands kinds setup (with_answers kinds setup c.vr.commit (proposed_as true work entry)))
      alone_posts =
          let answered = with_answers kinds setup c.vr.commit (proposed_as true work entry) in
          let grown : Grows (pushed c entry c.vr.commit).vr (pushed c entry (length c.vr.log + 1)).vr =
          record { log = prefix_refl (c.vr.log ++ entry ∷ []); commit = omega (arith, within); within = let l = long in omega (arith, l) } in
          posts_then work (proposed_as false work entry) (with_commands kinds setup answered) proposal_posts
          (posts_then (proposed_as false work entry) answered (with_commands kinds setup answered)
          (answers_post (pushed c entry c.vr.commit) (proposed_as true work entry) c.vr.commit grown refl
          (sym (ap (λ (l : List Entry). length l) (committed_same c entry within) ∙ length-take-le c.vr.commit c.vr.log within)))
          (commands_post answered (let l = long in omega (arith, l))))

      pub after_posts : Posts work (after_proposal kinds setup work entry)
      after_posts =
          cond_both (is_past_limits c.vr.log entry) _ _ (λ (y : Work). Posts work y)
          (λ _. record { letters = []; joined = sym (append-nil work.letters); each = λ l none. absurd none; events = omega arith; grows = grows_none c.vr within; view = refl })
          (λ _. by_alone (is_alone c))
        where
          by_alone : (a : Bool) → Posts work (if a then with_commands kinds setup (with_answers kinds setup c.vr.commit (proposed_as a work entry)) else proposed_as a work entry)
          by_alone true = alone_posts
          by_alone false = proposal_posts

    -- the first unprocessed event is proposed as processed, where it is finished
    finishing_posts : (fuel : ℕ) (work : Work) → work.state.vr.commit ≤ length work.state.vr.log → Posts work (finishing fuel kinds setup work)
    unfolding finishing
    finishing_posts zero work within = posts_still work within
    finishing_posts (suc more) work within =
        let next = after_proposal kinds setup work (processing work.state) in
        let here = after_posts work (processing work.state) within in
        let rest = finishing_posts more next here.grows.within in
        cond_both (not (is_settled kinds setup work.state)) _ _ (λ (y : Work). Posts work y) (λ _. posts_still work within)
        (λ _. cond_both (goes_on work.state (processing work.state)) _ _ (λ (y : Work). Posts work y) (λ _. posts_then work next (finishing more kinds setup next) here rest) (λ _. here))

    finished_posts : (work : Work) → work.state.vr.commit ≤ length work.state.vr.log → Posts work (after_finishing kinds setup work)
    finished_posts work within = finishing_posts (length (received work.state.vr.log)) work within

    -- Settle, once more is committed
    pub settling_posts : (old : ControllerState) (work : Work) (before : ℕ) → Grows old.vr work.state.vr → work.state.vr.view ≡ old.vr.view → before ≡ length (committed old) →
        Posts (leaving work old) (settling kinds setup before work)
    unfolding settling
    settling_posts old work before grown view is =
        let answered = with_answers kinds setup before work in
        let told = with_commands kinds setup answered in
        posts_then (leaving work old) told (after_finishing kinds setup told)
        (posts_then (leaving work old) answered told (answers_post old work before grown view is) (commands_post answered grown.within))
        (finished_posts told (subst (λ (v : VrState). v.commit ≤ length v.log) (sym (commands_vr kinds setup answered)) grown.within))

    pub proposing_posts : (c : ControllerState) (entry : Entry) → c.vr.commit ≤ length c.vr.log → Posts (resting c) (proposing kinds setup c entry)
    proposing_posts c entry within =
        let next = after_proposal kinds setup (resting c) entry in
        let here = after_posts (resting c) entry within in
        cond_both (goes_on c entry) _ _ (λ (y : Work). Posts (resting c) y)
        (λ _. posts_then (resting c) next (after_finishing kinds setup next) here (finished_posts next here.grows.within)) (λ _. here)

    -- ---- a turn of a primary

    -- what it has posted, where so many of what it heard are events
    pub record HasPosted (c : ControllerState) (heard : ℕ) (work : Work) : Type 0 where
      pub each : (l : Letter ControllerSays) → IsIn l work.letters → IsPosted (committed work.state) l
      pub events : events_posted work.letters + processed (committed c) ≤ heard + processed (committed work.state)
      pub grows : Grows c.vr work.state.vr
      pub view : work.state.vr.view ≡ c.vr.view

    from_posts : (c : ControllerState) (old work : Work) → old.state.vr ≡ c.vr → old.letters ≡ [] → (heard : ℕ) → Posts old work → HasPosted c heard work
    from_posts c old work same empty heard q =
        let letters : work.letters ≡ q.letters = q.joined ∙ ap (λ (z : List (Letter ControllerSays)). z ++ q.letters) empty in
        record {
          each = λ l among. q.each l (subst (λ (z : List (Letter ControllerSays)). IsIn l z) letters among);
          events =
              let count = q.events in
              let all = ap (λ (z : List (Letter ControllerSays)). events_posted z) letters in
              let before = ap (λ (v : VrState). processed (committed (record c { vr = v }))) same in
              omega (arith, count, all, before);
          grows = subst (λ (v : VrState). Grows v work.state.vr) same q.grows;
          view = q.view ∙ ap (λ (v : VrState). v.view) same;
        }

    module _ (c : ControllerState) (within : c.vr.commit ≤ length c.vr.log) where
      abbrev d : ControllerState
      d = with_no_met_limit c

      rest_posts : (heard : ℕ) → HasPosted c heard (resting d)
      rest_posts heard = from_posts c (resting d) (resting d) refl refl heard (posts_still (resting d) within)

      -- a switch replies
      pub master_posts : (s : ℕ) → HasPosted c 0 (on_master kinds setup d s)
      master_posts s =
          let now : ControllerState = record d { marks = confirmed_by d.marks s } in
          let its = filter (λ x. nat_eq x.switch s) (outstanding kinds setup (committed now) now.marks) in
          record {
            each = commands_each kinds setup now (committed now) its (λ x among. due_few kinds setup few now x (in_filter (λ x. nat_eq x.switch s) (outstanding kinds setup (committed now) now.marks) x among));
            events = let none = commands_counted kinds setup now its in omega (arith, none);
            grows = grows_none c.vr within;
            view = refl;
          }

      -- a result comes
      pub result_posts : (s life number : ℕ) → HasPosted c 0 (on_result kinds setup d s life number)
      result_posts s life number =
          let now : ControllerState = record d { marks = with_marked_result kinds setup (committed d) d.marks s life number } in
          cond_both (is_pending kinds setup (committed c) s life number) (after_finishing kinds setup (resting now)) (resting d) (λ (y : Work). HasPosted c 0 y)
          (λ _. from_posts c (resting now) (after_finishing kinds setup (resting now)) refl refl 0 (finished_posts (resting now) within))
          (λ _. rest_posts 0)

      -- an event comes
      wish_posts : (e : Event) (a b : Bool) → HasPosted c 1 (on_wish kinds setup d e (if a then Propose else if b then Acknowledge (processed_of (committed d) e.switch e.life) else Nothing))
      wish_posts e true b = from_posts c (resting d) (proposing kinds setup d (Received e)) refl refl 1 (proposing_posts d (Received e) within)
      wish_posts e false true =
          let t : AckThrough = record { switch = e.switch; life = e.life; through = processed_of (committed d) e.switch e.life } in
          record {
            each = λ l among. elim among [
              | inl is ↦ subst (λ (z : Letter ControllerSays). IsPosted (committed d) z) (sym is) (Ack t (omega arith))
              | inr none ↦ absurd none
            ];
            events = let one = posts_cons is_event controller_message (actor.Controller me) (ack_letter t) [] in omega (arith, one);
            grows = grows_none c.vr within;
            view = refl;
          }
      wish_posts e false false = rest_posts 1

      pub event_posts : (e : Event) → HasPosted c 1 (on_wish kinds setup d e (wish c.vr.log (committed c) e))
      event_posts e = wish_posts e (may_be_received e (received c.vr.log)) (is_done c.vr.log (committed c) e)

      -- a member acknowledges
      module _ (b op : ℕ) where
        abbrev mid : Work
        mid = stepped d (quiet (marked c.vr b op))

        grown : Grows c.vr mid.state.vr
        grown = record { log = prefix_refl c.vr.log; commit = agreed_no_less c.vr b op; within = agreed_within c.vr b op within }

        pub agreed_posts : HasPosted c 0 (settling kinds setup c.vr.commit mid)
        agreed_posts =
            from_posts c (leaving mid c) (settling kinds setup c.vr.commit mid) refl refl 0
            (settling_posts c mid c.vr.commit grown refl (sym (length-take-le c.vr.commit c.vr.log within)))

        pub counted_posts : HasPosted c 0 mid
        counted_posts = record {
          each = λ l none. absurd none;
          events = let more = processed_prefix (grows_committed c mid.state grown) in omega (arith, more);
          grows = grown;
          view = refl;
        }
