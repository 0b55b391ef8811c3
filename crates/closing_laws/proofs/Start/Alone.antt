-- A controller alone in its group starts the view of a closing as it suspects it.
use Rattle.std.proofs.Common.{◌≡◌, ◌≤◌, ◌<◌, ℕ, ◌/◌, ◌%◌, Bool, true, false, List, [], ◌∷◌, ◌++◌, length, map, take, refl, sym, ◌∙◌, ap, subst, arith}
use Rattle.std.specs.Prelude.{nat_eq, reverse, Some, None, if◌then◌else◌}
use Rattle.std.proofs.lemmas.Bool.{eq-eqb, ne_eqb, eqb-false, le-ltb, both_ways}
use Rattle.of_types.specs.Setups.{IsSetup}
use Rattle.journal.specs.declared.journal.Actor.{Actor}
use Rattle.journal.specs.declared.journal.Actor.TheVariants as actor
use Rattle.journal.specs.declared.journal.JournalEntry.{JournalEntry}
use Rattle.journal.specs.declared.journal.JournalEntry.TheVariants.{Post, Draw, Lose, Local, Idle, Refused}
use Rattle.journal.specs.declared.journal.Letter.{Letter}
use Rattle.journal.specs.declared.journal.Local.TheVariants as local
use Rattle.journal.specs.declared.journal.Packet.{Packet}
use Rattle.journal.specs.declared.journal.SaveResult.{SaveResult}
use Rattle.journal.specs.Pool.{numbered_letters, pool}
use Rattle.journal.specs.Turns.{IsWithinLimits}
use Rattle.vr_log.specs.declared.message.VrLetter.{VrLetter}
use Rattle.vr_log.specs.declared.state.VrState.{VrState}
use Rattle.vr_log.specs.Members.{leads, most_failures, others_below}
use Rattle.vr_log.specs.Steps.{VrStep, letter, to_others}
use Rattle.view_change.specs.Entering.{started_view, view_start}
use Rattle.vr_core.specs.declared.input.VrInput.TheVariants as vr_input
use Rattle.group_controller.specs.declared.messages.ControllerInput.TheVariants as controller_input
use Rattle.group_controller.specs.declared.messages.ControllerSays.{ControllerSays}
use Rattle.group_controller.specs.State.{ControllerState, Work, fresh, stepped, with_no_met_limit}
use Rattle.group_controller.specs.Rules.{after_step, starting_view}
use Rattle.run_spec.specs.declared.messages.Unsealed.TheVariants as unsealed
use Rattle.run_spec.specs.States.{Scene, IsFaithful, content, controller_message, sealed_letters}
use Rattle.run_spec.specs.Legal.{IsPossible}
use Rattle.run_spec.specs.Committed.{controller_state, states_of, members_up}
use Rattle.run_spec.proofs.Pasts.{self_controller}
use Rattle.run_laws.proofs.RunAgreement.Pasts.{fits}
use Rattle.run_spec.specs.Script.{IsPosted}
use Rattle.run_spec.specs.Closing.{Phase, Losing, Suspecting, ClosingMove, Takes, ClosesTo, IsEnd, IsMove, after_member, after_move, count_turns, majority, next_move, next_suspicion}
use Rattle.closing_laws.specs.Quorum.{has}
use Rattle.closing_laws.specs.Views.{HasBest, IsCovered, IsReadyMember, gathering, lacks, log_of, started_with, tellers, turns_to_start}
use Rattle.closing_laws.specs.Starts.{HasStartedIn, IsAttempt, Starts, StartsInTime, Last_suspects, members_at, quorum_after, starting_turn, turns_after, view_after}
use Rattle.closing_laws.proofs.Journal.Posting.{Done, Next, Posting, later, later_is, never_posts, next_of, owes_nothing, pool_grows, possible_under, posted_all, posted_holds, poster, says_posted, sealed_length, switches_stay, within_under}
use Rattle.closing_laws.proofs.Journal.Taking.{By_suspicion, TurnOf, at, member_work, starting_later, turn_local}
use Rattle.closing_laws.proofs.Lists.Numbers.{has_here}
use Rattle.closing_laws.proofs.Pool.Room.{finds_room}
use Rattle.closing_laws.proofs.Pool.StartingLetters.{starting_few}
use Rattle.closing_laws.proofs.Start.Begun as begun
use Rattle.closing_laws.proofs.Start.Steps as steps

first_number : (xs : List ℕ) → length xs ≡ 1 → ((j : ℕ) → has xs j ≡ true → j < 1) → xs ≡ 0 ∷ []
first_number [] count small = absurd (omega (arith, count))
first_number (x ∷ []) count small = let less = small x (has_here x []) in let first : x ≡ 0 = omega (arith, less) in ap (λ (y : ℕ). y ∷ []) first
first_number (x ∷ (y ∷ xs)) count small = absurd (omega (arith, count))

module _ {B : Type 0} (scene : Scene B) (results : List (List SaveResult)) (before : List (JournalEntry B)) (most : majority scene.setup.controllers ≤ length (members_up (states_of scene results before)))
    (setup : IsSetup scene.setup) (faithful : IsFaithful scene.sealing) (single : scene.setup.controllers ≡ 1) (entries : List (JournalEntry B)) (last : Phase) (a : IsAttempt scene results before entries last)
    (best : ℕ) (b : HasBest (quorum_after scene results before) (members_at scene results before) best) where
  abbrev n : ℕ
  n = scene.setup.controllers

  abbrev w : ℕ
  w = view_after scene results before

  abbrev quorum : List ℕ
  quorum = quorum_after scene results before

  abbrev start : ℕ → VrState
  start = members_at scene results before

  small : (j : ℕ) → has quorum j ≡ true → j < n
  small = (begun.quorum_is scene results before most).members

  only : quorum ≡ 0 ∷ []
  only =
      let count = (begun.quorum_is scene results before most).count in
      first_number quorum (omega (arith, count, single)) (λ j h. let less = small j h in omega (arith, less, single))

  first : w % n ≡ 0
  first = let none : w % 1 ≡ 0 = omega arith in ap (λ (k : ℕ). w % k) single ∙ none

  there : has quorum 0 ≡ true
  there = ap (λ (l : List ℕ). has l 0) only

  is_best : best ≡ 0
  is_best = let less = small best b.member in omega (arith, less, single)

  member : IsReadyMember 1 w 0 (start 0)
  member = subst (λ (k : ℕ). IsReadyMember k w 0 (start 0)) single (begun.ready scene results before most 0 there)

  -- the one log covers itself
  own_covered : IsCovered quorum start best
  own_covered = record {
    agrees = λ j chosen. ap (λ (k : ℕ). take (start j).commit (start k).log) (alone_at j chosen ∙ sym is_best);
    covers = λ j chosen.
        let within = member.commit in
        let here = ap (λ (k : ℕ). (start k).commit) (alone_at j chosen) in
        let there = ap (λ (k : ℕ). length (start k).log) is_best in
        omega (arith, within, here, there);
  }
    where
      alone_at : (j : ℕ) → has quorum j ≡ true → j ≡ 0
      alone_at j chosen = let less = small j chosen in omega (arith, less, single)

  abbrev begins_as : VrState
  begins_as = started_view (gathering (start 0) w [] [] None) (start 0).log (start 0).commit (start 0).commit

  abbrev step : VrStep
  step = record { state = begins_as; promise = Some w; letters = [] }

  abbrev suspicion : JournalEntry B
  suspicion = Local (actor.Controller 0) (local.Suspect w)

  abbrev turn_work : Work
  turn_work = starting_turn scene.kinds scene.setup (Some w) begins_as

  silent : to_others begins_as (view_start begins_as) ≡ []
  silent =
      ap (λ (k : ℕ). map (letter (view_start begins_as)) (others_below (start 0).me k)) member.size
      ∙ ap (λ (k : ℕ). map (letter (view_start begins_as)) (others_below k 1)) member.me

  turn : TurnOf scene results 0 suspicion before turn_work
  turn =
      let c = (at scene results 0 before).now in
      let below = member.below in
      let apart : nat_eq (start 0).view w ≡ false = ne_eqb (start 0).view w (λ e. omega (arith, e, below)) in
      let none : w % 1 ≡ 0 = omega arith in
      let now : leads begins_as ≡ true = eq-eqb (w % (start 0).controllers) (start 0).me (ap (λ (k : ℕ). w % k) member.size ∙ none ∙ sym member.me) in
      subst (λ (x : Work). TurnOf scene results 0 suspicion before x)
      (member_work scene.kinds scene.setup c (controller_input.Local (local.Suspect w)) (vr_input.Suspect w) (By_suspicion w) member.up
      ∙ ap (after_step scene.kinds scene.setup (with_no_met_limit c)) (steps.alone w (start 0) member)
      ∙ starting_later scene.kinds scene.setup (with_no_met_limit c) step apart now
      ∙ ap (λ (ls : List VrLetter). starting_view scene.kinds scene.setup (stepped (fresh begins_as) (record { state = begins_as; promise = Some w; letters = ls }))) (sym silent))
      (turn_local scene results 0 w before (λ i. a.saves 0 i (omega (arith, single))))

  starts_as : turn_work ≡ starting_turn scene.kinds scene.setup (Some w) (started_with (start (w % n)) w [] (map (log_of start) (tellers (w % n) quorum)) (start best).log)
  starts_as =
      ap (starting_turn scene.kinds scene.setup (Some w))
      (sym (ap (λ (p : ℕ). started_with (start p) w [] (map (log_of start) (tellers p quorum)) (start best).log) first
      ∙ ap (λ (l : List ℕ). started_with (start 0) w [] (map (log_of start) (tellers 0 l)) (start best).log) only
      ∙ ap (λ (k : ℕ). started_with (start 0) w [] [] (start k).log) is_best))

  begun_in : (Q : List (JournalEntry B)) → (at scene results 0 Q).now ≡ (at scene results 0 (suspicion ∷ before)).now → (number : ℕ) →
      pool Q ≡ numbered_letters number (actor.Controller 0) (sealed_letters controller_message scene.sealing turn_work.letters) →
      map (content scene.sealing) (pool Q) ≡ map (λ (l : Letter ControllerSays). unsealed.Message (controller_message l.body)) turn_work.letters → HasStartedIn scene results w quorum start best Q
  begun_in Q same number waits says = record {
    voters = λ c. [];
    promise = Some w;
    turn = turn_work;
    turn_is = starts_as;
    primary = ap (λ (k : ℕ). controller_state scene results k Q) first ∙ same ∙ turn.now;
    others = λ c chosen other. let less = small c chosen in let zero_it : c ≡ 0 = omega (arith, less, single) in absurd (eqb-false c (w % n) other (zero_it ∙ sym first));
    outside = λ c less out. let zero_it : c ≡ 0 = omega (arith, less, single) in absurd (both_ways (has quorum 0) (ap (has quorum) (sym zero_it) ∙ out) there);
    number = number;
    waits = waits ∙ ap (λ (k : ℕ). numbered_letters number (actor.Controller k) (sealed_letters controller_message scene.sealing turn_work.letters)) (sym first);
    says = says;
  }

  one_turn : turns_after scene results before best ≡ 1
  one_turn =
      let half : n / 2 ≡ 0 = omega (arith, single) in
      let lack : lacks (w % n) start best ≡ false = ap (λ (k : ℕ). lacks k start best) first ∙ ap (lacks 0 start) is_best ∙ le-ltb (start 0).commit (start 0).commit (omega arith) in
      ap (λ (k : ℕ). turns_to_start k (lacks (w % n) start best)) half ∙ ap (turns_to_start 0) lack

  -- the closing goes on
  goes_behind : (Q rest : List (JournalEntry B)) → (at scene results 0 Q).now ≡ (at scene results 0 (suspicion ∷ before)).now →
      ClosesTo scene results (after_member w (at scene results 0 (suspicion ∷ before)).now (Suspecting w quorum [])) Q rest last →
      ClosesTo scene results (after_member w (controller_state scene results (w % n) Q) (Suspecting w quorum [])) Q rest last
  goes_behind Q rest same closes =
      subst (λ (c : ControllerState). ClosesTo scene results (after_member w c (Suspecting w quorum [])) Q rest last)
      (sym (ap (λ (k : ℕ). controller_state scene results k Q) first ∙ same)) closes

  -- all that it says in that turn finds room
  start_fits : (number : ℕ) (letters : List (Letter B)) (lost : ℕ) → IsPossible scene results (Post (actor.Controller 0) number letters lost ∷ (suspicion ∷ before)) →
      IsWithinLimits scene.sealing.size (Post (actor.Controller 0) number letters lost ∷ (suspicion ∷ before)) → lost ≡ 0
  start_fits number letters lost possible within =
      let empty = ap (λ (l : List (Packet B)). length l) a.empty in
      let same = (fits scene results (Post (actor.Controller 0) number letters lost) (suspicion ∷ before) possible 0 (self_controller 0)).0 in
      let said = ap (λ (l : List (Letter B)). length l) same in
      let sealed = sealed_length controller_message scene.sealing (at scene results 0 (suspicion ∷ before)).owed in
      let owed = ap (λ (l : List (Letter ControllerSays)). length l) turn.owed in
      let few = starting_few scene.kinds scene.setup setup.few (Some w) begins_as (record {
        small = (let is = member.size in omega (arith, is));
        one = member.is_one;
        whole = λ none. ap (λ (b : Bool). if b then length (start 0).log else (start 0).commit) (eq-eqb (most_failures begins_as) 0 none);
      }) in
      finds_room scene.sealing.size (actor.Controller 0) number letters lost (suspicion ∷ before) possible.orderly within (omega (arith, empty, said, sealed, owed, few))

  -- what comes behind the suspicion
  starts_now : (rest : List (JournalEntry B)) (phase : Phase) → entries ≡ suspicion ∷ rest → phase ≡ after_member w (at scene results 0 (suspicion ∷ before)).now (Suspecting w quorum []) →
      ClosesTo scene results phase (suspicion ∷ before) rest last → Starts scene results before entries last best
  starts_now rest phase is phase_is closes = by_next (next_of scene results phase (suspicion ∷ before) rest last closes done)
    where
      can : IsPossible scene results (later (suspicion ∷ before) rest)
      can = subst (λ (l : List (JournalEntry B)). IsPossible scene results (later before l)) is (subst (λ (l : List (JournalEntry B)). IsPossible scene results l) (sym (later_is before entries)) a.possible)

      done : IsPosted scene results (later (suspicion ∷ before) rest)
      done = subst (λ (l : List (JournalEntry B)). IsPosted scene results (later before l)) is (subst (λ (l : List (JournalEntry B)). IsPosted scene results l) (sym (later_is before entries)) a.posted)

      room : IsWithinLimits scene.sealing.size (later (suspicion ∷ before) rest)
      room = subst (λ (l : List (JournalEntry B)). IsWithinLimits scene.sealing.size (later before l)) is (subst (λ (l : List (JournalEntry B)). IsWithinLimits scene.sealing.size l) (sym (later_is before entries)) a.within)

      by_next : Next scene results (suspicion ∷ before) rest → Starts scene results before entries last best
      by_next (Done nothing) =
          let none : turn_work.letters ≡ [] = sym turn.owed ∙ owes_nothing scene results (suspicion ∷ before) before suspicion 0 refl refl nothing in
          let all = one_turn in
          record {
            first = suspicion ∷ [];
            rest = rest;
            joined = is;
            turns = sym all;
            started = begun_in (suspicion ∷ before) refl 0 (a.empty ∙ ap (λ (ls : List (Letter ControllerSays)). numbered_letters 0 (actor.Controller 0) (sealed_letters controller_message scene.sealing ls)) (sym none))
                (ap (map (content scene.sealing)) a.empty ∙ ap (map (λ (l : Letter ControllerSays). unsealed.Message (controller_message l.body))) (sym none));
            covered = own_covered;
            unchanged = λ t. switches_stay scene results 0 suspicion before refl t;
            posted = nothing;
            phase = Suspecting w quorum [];
            drains = Last_suspects;
            goes_on = goes_behind (suspicion ∷ before) rest refl (subst (λ (x : Phase). ClosesTo scene results x (suspicion ∷ before) rest last) phase_is closes);
          }
      by_next (Posting whose number letters lost more rest_is input) =
          let own : whose ≡ actor.Controller 0 = poster scene results (suspicion ∷ before) before suspicion 0 whose refl refl input in
          let split : rest ≡ Post (actor.Controller 0) number letters lost ∷ more = rest_is ∙ ap (λ (x : Actor). Post x number letters lost ∷ more) own in
          let it : JournalEntry B = Post (actor.Controller 0) number letters lost in
          let after : IsPossible scene results (it ∷ (suspicion ∷ before)) =
          possible_under scene results more (it ∷ (suspicion ∷ before)) (subst (λ (l : List (JournalEntry B)). IsPossible scene results (later (suspicion ∷ before) l)) split can) in
          let fit : lost ≡ 0 =
          start_fits number letters lost after (within_under scene.sealing.size more (it ∷ (suspicion ∷ before)) (subst (λ (l : List (JournalEntry B)). IsWithinLimits scene.sealing.size (later (suspicion ∷ before) l)) split room)) in
          let all = one_turn in
          record {
            first = suspicion ∷ (it ∷ []);
            rest = more;
            joined = is ∙ ap (λ (l : List (JournalEntry B)). suspicion ∷ l) split;
            turns = sym all;
            started = begun_in (it ∷ (suspicion ∷ before)) (posted_holds scene results 0 number letters lost (suspicion ∷ before) 0).0 number
                (pool_grows scene results 0 number letters lost (suspicion ∷ before) after fit
                ∙ ap (λ (ps : List (Packet B)). ps ++ numbered_letters number (actor.Controller 0) (sealed_letters controller_message scene.sealing (at scene results 0 (suspicion ∷ before)).owed)) a.empty
                ∙ ap (λ (ls : List (Letter ControllerSays)). numbered_letters number (actor.Controller 0) (sealed_letters controller_message scene.sealing ls)) turn.owed)
                (says_posted scene results 0 number letters lost (suspicion ∷ before) after fit setup faithful a.empty
                ∙ ap (map (λ (l : Letter ControllerSays). unsealed.Message (controller_message l.body))) turn.owed);
            covered = own_covered;
            unchanged = λ t. switches_stay scene results 0 it (suspicion ∷ before) refl t
                ∙ switches_stay scene results 0 suspicion before refl t;
            posted = posted_all scene results 0 number letters lost (suspicion ∷ before);
            phase = Suspecting w quorum [];
            drains = Last_suspects;
            goes_on = goes_behind (it ∷ (suspicion ∷ before)) more (posted_holds scene results 0 number letters lost (suspicion ∷ before) 0).0
                (subst (λ (l : List (JournalEntry B)). ClosesTo scene results (after_member w (at scene results 0 (suspicion ∷ before)).now (Suspecting w quorum [])) (suspicion ∷ before) l last) split
                (subst (λ (x : Phase). ClosesTo scene results x (suspicion ∷ before) rest last) phase_is closes)).1;
          }

  first_takes : next_move scene results (Suspecting w quorum quorum) before ≡ Takes suspicion (Suspecting w quorum [])
  first_takes = ap (λ (l : List ℕ). next_suspicion n w quorum l (pool before)) only

  one_move : (e : JournalEntry B) (rest : List (JournalEntry B)) → entries ≡ e ∷ rest → (next : Phase) → IsMove (next_move scene results (Suspecting w quorum quorum) before) e next →
      ClosesTo scene results (after_move scene results e before next) (e ∷ before) rest last → StartsInTime scene results before entries last best
  one_move e rest is next move closes =
      let m = subst (λ (v : ClosingMove B). IsMove v e next) first_takes move in
      let joined : entries ≡ suspicion ∷ rest = is ∙ ap (λ (x : JournalEntry B). x ∷ rest) m.0 in
      let closes' = subst (λ (x : JournalEntry B). ClosesTo scene results (after_move scene results x before next) (x ∷ before) rest last) m.0 closes in
      let all = one_turn in
      let whole = ap (λ (l : List (JournalEntry B)). count_turns l) joined in
      let front = begun.turns_first (suspicion ∷ []) rest in
      record {
        starts = λ enough. starts_now rest (after_move scene results suspicion before next) joined (ap (λ (x : Phase). after_move scene results suspicion before x) m.1) closes';
        goes_on = λ less answer end. absurd (omega (arith, all, less, whole, front));
      }

  pub in_time : StartsInTime scene results before entries last best
  in_time = by_entries entries refl
    where
      can : IsPossible scene results (later before entries)
      can = subst (λ (l : List (JournalEntry B)). IsPossible scene results l) (sym (later_is before entries)) a.possible

      from_suspicions : (e : JournalEntry B) (rest : List (JournalEntry B)) → entries ≡ e ∷ rest → ClosesTo scene results (Suspecting w quorum quorum) before (e ∷ rest) last
      from_suspicions e rest is =
          subst (λ (l : List (JournalEntry B)). ClosesTo scene results (Suspecting w quorum quorum) before l last) is
          (begun.closes_from scene results before most entries last a.empty e rest is a.rests can (never_posts scene results before a.rests)
          (λ h. possible_under scene results rest (e ∷ before) (subst (λ (l : List (JournalEntry B)). IsPossible scene results (later before l)) is h)) a.closes)

      by_entries : (l : List (JournalEntry B)) → entries ≡ l → StartsInTime scene results before entries last best
      by_entries [] is =
          let still : last ≡ Losing = subst (λ (l : List (JournalEntry B)). ClosesTo scene results Losing before l last) is a.closes in
          let all = one_turn in
          let none : count_turns entries ≡ 0 = ap (λ (l : List (JournalEntry B)). count_turns l) is in
          record {
            starts = λ enough. absurd (omega (arith, all, none, enough));
            goes_on = λ less answer end.
                subst (λ (v : ClosingMove B). IsEnd v answer) (begun.first_move scene results before most a.empty ∙ first_takes)
                (subst (λ (y : Phase). IsEnd (next_move scene results y before) answer) still
                (subst (λ (l : List (JournalEntry B)). IsEnd (next_move scene results last (reverse l ++ before)) answer) is end));
          }
      by_entries (Post whose number letters lost ∷ rest) is =
          let c = from_suspicions (Post whose number letters lost) rest is in
          absurd (never_posts scene results before a.rests whose number letters lost c.0
          (possible_under scene results rest (Post whose number letters lost ∷ before) (subst (λ (l : List (JournalEntry B)). IsPossible scene results (later before l)) is can)))
      by_entries (Draw whose id keep ∷ rest) is = let c = from_suspicions (Draw whose id keep) rest is in one_move (Draw whose id keep) rest is c.1.0 c.1.1 c.1.2
      by_entries (Lose whose id ∷ rest) is = let c = from_suspicions (Lose whose id) rest is in one_move (Lose whose id) rest is c.1.0 c.1.1 c.1.2
      by_entries (Local whose input ∷ rest) is = let c = from_suspicions (Local whose input) rest is in one_move (Local whose input) rest is c.1.0 c.1.1 c.1.2
      by_entries (Idle whose ∷ rest) is = let c = from_suspicions (Idle whose) rest is in one_move (Idle whose) rest is c.1.0 c.1.1 c.1.2
      by_entries (Refused whose ∷ rest) is = let c = from_suspicions (Refused whose) rest is in one_move (Refused whose) rest is c.1.0 c.1.1 c.1.2
