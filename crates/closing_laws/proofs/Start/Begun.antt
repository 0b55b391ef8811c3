-- The view of a closing starts in time.
use Rattle.std.proofs.Common.{◌≡◌, ◌≤◌, ◌<◌, ◌⊎◌, inl, inr, ℕ, ◌+◌, ◌/◌, ◌%◌, Bool, true, false, List, [], ◌∷◌, ◌++◌, length, map, zero, suc, refl, sym, ◌∙◌, ap, subst, arith, append_assoc}
use Rattle.std.specs.Prelude.{cond, nat_lt, reverse, None, if◌then◌else◌}
use Rattle.std.specs.List.{AllByRecursion, range_with_len}
use Rattle.std.proofs.lemmas.Bool.{le-ltb, cases_eq}
use Rattle.std.proofs.lemmas.List.Sums.{sum_by-append}
use Rattle.of_types.specs.Setups.{IsSetup}
use Rattle.journal.specs.declared.journal.Actor.{Actor}
use Rattle.journal.specs.declared.journal.Actor.TheVariants as actor
use Rattle.journal.specs.declared.journal.JournalEntry.{JournalEntry}
use Rattle.journal.specs.declared.journal.JournalEntry.TheVariants.{Post, Draw, Lose, Local, Idle, Refused}
use Rattle.journal.specs.declared.journal.Letter.{Letter}
use Rattle.journal.specs.declared.journal.Packet.{Packet}
use Rattle.journal.specs.declared.journal.SaveResult.{SaveResult}
use Rattle.journal.specs.Part.{part}
use Rattle.journal.specs.Pool.{pool}
use Rattle.journal.specs.Turns.{IsWithinLimits}
use Rattle.vr_log.specs.declared.state.VrState.{VrState}
use Rattle.vr_log.specs.Members.{is_up, others_below}
use Rattle.group_controller.specs.State.{ControllerState}
use Rattle.run_spec.specs.States.{Scene, IsFaithful}
use Rattle.run_spec.specs.Legal.{IsPossible, results_of}
use Rattle.run_spec.specs.Committed.{controller_state, switch_state, states_of, members_up}
use Rattle.run_spec.specs.Script.{IsInputOf, IsPosted}
use Rattle.run_spec.specs.Closing.{ClosingAnswer, Phase, Losing, Suspecting, Draining, ClosingMove, Ends, NoQuorum, ClosesTo, IsEnd, IsMove, after_member, count_turns, is_turn, majority, next_move, next_lost, next_suspicion}
use Rattle.run_laws.proofs.Members.{owned_at}
use Rattle.closing_laws.specs.Quorum.{has, IsQuorum}
use Rattle.closing_laws.specs.Draining.{GroupState, all_suspected, resting_group}
use Rattle.closing_laws.specs.Views.{HasBest, IsCovered, IsReadyMember, in_view, lacks, turns_to_start}
use Rattle.closing_laws.specs.Starts.{HasStartedIn, IsAttempt, StartsInTime, Drains, members_at, quorum_after, turns_after, view_after}
use Rattle.closing_laws.proofs.Journal.Posting.{later, later_is, never_posts, possible_under}
use Rattle.closing_laws.proofs.Journal.Taking.{AllCarry}
use Rattle.closing_laws.proofs.Lists.Numbers.{Once, filter_has}
use Rattle.closing_laws.proofs.Lists.Picked.{picked_of_quorum}
use Rattle.closing_laws.proofs.Start.Covering.{covered}
use Rattle.closing_laws.proofs.Start.Pasts as pasts
use Rattle.closing_laws.proofs.Start.Paths.{Arrives, IsLast, Path}
use Rattle.closing_laws.proofs.Start.Rounds.{quorum_once}
use Rattle.closing_laws.proofs.Start.StartingTurn as starting
use Rattle.closing_laws.proofs.Start.Suspicions as suspecting
use Rattle.closing_laws.proofs.Start.Views as views
use Rattle.closing_laws.proofs.Start.Walking as walking

-- what holds of all that a range gives
pub all_range : {X : Type 0} (f : ℕ → X) (P : X → Type 0) (a n : ℕ) → AllByRecursion P (map f (range_with_len a n)) → (j : ℕ) → a ≤ j → j < a + n → P (f j)
all_range f P a zero all j low high = absurd (omega (arith, low, high))
all_range f P a (suc n) all j low high = elim (cases_eq a j) [
  | inl e ↦ subst (λ (k : ℕ). P (f k)) e all.0
  | inr apart ↦ all_range f P (a + 1) n all.1 j (omega (arith, low, apart)) (omega (arith, high))
]

pub counts_append : {B : Type 0} (first rest : List (JournalEntry B)) → count_turns (first ++ rest) ≡ count_turns first + count_turns rest
counts_append {B = B} first rest = sum_by-append (λ (x : JournalEntry B). cond (is_turn x) 1 0) first rest

pub later_append : {B : Type 0} (P first rest : List (JournalEntry B)) → later P (first ++ rest) ≡ later (later P first) rest
later_append P [] rest = refl
later_append P (e ∷ first) rest = later_append (e ∷ P) first rest

-- more turns than suspicions
long : (f : ℕ) (b : Bool) → 0 < f → f + 1 < turns_to_start f b
long f true some = omega (arith, some)
long f false some = omega (arith, some)

-- seven members take few turns
few_turns : (f : ℕ) (fetches : Bool) → f ≤ 3 → turns_to_start f fetches ≤ 64
few_turns zero true less = omega arith
few_turns zero false less = omega arith
few_turns (suc zero) true less = omega arith
few_turns (suc zero) false less = omega arith
few_turns (suc (suc zero)) true less = omega arith
few_turns (suc (suc zero)) false less = omega arith
few_turns (suc (suc (suc zero))) true less = omega arith
few_turns (suc (suc (suc zero))) false less = omega arith
few_turns (suc (suc (suc (suc k)))) fetches less = absurd (omega (arith, less))

pub turns_first : {B : Type 0} (first rest : List (JournalEntry B)) → count_turns first ≤ count_turns (first ++ rest)
turns_first {B = B} first rest = let all = sum_by-append (λ (x : JournalEntry B). cond (is_turn x) 1 0) first rest in omega (arith, all)

module _ {B : Type 0} (scene : Scene B) (results : List (List SaveResult)) (before : List (JournalEntry B)) (most : majority scene.setup.controllers ≤ length (members_up (states_of scene results before))) where
  abbrev pub n : ℕ
  n = scene.setup.controllers

  abbrev pub w : ℕ
  w = view_after scene results before

  abbrev pub quorum : List ℕ
  quorum = quorum_after scene results before

  abbrev pub start : ℕ → VrState
  start = members_at scene results before

  pub quorum_is : IsQuorum n w quorum
  quorum_is = (pasts.closes scene results before most).quorum_is

  -- a member of the quorum is ready
  pub ready : (j : ℕ) → has quorum j ≡ true → IsReadyMember n w j (start j)
  ready j member =
      let o = (owned_at scene (results_of results j) j (part (actor.Controller j) before)).now in
      let among = (pasts.closes scene results before most).are_up j member in
      let up = (filter_has (pasts.takes_part scene results before) (others_below n n) j (ap (λ (l : List ℕ). has l j) (sym (pasts.up_is scene results before)) ∙ among)).1 in
      let small = quorum_is.members j member in
      let below = all_range (λ c. controller_state scene results c before) (λ (c : ControllerState). is_up c.vr ≡ true → (c.vr.view < w) × (c.vr.promise < w)) 0 n
      (pasts.least scene results before most).may.above j (omega arith) (omega (arith, small)) up in
      record {
        me = o.me_is;
        size = o.all;
        up = up;
        below = below.0;
        small = small;
        commit = o.consistent.commit;
        is_one = o.consistent.follow;
      }

  -- the first move
  pub first_move : pool before ≡ [] → next_move scene results Losing before ≡ next_move scene results (Suspecting w quorum quorum) before
  first_move empty =
      let enough : nat_lt (length (members_up (states_of scene results before))) (majority n) ≡ false = le-ltb (length (members_up (states_of scene results before))) (majority n) most in
      ap (next_lost n (states_of scene results before)) empty
      ∙ ap (λ (b : Bool). if b then Ends (NoQuorum (length (members_up (states_of scene results before))) (majority n)) else next_suspicion n w quorum quorum []) enough
      ∙ ap (next_suspicion n w quorum quorum) (sym empty)

  -- so it begins by the suspicions
  pub closes_from : (entries : List (JournalEntry B)) (last : Phase) → pool before ≡ [] → (e : JournalEntry B) (rest : List (JournalEntry B)) → entries ≡ e ∷ rest → IsPosted scene results before →
      IsPossible scene results (later before entries) → ((a : Actor) (first : ℕ) (letters : List (Letter B)) (lost : ℕ) → IsInputOf a before → IsPossible scene results (Post a first letters lost ∷ before) → ⊥) →
      (IsPossible scene results (later before entries) → IsPossible scene results (e ∷ before)) →
      ClosesTo scene results Losing before entries last → ClosesTo scene results (Suspecting w quorum quorum) before entries last
  closes_from entries last empty e rest is posted possible never under closes =
      subst (λ (l : List (JournalEntry B)). ClosesTo scene results (Suspecting w quorum quorum) before l last) (sym is)
      (by_entry e (under possible) (subst (λ (l : List (JournalEntry B)). ClosesTo scene results Losing before l last) is closes))
    where
      moved : (x : JournalEntry B) (next : Phase) → IsMove (next_move scene results Losing before) x next → IsMove (next_move scene results (Suspecting w quorum quorum) before) x next
      moved x next = subst (λ (v : ClosingMove B). IsMove v x next) (first_move empty)

      by_entry : (x : JournalEntry B) → IsPossible scene results (x ∷ before) → ClosesTo scene results Losing before (x ∷ rest) last → ClosesTo scene results (Suspecting w quorum quorum) before (x ∷ rest) last
      by_entry (Post a first letters lost) can c = absurd (never a first letters lost c.0 can)
      by_entry (Draw a id keep) can c = (c.0, (c.1.0, moved (Draw a id keep) c.1.0 c.1.1, c.1.2))
      by_entry (Lose a id) can c = (c.0, (c.1.0, moved (Lose a id) c.1.0 c.1.1, c.1.2))
      by_entry (Local a input) can c = (c.0, (c.1.0, moved (Local a input) c.1.0 c.1.1, c.1.2))
      by_entry (Idle a) can c = (c.0, (c.1.0, moved (Idle a) c.1.0 c.1.1, c.1.2))
      by_entry (Refused a) can c = (c.0, (c.1.0, moved (Refused a) c.1.0 c.1.1, c.1.2))

  module _ (setup : IsSetup scene.setup) (faithful : IsFaithful scene.sealing) (several : 0 < n / 2) (entries : List (JournalEntry B)) (last : Phase) (a : IsAttempt scene results before entries last)
      (best : ℕ) (b : HasBest quorum start best) where
    once : Once quorum
    once = quorum_once n w quorum start ready (picked_of_quorum n w quorum quorum_is)

    abbrev entered_group : GroupState
    entered_group = all_suspected (resting_group start) w quorum

    abbrev turns : ℕ
    turns = turns_after scene results before best

    start_stands : walking.Stands scene results setup faithful w quorum quorum_is.members before a.saves before (resting_group start)
    start_stands = record {
      holds = record { members = λ c lt. refl; saves = λ c. omega arith; switches = λ t. refl; few = omega arith };
      carries = subst (λ (ps : List (Packet B)). AllCarry scene results ps []) (sym a.empty) tt;
      posted = a.rests;
    }

    can : IsPossible scene results (later before entries)
    can = subst (λ (l : List (JournalEntry B)). IsPossible scene results l) (sym (later_is before entries)) a.possible

    done : IsPosted scene results (later before entries)
    done = subst (λ (l : List (JournalEntry B)). IsPosted scene results l) (sym (later_is before entries)) a.posted

    room : IsWithinLimits scene.sealing.size (later before entries)
    room = subst (λ (l : List (JournalEntry B)). IsWithinLimits scene.sealing.size l) (sym (later_is before entries)) a.within

    half : n / 2 ≤ 3
    half = let seven = walking.seven_at_most n setup.group in omega (arith, seven)

    suspicions : Path w quorum entered_group quorum (resting_group start)
    suspicions = suspecting.suspects_path n w quorum start ready several entered_group quorum (resting_group start) once (λ j h. (refl, h)) (Arrives entered_group refl)

    suspicions_count : entered_group.turns ≡ n / 2 + 1
    suspicions_count = let all = suspecting.suspicion_turns w quorum (resting_group start) in let count = quorum_is.count in omega (arith, all, count)

    -- behind the suspicions the logs have one history, so that the view starts
    module _ (first rest : List (JournalEntry B)) (x phase : Phase) (is : entries ≡ first ++ rest) (counted : 0 + count_turns first ≡ entered_group.turns)
        (at_phase : walking.PhaseOf scene results setup faithful w quorum quorum_is.members before a.saves phase []) (stands : walking.Stands scene results setup faithful w quorum quorum_is.members before a.saves (later before first) entered_group) (closes : ClosesTo scene results phase (later before first) rest x) where
      abbrev P1 : List (JournalEntry B)
      P1 = later before first

      split : later before entries ≡ later P1 rest
      split = ap (later before) is ∙ later_append before first rest

      can1 : IsPossible scene results (later P1 rest)
      can1 = subst (λ (l : List (JournalEntry B)). IsPossible scene results l) split can

      done1 : IsPosted scene results (later P1 rest)
      done1 = subst (λ (l : List (JournalEntry B)). IsPosted scene results l) split done

      room1 : IsWithinLimits scene.sealing.size (later P1 rest)
      room1 = subst (λ (l : List (JournalEntry B)). IsWithinLimits scene.sealing.size l) split room

      possible1 : IsPossible scene results P1
      possible1 = possible_under scene results rest P1 can1

      entered : (j : ℕ) → has quorum j ≡ true → (controller_state scene results j P1).vr ≡ in_view (start j) w [] false [] None
      entered j member = stands.holds.members j (quorum_is.members j member) ∙ suspecting.entered_all n w quorum start ready several quorum (resting_group start) once (λ i h. (refl, h)) j member

      is_covered : IsCovered quorum start best
      is_covered = covered scene results setup faithful P1 possible1 w quorum start once (let count = quorum_is.count in omega (arith, count)) quorum_is.members several entered best b

      way : (z : GroupState) × Path w quorum z [] entered_group × IsLast n w quorum start best z
      way = views.path n w quorum start ready (picked_of_quorum n w quorum quorum_is) several best
          (record { member = b.member; better = b.better; agrees = is_covered.agrees; covers = is_covered.covers })

      abbrev z : GroupState
      z = way.0

      turns_are : z.turns + 1 ≡ turns
      turns_are = way.2.turns

      all_counted : count_turns entries ≡ entered_group.turns + count_turns rest
      all_counted = let parts = ap (λ (l : List (JournalEntry B)). count_turns l) is ∙ counts_append first rest in omega (arith, parts, counted)

      -- where it did not start yet
      not_yet : count_turns entries ≤ z.turns → ((answer : ClosingAnswer) → IsEnd (next_move scene results x (later P1 rest)) answer → ⊥) → StartsInTime scene results before entries x best
      not_yet few never = record {
        starts = λ enough. let all = turns_are in absurd (omega (arith, all, few, enough));
        goes_on = λ less answer end. never answer (subst (λ (l : List (JournalEntry B)). IsEnd (next_move scene results x l) answer) (sym (later_is before entries) ∙ split) end);
      }

      -- and where it did
      it_starts : (second more : List (JournalEntry B)) → rest ≡ second ++ more → entered_group.turns + count_turns second ≡ turns → HasStartedIn scene results w quorum start best (later P1 second) →
          ((t : ℕ) → switch_state scene t (later P1 second) ≡ switch_state scene t before) → IsPosted scene results (later P1 second) →
          ClosesTo scene results (after_member w (controller_state scene results (w % n) (later P1 second)) (Draining w quorum)) (later P1 second) more x → StartsInTime scene results before entries x best
      it_starts second more rest_is in_all started unchanged posted goes_then =
          let joined : entries ≡ (first ++ second) ++ more = is ∙ ap (λ (l : List (JournalEntry B)). first ++ l) rest_is ∙ sym (append_assoc first second more) in
          let parts = counts_append first second in
          let whole = ap (λ (l : List (JournalEntry B)). count_turns l) joined in
          let front = turns_first (first ++ second) more in
          record {
            starts = λ enough. record {
              first = first ++ second;
              rest = more;
              joined = joined;
              turns = omega (arith, parts, counted, in_all);
              started = subst (λ (l : List (JournalEntry B)). HasStartedIn scene results w quorum start best l) (sym (later_append before first second) ∙ later_is before (first ++ second)) started;
              covered = is_covered;
              unchanged = λ t. subst (λ (l : List (JournalEntry B)). switch_state scene t l ≡ switch_state scene t before) (sym (later_append before first second) ∙ later_is before (first ++ second)) (unchanged t);
              posted = subst (λ (l : List (JournalEntry B)). IsPosted scene results l) (sym (later_append before first second) ∙ later_is before (first ++ second)) posted;
              phase = Draining w quorum;
              drains = Drains;
              goes_on =
                  subst (λ (l : List (JournalEntry B)). ClosesTo scene results (after_member w (controller_state scene results (w % n) l) (Draining w quorum)) l more x)
                  (sym (later_append before first second) ∙ later_is before (first ++ second)) goes_then;
            };
            goes_on = λ less answer end. absurd (omega (arith, parts, counted, in_all, whole, front, less));
          }

      -- the last turn, or what lacks of it
      module _ (second more : List (JournalEntry B)) (now : Phase) (rest_is : rest ≡ second ++ more) (so_far : entered_group.turns + count_turns second ≡ z.turns) (at_then : walking.PhaseOf scene results setup faithful w quorum quorum_is.members before a.saves now [])
          (there : walking.Stands scene results setup faithful w quorum quorum_is.members before a.saves (later P1 second) z) (goes_then : ClosesTo scene results now (later P1 second) more x) where
        abbrev P2 : List (JournalEntry B)
        P2 = later P1 second

        split2 : later P1 rest ≡ later P2 more
        split2 = ap (later P1) rest_is ∙ later_append P1 second more

        last_part : (((answer : ClosingAnswer) → IsEnd (next_move scene results x (later P2 more)) answer → ⊥) × (more ≡ [])) ⊎
            starting.Begun scene results setup faithful w quorum quorum_is.members before a.saves z start best way.2 (ready (w % n) quorum_is.primary) quorum_is.primary (ready best b.member).is_one P2 more x → StartsInTime scene results before entries x best
        last_part (inl none) =
            let parts = ap (λ (l : List (JournalEntry B)). count_turns l) rest_is ∙ counts_append second more in
            let empty : count_turns more ≡ 0 = ap (λ (l : List (JournalEntry B)). count_turns l) none.1 in
            let all = all_counted in
            not_yet (omega (arith, parts, empty, all, so_far)) (λ answer end. none.0 answer (subst (λ (l : List (JournalEntry B)). IsEnd (next_move scene results x l) answer) split2 end))
        last_part (inr begun) =
            let parts = counts_append second begun.first in
            let one = begun.one in
            let all = turns_are in
            it_starts (second ++ begun.first) begun.rest (rest_is ∙ ap (λ (l : List (JournalEntry B)). second ++ l) begun.joined ∙ sym (append_assoc second begun.first begun.rest))
            (omega (arith, parts, one, all, so_far))
            (subst (λ (l : List (JournalEntry B)). HasStartedIn scene results w quorum start best l) (sym (later_append P1 second begun.first)) begun.started)
            (λ t. subst (λ (l : List (JournalEntry B)). switch_state scene t l ≡ switch_state scene t before) (sym (later_append P1 second begun.first)) (begun.unchanged t))
            (subst (λ (l : List (JournalEntry B)). IsPosted scene results l) (sym (later_append P1 second begun.first)) begun.posted)
            (subst (λ (l : List (JournalEntry B)). ClosesTo scene results (after_member w (controller_state scene results (w % n) l) (Draining w quorum)) l begun.rest x) (sym (later_append P1 second begun.first)) begun.goes_on)

        at_last : StartsInTime scene results before entries x best
        at_last =
            last_part (starting.begins scene results setup faithful w quorum quorum_is.members before a.saves z start best way.2 (ready (w % n) quorum_is.primary) quorum_is.primary (ready best b.member).is_one P2 there more x now at_then goes_then
            (subst (λ (l : List (JournalEntry B)). IsPossible scene results l) split2 can1) (subst (λ (l : List (JournalEntry B)). IsPosted scene results l) split2 done1)
            (subst (λ (l : List (JournalEntry B)). IsWithinLimits scene.sealing.size l) split2 room1))

      second_part : walking.Outcome scene results setup faithful w quorum quorum_is.members before a.saves z P1 entered_group rest x → StartsInTime scene results before entries x best
      second_part (walking.Goes never few) = let all = all_counted in not_yet (omega (arith, all, few)) never
      second_part (walking.Reaches second more now rest_is so_far at_then there goes_then) = at_last second more now rest_is so_far at_then there goes_then

      behind_suspicions : StartsInTime scene results before entries x best
      behind_suspicions =
          second_part (walking.goes scene results setup faithful w quorum quorum_is.members before a.saves z
          (let all = turns_are in let few = few_turns (n / 2) (lacks (w % n) start best) half in omega (arith, all, few)) rest P1 x phase [] entered_group at_phase (walking.Rests stands) way.1 closes can1 done1 room1)

    first_part : (x : Phase) → walking.Outcome scene results setup faithful w quorum quorum_is.members before a.saves entered_group before (resting_group start) entries x → StartsInTime scene results before entries x best
    first_part x (walking.Goes never few) =
        let count = suspicions_count in
        let more = long (n / 2) (lacks (w % n) start best) several in
        record {
          starts = λ enough. absurd (omega (arith, count, more, few, enough));
          goes_on = λ less answer end. never answer (subst (λ (l : List (JournalEntry B)). IsEnd (next_move scene results x l) answer) (sym (later_is before entries)) end);
        }
    first_part x (walking.Reaches first rest phase is counted at_phase stands closes) = behind_suspicions first rest x phase is counted at_phase stands closes

    from_suspicions : (x : Phase) → ClosesTo scene results (Suspecting w quorum quorum) before entries x → StartsInTime scene results before entries x best
    from_suspicions x closes =
        first_part x (walking.goes scene results setup faithful w quorum quorum_is.members before a.saves entered_group (let count = suspicions_count in let few = half in omega (arith, count, few)) entries before x
        (Suspecting w quorum quorum) quorum (resting_group start) (walking.Still quorum) (walking.Rests start_stands) suspicions closes can done room)

    pub in_time : StartsInTime scene results before entries last best
    in_time = by_entries entries refl
      where
        by_entries : (l : List (JournalEntry B)) → entries ≡ l → StartsInTime scene results before entries last best
        by_entries (e ∷ rest) is =
            from_suspicions last
            (closes_from entries last a.empty e rest is a.rests can (never_posts scene results before a.rests)
            (λ h. possible_under scene results rest (e ∷ before) (subst (λ (l : List (JournalEntry B)). IsPossible scene results (later before l)) is h)) a.closes)
        by_entries [] is =
            let still : last ≡ Losing = subst (λ (l : List (JournalEntry B)). ClosesTo scene results Losing before l last) is a.closes in
            let r = from_suspicions (Suspecting w quorum quorum) (subst (λ (l : List (JournalEntry B)). ClosesTo scene results (Suspecting w quorum quorum) before l (Suspecting w quorum quorum)) (sym is) refl) in
            let none : count_turns entries ≡ 0 = ap (λ (l : List (JournalEntry B)). count_turns l) is in
            let more = long (n / 2) (lacks (w % n) start best) several in
            record {
              starts = λ enough. absurd (omega (arith, none, more, enough));
              goes_on = λ less answer end. r.goes_on less answer
                  (subst (λ (l : List (JournalEntry B)). IsEnd (next_move scene results (Suspecting w quorum quorum) (reverse l ++ before)) answer) (sym is)
                  (subst (λ (v : ClosingMove B). IsEnd v answer) (first_move a.empty)
                  (subst (λ (y : Phase). IsEnd (next_move scene results y before) answer) still
                  (subst (λ (l : List (JournalEntry B)). IsEnd (next_move scene results last (reverse l ++ before)) answer) is end))));
            }
