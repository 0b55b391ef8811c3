-- An attempt of a closing takes no more turns than the sharper bound says.
use Rattle.std.proofs.Common.{◌≡◌, ◌≤◌, ◌<◌, inl, inr, ℕ, zero, suc, ◌+◌, ◌-◌, ◌*◌, ◌/◌, ◌%◌, Bool, true, false, List, [], ◌∷◌, ◌++◌, map, length, take, drop, filter, refl, sym, ◌∙◌, ap, subst, arith}
use Rattle.std.specs.Prelude.{if◌then◌else◌, nat_lt, reverse, sum_by, slice_index_or, Option, Some, None}
use Rattle.std.specs.List.{range_with_len}
use Rattle.std.proofs.Math.Path.{fun_ext}
use Rattle.std.proofs.Math.Seq.{drop-append_seam}
use Rattle.std.proofs.lemmas.Bool.{cases_lt, le-ltb}
use Rattle.list_facts.specs.Lists.{IsIn, IsPrefix}
use Rattle.list_facts.proofs.Prefixes.{front_prefix, prefix_trans}
use Rattle.of_types.specs.declared.message.Event.{Event}
use Rattle.of_types.specs.Lives.{count_in}
use Rattle.of_types.specs.Setups.{IsSetup}
use Rattle.journal.specs.declared.journal.JournalEntry.{JournalEntry}
use Rattle.journal.specs.declared.journal.SaveResult.{SaveResult}
use Rattle.journal.specs.Turns.{IsWithinLimits}
use Rattle.vr_log.specs.declared.entry.Entry.{Entry}
use Rattle.vr_log.specs.declared.entry.LogFull.{LogFull}
use Rattle.vr_log.specs.declared.state.VrState.{VrState}
use Rattle.vr_log.specs.Log.{processed, received}
use Rattle.controller_moves.proofs.ControllerLaws.Logs.{processed_prefix}
use Rattle.event_buffer.specs.Buffer.{next_number}
use Rattle.two_stage_log.specs.Counts.{processed_of}
use Rattle.run_laws.proofs.OnceLaws.Growing.{take_prefix, take_same}
use Rattle.of_switch.specs.State.{SwitchState, life_of}
use Rattle.group_controller.specs.State.{ControllerState, committed}
use Rattle.run_spec.specs.Bound.{closing_members, commands_left, entries_left, greatest_of, place_known, sharp_bound, waiting_at}
use Rattle.run_spec.specs.States.{Scene, IsFaithful}
use Rattle.run_spec.specs.Legal.{IsPossible}
use Rattle.run_spec.specs.Committed.{controller_state, decided, switch_state}
use Rattle.run_spec.specs.Closing.{Phase, ClosesTo, count_turns, met_by}
use Rattle.run_laws.proofs.RunAgreement.Groups.{odd_law}
use Rattle.run_laws.proofs.Laws.{lasting_law}
use Rattle.closing_laws.specs.Following.{LeadsFrom, Start}
use Rattle.closing_laws.specs.Measure.{commands_from, logged_held}
use Rattle.closing_laws.specs.Quorum.{has}
use Rattle.closing_laws.specs.Serving.{AreFew, IsOlder}
use Rattle.closing_laws.specs.Starts.{IsAttempt, Starts, members_at, quorum_after, turns_after, view_after}
use Rattle.closing_laws.specs.Views.{HasBest, turns_to_start}
use Rattle.closing_laws.proofs.Draining.Behind as behind
use Rattle.closing_laws.proofs.Draining.Emptied as emptied
use Rattle.closing_laws.proofs.Draining.Opened as opened_by
use Rattle.closing_laws.proofs.Draining.Standing as standing
use Rattle.closing_laws.proofs.Journal.Posting.{later}
use Rattle.closing_laws.proofs.Lists.Picked.{IsPicked, picked_of_quorum}
use Rattle.closing_laws.proofs.Measure.KnownEntries.{commands_within, longest_within, place_below}
use Rattle.closing_laws.proofs.Measure.LeftEvents.{unprocessed_left}
use Rattle.closing_laws.proofs.Measure.OpenedMeasure as measure
use Rattle.closing_laws.proofs.Measure.PrimaryLowers.{known_of, place_of}
use Rattle.closing_laws.proofs.Pool.Rooms as rooms
use Rattle.closing_laws.proofs.Primary.Growth.{processed_beyond}
use Rattle.closing_laws.proofs.Start.AloneLogs.{decided_before}
use Rattle.closing_laws.proofs.Start.Begun as begun
use Rattle.closing_laws.proofs.Start.Begun.{counts_append}
use Rattle.closing_laws.proofs.Start.BestBegins.{decided_in_best}
use Rattle.closing_laws.proofs.Start.BestLogs.{has_best}
use Rattle.closing_laws.proofs.Start.InTime.{in_time_law}
use Rattle.closing_laws.proofs.Truths.Facts.{cleared, known}
use Rattle.closing_laws.proofs.Truths.Generations.{generations_older}
use Rattle.vr_log.proofs.Logs.{length_is}

-- the bound in a group of this size, by what the parts are within: the turns to the start, those behind it, and of these the events that
-- do not stand as processed, and those that do beyond what is known. An event that is logged as it starts costs less than one that is not
abbrev IsBounded : ℕ → Type 0
IsBounded n = (switches waiting logged over entries commands first fetched rest events beyond : ℕ) →
    first ≤ (n / 2) * (n / 2) + 3 * (n / 2) + 1 + 2 * fetched → fetched ≤ 1 → fetched ≤ n / 2 →
    rest + (4 * (n / 2) + 1) * logged ≤ 2 * (n / 2) + 2 * switches + (2 * (n / 2) + 1) * events + beyond + (4 * (n / 2) + 3) * waiting + 3 * commands →
    events ≤ logged + over + entries → beyond ≤ entries →
    first + rest ≤ sharp_bound n switches (waiting + over) entries commands

bounded_of : (n k : ℕ) → k < 4 → slice_index_or (1 ∷ 3 ∷ 5 ∷ 7 ∷ []) k n ≡ n → IsBounded n
bounded_of n zero l e = subst IsBounded e (λ switches waiting logged over entries commands first fetched rest events beyond a b c d e f. omega (arith, a, b, c, d, e, f))
bounded_of n (suc zero) l e = subst IsBounded e (λ switches waiting logged over entries commands first fetched rest events beyond a b c d e f. omega (arith, a, b, c, d, e, f))
bounded_of n (suc (suc zero)) l e = subst IsBounded e (λ switches waiting logged over entries commands first fetched rest events beyond a b c d e f. omega (arith, a, b, c, d, e, f))
bounded_of n (suc (suc (suc zero))) l e = subst IsBounded e (λ switches waiting logged over entries commands first fetched rest events beyond a b c d e f. omega (arith, a, b, c, d, e, f))
bounded_of n (suc (suc (suc (suc k)))) l e = absurd (omega (arith, l))

-- the turns of a fetch come in groups of several alone
abbrev once : Bool → ℕ
once fetches = if fetches then 1 else 0

soon : (f : ℕ) (fetches : Bool) → turns_to_start f fetches ≤ f * f + 3 * f + 1 + 2 * once fetches
soon f true = omega arith
soon f false = omega arith

once_least : (fetches : Bool) → once fetches ≤ 1
once_least true = omega arith
once_least false = omega arith

-- what was decided begins what is
decided_grows : {B : Type 0} (scene : Scene B) (results : List (List SaveResult)) → IsSetup scene.setup → IsFaithful scene.sealing → (more P : List (JournalEntry B)) → IsPossible scene results (more ++ P) →
    IsPrefix (decided scene results P) (decided scene results (more ++ P))
decided_grows {B = B} scene results setup faithful more P possible =
    let all : length more + 0 ≡ length more = omega arith in
    let back : drop (length more + 0) (more ++ P) ≡ P = ap (λ (k : ℕ). drop k (more ++ P)) all ∙ drop-append_seam more P in
    subst (λ (l : List (JournalEntry B)). IsPrefix (decided scene results l) (decided scene results (more ++ P))) back (lasting_law scene results (more ++ P) setup faithful possible (length more) 0)

-- switches that took no turn hold what they held
pub waiting_same : {B : Type 0} (scene : Scene B) (P Q : List (JournalEntry B)) (k : ℕ) → ((t : ℕ) → switch_state scene t P ≡ switch_state scene t Q) →
    sum_by (λ t. waiting_at (switch_state scene t P)) (range_with_len 0 k) ≡ sum_by (λ t. waiting_at (switch_state scene t Q)) (range_with_len 0 k)
waiting_same scene P Q k same = ap (λ (sw : ℕ → SwitchState). sum_by (λ t. waiting_at (sw t)) (range_with_len 0 k)) (fun_ext same)

module _ {B : Type 0} (scene : Scene B) (results : List (List SaveResult)) (setup : IsSetup scene.setup) (faithful : IsFaithful scene.sealing) (few : AreFew scene.kinds scene.setup)
    (before entries : List (JournalEntry B)) (last : Phase) (a : IsAttempt scene results before entries last) where
  abbrev n : ℕ
  n = scene.setup.controllers

  abbrev w : ℕ
  w = view_after scene results before

  abbrev p : ℕ
  p = w % n

  abbrev quorum : List ℕ
  quorum = quorum_after scene results before

  abbrev members : ℕ → VrState
  members = members_at scene results before

  abbrev switches : ℕ → SwitchState
  switches s = switch_state scene s before

  abbrev was : List Entry
  was = decided scene results before

  -- what is counted: the events that switches hold with the ports that they remember, the open events of lives that are over, and more
  abbrev pub waiting : ℕ
  waiting = sum_by (λ s. waiting_at (switches s)) (range_with_len 0 (length scene.setup.ports))

  abbrev pub over : ℕ
  over = length (filter (λ e. nat_lt e.life (life_of (switches e.switch))) (drop (processed was) (received was)))

  abbrev more : ℕ
  more = entries_left (closing_members scene results before)

  abbrev commands : ℕ
  commands = commands_left scene (decided scene results (reverse entries ++ before)) (place_known (closing_members scene results before))

  abbrev pub Bounded : Type 0
  Bounded = count_turns entries ≤ sharp_bound n (length scene.setup.ports) (waiting + over) more commands

  bounded : IsBounded n
  bounded = let g = setup.group in bounded_of n g.0 g.1 g.2

  -- a member that is alone in its group fetches nothing
  abbrev fetches : ℕ → Bool
  fetches best = nat_lt (members p).commit (members best).commit

  fetched_few : (best : ℕ) → has quorum best ≡ true → once (fetches best) ≤ n / 2
  fetched_few best chosen = by_group (n / 2) refl
    where
      by_group : (f : ℕ) → n / 2 ≡ f → once (fetches best) ≤ f
      by_group zero none =
          let size = (odd_law scene.setup setup).1 in
          let is = begun.quorum_is scene results before a.most in
          let own = is.members best chosen in
          let first = is.members p is.primary in
          let same : best ≡ p = omega (arith, size, none, own, first) in
          let never : fetches best ≡ false = ap (λ (b : ℕ). nat_lt (members p).commit (members b).commit) same ∙ le-ltb (members p).commit (members p).commit (omega arith) in
          let count = ap once never in
          omega (arith, count)
      by_group (suc f) some = let one = once_least (fetches best) in omega (arith, one)

  -- where nothing comes behind the start
  bounded_first : (first : ℕ) (best : ℕ) → has quorum best ≡ true → first ≤ turns_after scene results before best → first ≤ sharp_bound n (length scene.setup.ports) (waiting + over) more commands
  bounded_first first best chosen few_turns =
      let early = soon (n / 2) (fetches best) in
      let all = bounded (length scene.setup.ports) waiting 0 over more commands first (once (fetches best)) 0 0 0 (omega (arith, few_turns, early)) (once_least (fetches best)) (fetched_few best chosen)
      (omega arith) (omega arith) (omega arith) in
      omega (arith, all)

  module _ (best : ℕ) (is_best : HasBest quorum members best) (starts : Starts scene results before entries last best) where
    abbrev begins : List (JournalEntry B)
    begins = behind.begins scene results setup faithful few before entries last a best is_best starts

    abbrev c : ControllerState
    c = behind.c scene results setup faithful few before entries last a best is_best starts

    abbrev start : Start
    start = behind.start scene results setup faithful few before entries last a best is_best starts

    abbrev small : (k : ℕ) → has quorum k ≡ true → k < n
    small = behind.small scene results setup faithful few before entries last a best is_best starts

    abbrev closing : IsPicked n w quorum
    closing = behind.picked scene results setup faithful few before entries last a best is_best starts

    possible_first : IsPossible scene results before
    possible_first = behind.possible_first scene results setup faithful few before entries last a best is_best starts

    abbrev older : (t : ℕ) → t < length scene.setup.ports → IsOlder (switch_state scene t before).fence.generation w
    older = generations_older scene results setup faithful before (behind.possible_first scene results setup faithful few before entries last a best is_best starts) a.most

    abbrev Promised : List (JournalEntry B) → Type 0
    Promised P = standing.HavePromised scene results w quorum start P

    possible_begin : IsPossible scene results begins
    possible_begin = opened_by.possible scene results setup faithful few before entries last best a starts is_best.member small older

    promised : Promised begins
    promised = opened_by.promised scene results setup faithful few before entries last best a starts is_best.member small older

    truth : rooms.AreTrue scene.kinds scene.setup c (λ s. switch_state scene s begins)
    truth = emptied.truths scene results setup faithful few w quorum closing before a.saves start begins possible_begin promised

    abbrev leader : VrState
    leader = measure.leader scene results setup faithful few before entries last best a starts is_best.member small older

    events_same : received c.vr.log ≡ received leader.log
    events_same = measure.events_same scene results setup faithful few before entries last best a starts is_best.member small older

    -- what the members knew as committed was decided
    place_decided : place_known (closing_members scene results before) ≤ length was
    place_decided = place_below scene results before a.most (length was) (λ j member. known scene results setup faithful before possible_first j (small j member))

    place_low : place_known (closing_members scene results before) ≤ start.known
    place_low = place_below scene results before a.most start.known (measure.knows scene results setup faithful few before entries last best a starts is_best.member small older)

    known_there : start.known ≤ leader.commit
    known_there = measure.known_within scene results setup faithful few before entries last best a starts is_best.member small older

    longest : length leader.log ≤ greatest_of (map (λ x. length x.vr.log) (closing_members scene results before))
    longest = longest_within scene results before a.most best is_best.member

    was_begins : IsPrefix was c.vr.log
    was_begins =
        prefix_trans (decided_grows scene results setup faithful (reverse starts.first) before possible_begin)
        (emptied.led_by scene results setup faithful few w quorum closing before a.saves start begins possible_begin promised).0

    genuine : (e : Event) → IsIn e (received c.vr.log) → (e.switch < length scene.setup.ports) × (e.life ≤ life_of (switches e.switch))
    genuine e among =
        let g = emptied.logged_by scene results setup faithful few w quorum closing before a.saves start begins possible_begin promised e among in
        (g.0, subst (λ (x : SwitchState). e.life ≤ life_of x) (starts.unchanged e.switch) g.1)

    logged : (s : ℕ) → s < length scene.setup.ports → count_in s (life_of (switches s)) (received c.vr.log) ≤ next_number (switches s).buffer
    logged s there = subst (λ (x : SwitchState). count_in s (life_of x) (received c.vr.log) ≤ next_number x.buffer) (starts.unchanged s) (truth.each s there).logged

    gone : (s : ℕ) → s < length scene.setup.ports → (switches s).buffer.cleared ≤ processed_of was s (life_of (switches s))
    gone s there = cleared scene results setup faithful before possible_first s there

    -- the events of the log that do not stand there as processed
    abbrev events : ℕ
    events = length (received leader.log) - processed leader.log

    -- those of its events that switches hold
    abbrev holding : ℕ
    holding = sum_by (λ s. logged_held leader.log s (switches s)) (range_with_len 0 (length scene.setup.ports))

    -- its log begins with what was decided
    was_in_front : IsPrefix was leader.log
    was_in_front = elim (cases_lt 0 (n / 2)) [
      | inl some ↦ decided_in_best scene results setup faithful before possible_first some w quorum closing (begun.ready scene results before a.most) best is_best
      | inr none ↦
          let size = (odd_law scene.setup setup).1 in
          decided_before scene results setup faithful (omega (arith, size, none)) before possible_first best (small best is_best.member) (begun.ready scene results before a.most best is_best.member).up
    ]

    events_few : events ≤ holding + over + more
    events_few =
        let some_left = unprocessed_left (length scene.setup.ports) switches leader.log was was_in_front
        (λ e among. genuine e (subst (λ (es : List Event). IsIn e es) (sym events_same) among)) gone in
        let fewer = processed_prefix was_in_front in
        let x = length_is leader.log in
        let y = length_is was in
        let far = longest in
        let place = place_decided in
        omega (arith, some_left, fewer, x, y, far, place)

    beyond_few : processed leader.log - processed (take leader.commit leader.log) ≤ more
    beyond_few =
        let beyond = processed_beyond leader.commit leader.log in
        let far = longest in
        let place = place_low in
        let there = known_there in
        omega (arith, beyond, far, place, there)

    -- the commands of what is committed behind it
    abbrev ends : List (JournalEntry B)
    ends = later begins starts.rest

    whole : reverse entries ++ before ≡ ends
    whole = behind.whole scene results setup faithful few before entries last a best is_best starts

    possible_end : IsPossible scene results ends
    possible_end = behind.possible scene results setup faithful few before entries last a best is_best starts

    within_then : IsWithinLimits scene.sealing.size ends
    within_then = subst (λ (l : List (JournalEntry B)). IsWithinLimits scene.sealing.size l) whole a.within

    commands_few : c.full ≡ None → Promised ends → commands_from scene.kinds scene.setup (controller_state scene results p ends) (place_of start) ≤ commands
    commands_few room kept =
        let now : ControllerState = controller_state scene results p ends in
        let led = emptied.led_by scene results setup faithful few w quorum closing before a.saves start ends possible_end kept in
        let is : decided scene results (reverse entries ++ before) ≡ decided scene results ends = ap (decided scene results) whole in
        let front : IsPrefix (committed now) (decided scene results ends) =
        subst (λ (l : List Entry). IsPrefix l (decided scene results ends)) (sym (take_same now.vr.commit led.1 led.0)) (front_prefix now.vr.commit (decided scene results ends)) in
        let lead : LeadsFrom start c.vr = (opened_by.lead_now scene results setup faithful few before entries last best a starts is_best.member small older
        (emptied.truths scene results setup faithful few w quorum closing before a.saves start) room) in
        let place = place_known (closing_members scene results before) in
        let later_is : take place (decided scene results (reverse entries ++ before)) ≡ take place was =
        take_same place place_decided (decided_grows scene results setup faithful (reverse entries) before a.possible) in
        let known_is = known_of start c.vr lead in
        let early = processed_prefix (take_prefix place start.known place_low was_begins) in
        let a1 = ap processed later_is in
        let a2 = ap processed known_is in
        commands_within scene.kinds scene.setup now (decided scene results (reverse entries ++ before)) (place_of start) (processed (take place (decided scene results (reverse entries ++ before))))
        (subst (λ (l : List Entry). IsPrefix (committed now) l) (sym is) front) (omega (arith, early, a1, a2))

    first_counted : count_turns entries ≡ turns_after scene results before best + count_turns starts.rest
    first_counted =
        let parts = ap (λ (l : List (JournalEntry B)). count_turns l) starts.joined ∙ counts_append starts.first starts.rest in
        let first = starts.turns in
        omega (arith, parts, first)

    goes_on : ClosesTo scene results (met_by c.full starts.phase) begins starts.rest last
    goes_on = behind.goes_on scene results setup faithful few before entries last a best is_best starts

    by_full : (o : Option LogFull) → c.full ≡ o → Bounded
    by_full None is =
        let counted = emptied.goes scene results setup faithful few w quorum closing before a.saves start starts.rest begins last within_then starts.phase starts.drains
        (behind.opened scene results setup faithful few before entries last a best is_best starts is) (subst (λ (o : Option LogFull). ClosesTo scene results (met_by o starts.phase) begins starts.rest last) is goes_on) possible_end in
        let turns = counted.counted in
        let left = behind.opened_left scene results setup faithful few before entries last a best is_best starts is in
        let value = measure.start_left scene results setup faithful few before entries last best a starts is_best.member small older (λ t there. (truth.each t there).cleared) (λ t there. (truth.each t there).logged) in
        let unchanged = ap (λ (k : ℕ). (4 * (n / 2) + 3) * k) (waiting_same scene begins before (length scene.setup.ports) starts.unchanged) in
        let holding_same = ap (λ (sw : ℕ → SwitchState). (4 * (n / 2) + 1) * sum_by (λ t. logged_held leader.log t (sw t)) (range_with_len 0 (length scene.setup.ports))) (fun_ext starts.unchanged) in
        let more_commands = commands_few is counted.promised in
        let first = first_counted in
        let all = bounded (length scene.setup.ports) waiting holding over more commands (turns_after scene results before best) (once (fetches best)) (count_turns starts.rest) events
        (processed leader.log - processed (take leader.commit leader.log)) (soon (n / 2) (fetches best)) (once_least (fetches best)) (fetched_few best is_best.member)
        (omega (arith, turns, left, value, unchanged, holding_same, more_commands)) events_few beyond_few in
        omega (arith, first, all)
    by_full (Some limit) is =
        let none = emptied.no_turn scene results setup faithful few w quorum closing before a.saves start limit begins starts.rest last
        (subst (λ (o : Option LogFull). ClosesTo scene results (met_by o starts.phase) begins starts.rest last) is goes_on) in
        let first = first_counted in
        bounded_first (count_turns entries) best is_best.member (omega (arith, first, none))

    pub started_quick : Bounded
    started_quick = by_full c.full refl

  picked : IsPicked n w quorum
  picked = picked_of_quorum n w quorum (begun.quorum_is scene results before a.most)

  pub attempt_turns : Bounded
  attempt_turns =
      let b = has_best members quorum (let count = picked.count in omega (arith, count)) in
      let s = in_time_law scene results before entries last b.0 setup faithful a b.1 in
      elim (cases_lt (count_turns entries) (turns_after scene results before b.0)) [
        | inl less ↦ bounded_first (count_turns entries) b.0 b.1.member (omega (arith, less))
        | inr enough ↦ started_quick b.0 b.1 (s.starts enough)
      ]
