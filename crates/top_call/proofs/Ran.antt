-- What the run of a scenario is, once it was played.
use Rattle.std.proofs.Common.{◌≡◌, ◌≤◌, ◌<◌, ◌⊎◌, ℕ, zero, suc, ◌+◌, List, [], ◌∷◌, ◌++◌, length, map, take, refl, sym, ◌∙◌, ap, subst, arith}
use Rattle.std.specs.Prelude.{◌-◌, ◌^◌, count_by, reverse, slice_get, slice_index_or, Some, IfOk, IfErr, Result, Ok, Err}
use Rattle.std.specs.List.{AllByRecursion, range_with_len}
use Rattle.std.proofs.lemmas.List.{length-map, reverse-reverse}
use Rattle.std.proofs.lemmas.Option.{slice_get_within}
use Rattle.of_types.specs.declared.setup.Setup.{Setup}
use Rattle.journal.specs.declared.journal.JournalEntry.{JournalEntry}
use Rattle.journal.specs.declared.journal.SaveResult.{SaveResult}
use Rattle.journal.specs.declared.journal.SaveResult.TheVariants.{Saved}
use Rattle.journal.specs.declared.journal.Turn.{Turn}
use Rattle.journal.specs.Pool.{past}
use Rattle.journal.specs.Turns.{IsWithinLimits}
use Rattle.journal.proofs.All.{all_get}
use Rattle.group_controller.specs.Turns.{Controlling, state_of, pair_in}
use Rattle.of_switch.specs.State.{SwitchState}
use Rattle.of_types.specs.Setups.{IsSetup}
use Rattle.run_laws.proofs.Told.{told_law}
use Rattle.run_laws.proofs.Laws.{agreement_law, lasting_law, once_law, fence_law, valid_law}
use Rattle.run_spec.specs.Committed.{count_up, kept, kept_of, members_up, switch_state}
use Rattle.run_spec.specs.Legal.{IsPossible, results_of}
use Rattle.playing.specs.Manners.{Manner, In_order, Apart, Begins, FollowsManner}
use Rattle.run_spec.specs.Closing.{ClosingAnswer, Closes, count_turns, majority}
use Rattle.run_spec.specs.Closing as schedule
use Rattle.run_spec.specs.States.{Scene, controller_at}
use Rattle.journal.specs.declared.journal.Actor.TheVariants as actor
use Rattle.journal.specs.Part.{part}
use Rattle.run_spec.specs.Bodies.{byte_bodies}
use Rattle.run_spec.proofs.Bodies.{bytes_again}
use Rattle.run_spec.proofs.Pasts.{from_some}
use Rattle.run_spec.proofs.Group.{closes_by_group, first_same, first_saved, follows_same, named_both, possible_same}
use Rattle.run_spec.proofs.Playing.{IsWholeRun, all_saved, one_journal, the_one_journal}
use Rattle.journal.specs.declared.wire.Stop.{Stop}
use Rattle.journal.specs.declared.wire.Stop.TheVariants.{OutOfMemory, JournalFull}
use Rattle.journal.specs.Stables.{Saving}
use Rattle.running.specs.declared.run.Played.{Played}
use Rattle.running.specs.Threads.{IsLeftLegal}
use Rattle.top_call.specs.declared.sim.Output.TheVariants as told_as
use Rattle.world.specs.World.{AreMore, Holds, IsMember, Keeps, PairsStand, StartsAs, Worlding, is_failed, results_in, scene_in}
use Rattle.world.proofs.Growing.{no_more}
use Rattle.world.proofs.Places.{results_at}
use Rattle.closing.specs.declared.closed.ClosingOutcome.{ClosingOutcome}
use Rattle.closing.specs.declared.closed.ClosingOutcome.TheVariants as closed
use Rattle.closing.specs.Closing.{HasMajority, HasReason, IsBounded, closing_answer_of}
use Rattle.closing.proofs.Lists.{map_range}
use Rattle.closing.proofs.Parts.{few_members}
use Rattle.vr_log.specs.declared.entry.LogFull.{LogFull}
use Rattle.app_core.specs.Law.{AppLaw}
use Rattle.closing_laws.specs.Ends.{HasRested}
use Rattle.closing_laws.specs.Starts.{SavesSucceed}
use Rattle.closing_laws.proofs.Truths.Kept.{kept_law}
use Rattle.closing.proofs.Turned.{past_joined}
use Rattle.closing.proofs.Worlds.{Runs, states_are}
use Rattle.scenario.specs.declared.scenario.Scenario.{Scenario}
use Rattle.report.specs.declared.record.Record.{Record}
use Rattle.report.specs.Fits.{FitsRecord}
use Rattle.report.specs.Writable.{IsWritable}
use Rattle.world_record.specs.Shows.{Shows, committed_at, told_by, told_of}
use Rattle.playing.specs.Played.{HaltsAs, HasPlayed, RunStops}
use Rattle.top_call.specs.declared.sim.Output.{Output}
use Rattle.top_call.specs.Play.{AreFresh, IfDone, IfReport, StopsAs, ending_by, told_text}
use Rattle.journal.specs.Actors.{actor_of, IsActor}
use Rattle.top_call.proofs.Recorded.{follow_lines, one_record, told_writable}
use Rattle.top_call.specs.declared.ending.Ending.{Ending}
use Rattle.top_call.specs.Ending.{EndsRun}
use Rattle.top_call.specs.Runs.{AreSaved, HasRun, IfInOrder, IsDone, IsLawful, IsLeft, IsOverfull, IsRun, IsTheOne, IsRunUnposted, StableTells, StablesTell, scene_for}
use Rattle.top_call.proofs.Playing.{rest_is, within_journal}

-- of the first stables
pub there_is : {X : Type 0} (xs : List X) (i : ℕ) → i < length xs → (x : X) × (slice_get xs i ≡ Some x)
there_is [] i less = absurd (omega (arith, less))
there_is (x ∷ xs) zero less = (x, refl)
there_is (x ∷ xs) (suc i) less = there_is xs i (omega (arith, less))

pub fresh_pairs : {A W : Type 0} (law : AppLaw A) (saving : Saving W) (stables : List W) (setup : Setup) (w : Worlding (List ℕ) A) (kinds : List ℕ) → AreFresh saving stables → StartsAs setup w →
    Holds law byte_bodies w kinds → PairsStand saving stables w.controllers
fresh_pairs law saving stables setup w kinds fresh starts holds c x found =
    let within = slice_get_within w.controllers c x found in
    let group = holds.run.group in
    let few = few_members (scene_in byte_bodies w kinds) w holds.run in
    let count = fresh.count in
    let s = there_is stables c (omega (arith, within, few, count, group)) in
    (s.0, s.1, all_get (λ stable. saving.pair stable ≡ (0, 0)) stables c s.0 fresh.each s.1 ∙ sym (starts.pairs c x found))

-- one past is that of one journal
one_past : {B : Type 0} (a b : List (JournalEntry B)) → past a ≡ past b → a ≡ b
one_past a b same = sym (reverse-reverse a) ∙ ap (λ l. reverse l) same ∙ reverse-reverse b

none_left : {X : Type 0} (xs : List X) → length xs ≡ 0 → xs ≡ []
none_left [] h = refl
none_left (x ∷ xs) h = cc

-- the laws hold of each run
is_lawful : (kinds : List ℕ) (scenario : Scenario) (results : List (List SaveResult)) (entries : List (JournalEntry (List ℕ))) → IsSetup scenario.setup →
    IsPossible (scene_for kinds scenario) results entries → IsLawful (scene_for kinds scenario) results entries
is_lawful kinds scenario results entries setup possible =
    let scene = scene_for kinds scenario in
    record {
      agreed = agreement_law scene results entries setup bytes_again possible;
      logged = valid_law scene results entries setup bytes_again possible;
      exactly_once = once_law scene results entries setup bytes_again possible;
      fenced = fence_law scene results entries setup bytes_again possible;
      lasting = lasting_law scene results entries setup bytes_again possible;
      kept = kept_law scene entries setup;
    }

-- no save was made before
unsaved_at : {A : Type 0} (law : AppLaw A) (scenario : Scenario) (kinds : List ℕ) (start : Worlding (List ℕ) A) → StartsAs scenario.setup start → Holds law byte_bodies start kinds →
    (c : ℕ) (x : Controlling A) → c < scenario.setup.controllers → slice_get start.controllers c ≡ Some x → x.results ≡ []
unsaved_at law scenario kinds start begins holds c x there found =
    let scene = scene_in byte_bodies start kinds in
    let low : c < start.setup.controllers = subst (λ (s : Setup). c < s.controllers) (sym begins.setup_is) there in
    none_left x.results (ap length (sym (results_at start.controllers c x found)) ∙ holds.run.legal.saves c low
    ∙ ap (λ l. (controller_at scene (results_of (results_in start.controllers) c) c (part (actor.Controller c) (past l))).saves) begins.journal)

module _ {A W : Type 0} (law : AppLaw A) (saving : Saving W) (scenario : Scenario) (kinds : List ℕ)
    (start : Worlding (List ℕ) A) (stables : List W) (w : Worlding (List ℕ) A) (stables_after : List W)
    (begins : StartsAs scenario.setup start) (holds : Holds law byte_bodies start kinds) (pairs : PairsStand saving stables start.controllers)
    (k : Keeps law saving byte_bodies start stables w stables_after) (within : IsWithinLimits byte_bodies.size (past w.journal)) where
  abbrev OfRun : Scene (List ℕ)
  OfRun = scene_for kinds scenario

  abbrev Results : List (List SaveResult)
  Results = results_in w.controllers

  now_holds : Holds law byte_bodies w kinds
  now_holds = k.holds kinds holds

  same_setup : w.setup ≡ scenario.setup
  same_setup = k.setup ∙ begins.setup_is

  -- the world is that of a run of the scenario
  runs : Runs law OfRun w
  runs = subst (λ (s : Setup). Runs law (record { setup = s; kinds = kinds; sealing = byte_bodies }) w) same_setup now_holds.run

  first_runs : Runs law OfRun start
  first_runs = subst (λ (s : Setup). Runs law (record { setup = s; kinds = kinds; sealing = byte_bodies }) start) begins.setup_is holds.run

  none_yet : AreMore scenario.setup.controllers Results Results
  none_yet = no_more scenario.setup.controllers Results

  lawful : IsLawful OfRun Results (past w.journal)
  lawful = is_lawful kinds scenario Results (past w.journal) runs.setup runs.legal.possible

  -- what the stable pairs tell
  each_tells : (c : ℕ) → c < scenario.setup.controllers → StableTells saving stables stables_after OfRun Results w.journal c
  each_tells c there =
      let m = first_runs.controllers c there in
      let s = pairs c m.member m.stands in
      let t = k.told c m.member s.0 m.stands s.1 in
      let n = runs.controllers c there in
      let last = k.pairs c t.0 t.2 in
      let none : m.member.results ≡ [] = unsaved_at law scenario kinds start begins holds c m.member there m.stands in
      let more : t.4.more ≡ results_of Results c = sym (results_at w.controllers c t.0 t.2 ∙ t.4.joined ∙ ap (λ l. l ++ t.4.more) none) in
      record {
        old = s.0;
        new = t.1;
        stood = s.1;
        stands = t.3;
        rose = subst (λ l. (saving.faults s.0 + count_by is_failed l ≤ saving.faults t.1) ⊎ (2 ^ 64 - 1 ≤ saving.faults t.1)) more t.4.rose;
        calm = subst (λ l. count_by is_failed l ≡ 0 → saving.faults t.1 ≡ saving.faults s.0) more t.4.calm;
        pair_is = ap saving.pair (from_some t.1 last.0 (sym t.3 ∙ last.1)) ∙ last.2 ∙ ap (λ x. pair_in (state_of x)) (from_some t.0 n.member (sym t.2 ∙ n.stands)) ∙ ap pair_in n.state;
      }

  stables_tell : StablesTell saving stables stables_after OfRun Results w.journal
  stables_tell = record { each = each_tells; beyond = λ c past. k.beyond c (subst (λ (s : Setup). s.controllers ≤ c) (sym begins.setup_is) past) }

  -- each save is made, so each succeeds
  each_saved : (rs : List SaveResult) → AllByRecursion (λ r. r ≡ Saved) rs → (i : ℕ) → slice_index_or rs i Saved ≡ Saved
  each_saved [] all i = refl
  each_saved (r ∷ rs) all zero = all.0
  each_saved (r ∷ rs) all (suc i) = each_saved rs all.1 i

  module _ (manner : Manner) (count : ℕ) (ended : ClosingOutcome) (played : HasPlayed manner (scene_in byte_bodies start kinds) scenario.steps count ended w) where
    abbrev answer : ClosingAnswer
    answer = closing_answer_of ended

    same_scene : (P : Scene (List ℕ) → Type 0) → P (scene_in byte_bodies start kinds) → P OfRun
    same_scene P h = subst (λ (s : Setup). P (record { setup = s; kinds = kinds; sealing = byte_bodies })) begins.setup_is h

    as_group : AreMore w.setup.controllers Results Results
    as_group = no_more w.setup.controllers Results

    follows : FollowsManner manner OfRun Results scenario.steps (past played.front)
    follows = same_scene (λ s. FollowsManner manner s Results scenario.steps (past played.front)) (played.follows Results as_group)

    closes : Closes OfRun Results (past played.front) played.rest answer
    closes = same_scene (λ s. Closes s Results (past played.front) played.rest answer) (played.closes Results as_group)

    whole : past w.journal ≡ reverse played.rest ++ past played.front
    whole = ap past played.joined ∙ past_joined played.front played.rest

    -- where each save was made, each of its closing succeeded
    saves_succeed : AreSaved scenario.setup.controllers Results → SavesSucceed OfRun Results (past played.front)
    saves_succeed saved c i there low = each_saved (results_of Results c) (saved c there) i

    bounded : IsBounded OfRun Results (past played.front) played.rest
    bounded = same_scene (λ s. IsBounded s Results (past played.front) played.rest) played.bounded

    reason : HasReason ended OfRun Results (past played.front) (past w.journal)
    reason = same_scene (λ s. HasReason ended s Results (past played.front) (past w.journal)) played.reason

    pub has_run : IfInOrder manner (AreSaved scenario.setup.controllers Results → IsTheOne kinds scenario w.journal answer) → HasRun manner kinds (StablesTell saving stables stables_after) scenario answer
    has_run one = record {
      results = Results;
      script = played.front;
      closing = played.rest;
      journal = w.journal;
      run = record { joined = played.joined; legal = runs.legal; within = within; follows = follows; closes = closes; lawful = lawful };
      saved = stables_tell;
      one = one;
      quick = λ saved. bounded.quick (saves_succeed saved);
      sharp = λ saved. bounded.sharp (saves_succeed saved);
    }

    -- what its primary has committed
    committed_is : (primary : ℕ) → primary < scenario.setup.controllers → committed_at w.controllers primary ≡ kept OfRun Results primary (past w.journal)
    committed_is primary there =
        let m = runs.controllers primary there in
        rw (committed_at, m.stands) (ap kept_of m.state)

    -- what is told of it
    shows : (primary : ℕ) → primary < scenario.setup.controllers → (told : Record) → told ≡ told_by w primary (length scenario.steps) count → Shows OfRun Results primary (length scenario.steps) played.rest w.journal told
    shows primary there told is = record {
      setup = ap (λ t. t.setup) is ∙ same_setup;
      journal_is = ap (λ t. t.journal) is;
      log = ap (λ t. t.log) is ∙ committed_is primary there;
      script = ap (λ t. t.script) is;
      closing_is = ap (λ t. t.closing) is ∙ ap count_turns (rest_is manner (scene_in byte_bodies start kinds) scenario.steps count ended w played);
      switches = ap (λ t. t.switches) is ∙ sym (ap (λ n. map (λ s. told_of (switch_state OfRun s (past w.journal))) (range_with_len 0 n)) (sym runs.count)
          ∙ map_range (λ s. told_of (switch_state OfRun s (past w.journal))) told_of w.switches 0 told_at);
    }
      where
        told_at : (i : ℕ) (x : SwitchState) → slice_get w.switches i ≡ Some x → told_of (switch_state OfRun (0 + i) (past w.journal)) ≡ told_of x
        told_at i x found =
            let less = slice_get_within w.switches i x found in
            let count_is = runs.count in
            let there : i < length scenario.setup.ports = omega (arith, less, count_is) in
            let number : 0 + i ≡ i = omega arith in
            ap (λ n. told_of (switch_state OfRun n (past w.journal))) number ∙ ap told_of (from_some (switch_state OfRun i (past w.journal)) x (sym (runs.switches i there) ∙ found))

  -- where the steps were done in order it is the one journal of the scenario
  module _ (count : ℕ) (ended : ClosingOutcome) (played : HasPlayed In_order (scene_in byte_bodies start kinds) scenario.steps count ended w) where
    -- a run of the scenario in which every save is made is one whole run
    is_whole : (results : List (List SaveResult)) (script closing journal : List (JournalEntry (List ℕ))) (end : ClosingAnswer) → IsRun In_order kinds scenario results script closing journal end →
        AreSaved scenario.setup.controllers results → IsWholeRun OfRun scenario.steps (past script) closing end
    is_whole results script closing journal end run saved =
        let first : List (List SaveResult) = take scenario.setup.controllers results in
        let same : (c : ℕ) → c < scenario.setup.controllers → results_of results c ≡ results_of first c = λ c there. first_same scenario.setup.controllers c results there in
        let possible = subst (λ l. IsPossible OfRun results l) (ap past run.joined ∙ past_joined script closing) run.legal.possible in
        let named = named_both OfRun.setup closing (past script) possible.named in
        record {
          results = first;
          saved = first_saved scenario.setup.controllers results saved;
          possible = possible_same OfRun results first same (reverse closing ++ past script) possible;
          follows = follows_same OfRun results first same scenario.steps (past script) named.1 run.follows;
          closes = closes_by_group OfRun results first same (past script) closing end named.1 named.0 run.closes;
        }

    one : AreSaved scenario.setup.controllers Results → IsTheOne kinds scenario w.journal (closing_answer_of ended)
    one saved =
        let count_is = length-map w.controllers (λ c. c.results) ∙ runs.group in
        let run : IsWholeRun OfRun scenario.steps (past played.front) played.rest (closing_answer_of ended) = record {
          results = Results;
          saved = all_saved Results (λ c less. saved c (omega (arith, less, count_is)));
          possible = subst (λ l. IsPossible OfRun Results l) (whole In_order count ended played) runs.legal.possible;
          follows = follows In_order count ended played;
          closes = closes In_order count ended played;
        } in
        let found = the_one_journal OfRun scenario.steps (past played.front) played.rest (closing_answer_of ended) run in
        record {
          most = found.0;
          plays_it = found.1 ∙ ap (λ l. record { entries = l; answer = Some (closing_answer_of ended) }) (sym (whole In_order count ended played));
          only = λ results script closing other end ran each.
              let same = one_journal OfRun scenario.steps (past script) closing end (past played.front) played.rest (closing_answer_of ended) (is_whole results script closing other end ran each) run in
              (one_past other w.journal (ap past ran.joined ∙ past_joined script closing ∙ same.0 ∙ sym (whole In_order count ended played)), same.1);
        }

  one_of : (manner : Manner) (count : ℕ) (ended : ClosingOutcome) → HasPlayed manner (scene_in byte_bodies start kinds) scenario.steps count ended w →
      IfInOrder manner (AreSaved scenario.setup.controllers Results → IsTheOne kinds scenario w.journal (closing_answer_of ended))
  one_of In_order count ended played = one count ended played
  one_of Apart count ended played = tt

  pub is_done : (manner : Manner) (count primary : ℕ) (output : Output) (told : Record) (written : List ℕ) (played : HasPlayed manner (scene_in byte_bodies start kinds) scenario.steps count (closed.Done primary) w) →
      HasMajority (closed.Done primary) start w → told ≡ told_by w primary (length scenario.steps) count → written ≡ told_text output told → IfReport output (FitsRecord told) →
      IsDone manner kinds (StablesTell saving stables stables_after) scenario output written
  unfolding has_run
  is_done manner count primary output told written played up is wrote fits =
      let end : ClosingOutcome = closed.Done primary in
      let group : start.setup.controllers ≡ scenario.setup.controllers = ap (λ (s : Setup). s.controllers) begins.setup_is in
      let there : primary < scenario.setup.controllers = subst (λ (n : ℕ). primary < n) group up.0 in
      let same = states_are law OfRun w runs Results none_yet in
      let rested : HasRested OfRun Results primary (past w.journal) = reason manner count end played in
      record {
        primary = primary;
        ran = has_run manner count end played (one_of manner count end played);
        rested = rested;
        up = subst (λ n. majority n ≤ count_up OfRun Results (past w.journal)) group (subst (λ l. majority start.setup.controllers ≤ length (members_up l)) (sym same) up.1);
        told = told;
        shows = shows manner count end played primary there told is;
        wrote = wrote;
        one_record = one_record output told written wrote fits (subst (λ (t : Record). IsWritable t) (sym is) (told_writable OfRun Results played.front played.rest (schedule.Done primary) w primary
            (subst (λ (s : Setup). IsSetup s) (sym same_setup) runs.setup) same_setup played.joined
            (follow_lines manner OfRun Results scenario.steps (reverse played.rest) (past played.front)
            (subst (λ l. AllByRecursion (λ e. IsActor scenario.setup (actor_of e)) l) (whole manner count end played) runs.legal.possible.named) (follows manner count end played)) (closes manner count end played) runs.count runs.switches
            (sym rested.kept ∙ sym (committed_is manner count end played primary there))
            (told_law OfRun Results (past w.journal) runs.setup bytes_again runs.legal.possible) (length scenario.steps) count));
      }

  pub is_left : (manner : Manner) (count up needed : ℕ) (played : HasPlayed manner (scene_in byte_bodies start kinds) scenario.steps count (closed.NoQuorum up needed) w) → IsLeft manner kinds (StablesTell saving stables stables_after) scenario up needed
  unfolding has_run
  is_left manner count up needed played =
      let end : ClosingOutcome = closed.NoQuorum up needed in
      let few = reason manner count end played in
      record { ran = has_run manner count end played (one_of manner count end played); few = λ saved. few (saves_succeed manner count end played saved) }

  pub is_overfull : (manner : Manner) (count : ℕ) (limit : LogFull) (played : HasPlayed manner (scene_in byte_bodies start kinds) scenario.steps count (closed.Overfull limit) w) → IsOverfull manner kinds (StablesTell saving stables stables_after) scenario limit
  unfolding has_run
  is_overfull manner count limit played =
      let end : ClosingOutcome = closed.Overfull limit in
      let at = reason manner count end played in
      record { ran = has_run manner count end played (one_of manner count end played); controller = at.0; entry = at.1; full = at.2 }

  pub is_unposted : (manner : Manner) (bytes letters : ℕ) → Begins manner (scene_in byte_bodies start kinds) Results scenario.steps bytes letters (past w.journal) → IsRunUnposted manner kinds (StablesTell saving stables stables_after) scenario bytes letters
  is_unposted manner bytes letters begun = record {
    results = Results;
    journal = w.journal;
    run = record {
      legal = runs.legal;
      within = within;
      begun = subst (λ (s : Setup). Begins manner (record { setup = s; kinds = kinds; sealing = byte_bodies }) Results scenario.steps bytes letters (past w.journal)) begins.setup_is begun;
      lawful = lawful;
    };
    saved = stables_tell;
  }

-- how a call ends, by how playing ended
module _ {A W : Type 0} (law : AppLaw A) (saving : Saving W) (scenario : Scenario) (kinds : List ℕ)
    (start : Worlding (List ℕ) A) (stables : List W) (w : Worlding (List ℕ) A) (stables_after : List W)
    (begins : StartsAs scenario.setup start) (holds : Holds law byte_bodies start kinds) (pairs : PairsStand saving stables start.controllers)
    (within : IsWithinLimits byte_bodies.size (past w.journal)) (manner : Manner) (taken : List Turn) (same : taken ≡ scenario.steps) where
  abbrev Kept : Type 0
  Kept = Keeps law saving byte_bodies start stables w stables_after

  abbrev Ends : Output → Ending → Type 0
  Ends output e = EndsRun manner kinds (StablesTell saving stables stables_after) output scenario e

  one_ending : (closed : ClosingOutcome) (count : ℕ) (output : Output) → Kept → HasPlayed manner (scene_in byte_bodies start kinds) scenario.steps count closed w →
      HasMajority closed start w → IfDone closed (λ p. IfReport output (FitsRecord (told_by w p (length scenario.steps) count))) →
      Ends output (ending_by closed (λ p. told_text output (told_by w p (length scenario.steps) count)))
  one_ending (closed.Done primary) count output k played up fits =
      is_done law saving scenario kinds start stables w stables_after begins holds pairs k within manner count primary output (told_by w primary (length scenario.steps) count) (told_text output (told_by w primary (length scenario.steps) count)) played up refl refl fits
  one_ending (closed.NoQuorum up needed) count output k played most fits = is_left law saving scenario kinds start stables w stables_after begins holds pairs k within manner count up needed played
  one_ending (closed.Overfull limit) count output k played most fits = is_overfull law saving scenario kinds start stables w stables_after begins holds pairs k within manner count limit played

  pub ok_ending : {X : Type 0} (closed : ClosingOutcome) (count : ℕ) (output : Output) (steps : ℕ) (ended : Result Ending X) → steps ≡ length scenario.steps → Kept → HasPlayed manner (scene_in byte_bodies start kinds) taken count closed w →
      HasMajority closed start w → IfOk ended (λ e. e ≡ ending_by closed (λ p. told_text output (told_by w p steps count))) → IfOk ended (λ _. IfDone closed (λ p. IfReport output (FitsRecord (told_by w p steps count)))) → IfOk ended (λ e. Ends output e)
  ok_ending closed count output steps (Err x) long k played up is fits = tt
  ok_ending closed count output steps (Ok e) long k played up is fits =
      subst (λ x. Ends output x) (sym (is ∙ ap (λ n. ending_by closed (λ p. told_text output (told_by w p n count))) long))
      (one_ending closed count output k (subst (λ (l : List Turn). HasPlayed manner (scene_in byte_bodies start kinds) l count closed w) same played) up (subst (λ (n : ℕ). IfDone closed (λ p. IfReport output (FitsRecord (told_by w p n count)))) long fits))

-- the same by the answer of a call that did the steps in order
module _ {A W : Type 0} (law : AppLaw A) (saving : Saving W) (scenario : Scenario) (kinds : List ℕ)
    (start : Worlding (List ℕ) A) (stables : List W) (w : Worlding (List ℕ) A) (stables_after : List W)
    (begins : StartsAs scenario.setup start) (holds : Holds law byte_bodies start kinds) (pairs : PairsStand saving stables start.controllers)
    (within : IsWithinLimits byte_bodies.size (past w.journal)) (taken : List Turn) (same : taken ≡ scenario.steps) where
  abbrev KeptInOrder : Type 0
  KeptInOrder = Keeps law saving byte_bodies start stables w stables_after

  abbrev EndsInOrder : Output → Ending → Type 0
  EndsInOrder output e = EndsRun In_order kinds (StablesTell saving stables stables_after) output scenario e

  -- it came to the end of its closing
  pub ends_closed : {X : Type 0} (result : Result (ClosingOutcome × ℕ) Stop) (closed : ClosingOutcome) (count : ℕ) (output : Output) (steps : ℕ) (ended : Result Ending X) → result ≡ Ok (closed, count) → steps ≡ length scenario.steps →
      KeptInOrder → IfOk result (λ played. HasPlayed In_order (scene_in byte_bodies start kinds) taken played.1 played.0 w) → IfOk result (λ played. HasMajority played.0 start w) →
      IfOk ended (λ e. e ≡ ending_by closed (λ p. told_text output (told_by w p steps count))) → IfOk ended (λ _. IfDone closed (λ p. IfReport output (FitsRecord (told_by w p steps count)))) → IfOk ended (λ e. EndsInOrder output e)
  ends_closed result closed count output steps ended is long k played up ending_is fits =
      ok_ending law saving scenario kinds start stables w stables_after begins holds pairs within In_order taken same closed count output steps ended long k
      (subst (λ (r : Result (ClosingOutcome × ℕ) Stop). IfOk r (λ played. HasPlayed In_order (scene_in byte_bodies start kinds) taken played.1 played.0 w)) is played)
      (subst (λ (r : Result (ClosingOutcome × ℕ) Stop). IfOk r (λ played. HasMajority played.0 start w)) is up)
      ending_is fits

  one_stop : {X : Type 0} (stop : Stop) (output : Output) (ended : Result Ending X) → KeptInOrder → RunStops (scene_in byte_bodies start kinds) taken w stop →
      IfOk ended (λ e. StopsAs stop e) → IfOk ended (λ e. EndsInOrder output e)
  one_stop stop output (Err x) k stops is = tt
  one_stop OutOfMemory output (Ok e) k stops never = absurd never
  one_stop (JournalFull bytes letters) output (Ok e) k stops is =
      subst (λ x. EndsInOrder output x) (sym is)
      (is_unposted law saving scenario kinds start stables w stables_after begins holds pairs k within In_order bytes letters
      (subst (λ (l : List Turn). Begins In_order (scene_in byte_bodies start kinds) (results_in w.controllers) l bytes letters (past w.journal)) same stops))

  -- or it stopped
  pub ends_stopped : {X : Type 0} (result : Result (ClosingOutcome × ℕ) Stop) (stop : Stop) (output : Output) (ended : Result Ending X) → result ≡ Err stop → KeptInOrder →
      IfErr result (RunStops (scene_in byte_bodies start kinds) taken w) → IfOk ended (λ e. StopsAs stop e) → IfOk ended (λ e. EndsInOrder output e)
  ends_stopped result stop output ended is k stops ending_is =
      one_stop stop output ended k
      (subst (λ (r : Result (ClosingOutcome × ℕ) Stop). IfErr r (RunStops (scene_in byte_bodies start kinds) taken w)) is stops) ending_is

-- ---- where actors played apart, and the run was cut short

module _ {A G W : Type 0} (law : AppLaw A) (saving : Saving W) (scenario : Scenario) (kinds : List ℕ) (start : Worlding (List ℕ) A) (stables stables_after : List W)
    (begins : StartsAs scenario.setup start) (holds : Holds law byte_bodies start kinds) (pairs : PairsStand saving stables start.controllers) (left : Played (List ℕ) A G)
    (l : IsLeftLegal law saving byte_bodies scenario.setup kinds start.controllers stables stables_after left) where
  abbrev LeftResults : List (List SaveResult)
  LeftResults = results_in left.controllers.items

  left_lawful : IsLawful (scene_for kinds scenario) LeftResults (past left.wire)
  left_lawful = is_lawful kinds scenario LeftResults (past left.wire) (subst (λ s. IsSetup s) begins.setup_is holds.run.setup) l.legal.possible

  first_at : (c : ℕ) → c < scenario.setup.controllers → IsMember law (scene_for kinds scenario) (results_in start.controllers) (past start.journal) start.controllers c
  first_at = subst (λ (s : Setup). (c : ℕ) → c < s.controllers → IsMember law (record { setup = s; kinds = kinds; sealing = byte_bodies }) (results_in start.controllers) (past start.journal) start.controllers c)
      begins.setup_is holds.run.controllers

  left_tells : (c : ℕ) → c < scenario.setup.controllers → StableTells saving stables stables_after (scene_for kinds scenario) LeftResults left.wire c
  left_tells c there =
      let m = first_at c there in
      let s = pairs c m.member m.stands in
      let t = l.paired.told c m.member s.0 m.stands s.1 in
      let n = l.members c there in
      let last = l.paired.pairs c t.0 t.2 in
      let none : m.member.results ≡ [] = unsaved_at law scenario kinds start begins holds c m.member there m.stands in
      let more : t.4.more ≡ results_of LeftResults c = sym (results_at left.controllers.items c t.0 t.2 ∙ t.4.joined ∙ ap (λ r. r ++ t.4.more) none) in
      record {
        old = s.0;
        new = t.1;
        stood = s.1;
        stands = t.3;
        rose = subst (λ r. (saving.faults s.0 + count_by is_failed r ≤ saving.faults t.1) ⊎ (2 ^ 64 - 1 ≤ saving.faults t.1)) more t.4.rose;
        calm = subst (λ l. count_by is_failed l ≡ 0 → saving.faults t.1 ≡ saving.faults s.0) more t.4.calm;
        pair_is = ap saving.pair (from_some t.1 last.0 (sym t.3 ∙ last.1)) ∙ last.2 ∙ ap (λ x. pair_in (state_of x)) (from_some t.0 n.member (sym t.2 ∙ n.stands)) ∙ ap pair_in n.state;
      }

  left_unposted : (bytes letters : ℕ) → Begins Apart (scene_for kinds scenario) LeftResults scenario.steps bytes letters (past left.wire) →
      IsRunUnposted Apart kinds (StablesTell saving stables stables_after) scenario bytes letters
  left_unposted bytes letters begun = record {
    results = LeftResults;
    journal = left.wire;
    run = record { legal = l.legal; within = l.within; begun = begun; lawful = left_lawful };
    saved = record { each = left_tells; beyond = l.paired.beyond };
  }

module _ {A W : Type 0} (law : AppLaw A) (saving : Saving W) (scenario : Scenario) (kinds : List ℕ) (start : Worlding (List ℕ) A) (stables stables_after : List W)
    (begins : StartsAs scenario.setup start) (holds : Holds law byte_bodies start kinds) (pairs : PairsStand saving stables start.controllers) (taken : List Turn) (same : taken ≡ scenario.steps) where
  pub ends_halted : {G X : Type 0} (left : Played (List ℕ) A G) (stop : Stop) (ended : Result Ending X) → HaltsAs law saving byte_bodies taken kinds start stables stables_after left stop →
      IfOk ended (λ e. StopsAs stop e) → IfOk ended (λ e. EndsRun Apart kinds (StablesTell saving stables stables_after) told_as.Report scenario e)
  ends_halted left stop (Err x) halts is = tt
  ends_halted left OutOfMemory (Ok e) halts never = absurd never
  ends_halted left (JournalFull bytes letters) (Ok e) halts is =
      subst (λ x. EndsRun Apart kinds (StablesTell saving stables stables_after) told_as.Report scenario x) (sym is)
      (left_unposted law saving scenario kinds start stables stables_after begins holds pairs left
      (subst (λ (s : Setup). IsLeftLegal law saving byte_bodies s kinds start.controllers stables stables_after left) begins.setup_is halts.0) bytes letters
      (subst (λ (steps : List Turn). Begins Apart (scene_for kinds scenario) (results_in left.controllers.items) steps bytes letters (past left.wire)) same
      (subst (λ (s : Setup). Begins Apart (record { setup = s; kinds = kinds; sealing = byte_bodies }) (results_in left.controllers.items) taken bytes letters (past left.wire)) begins.setup_is halts.1)))

-- the script's part is not longer than the journal
pub script_within : {A : Type 0} (scene : Scene (List ℕ)) (taken : List Turn) (w : Worlding (List ℕ) A) (result : Result (ClosingOutcome × ℕ) Stop) (closed : ClosingOutcome) (count : ℕ) → result ≡ Ok (closed, count) →
    IfOk result (λ played. HasPlayed In_order scene taken played.1 played.0 w) → count ≤ length w.journal
script_within scene taken w result closed count is played =
    within_journal In_order scene taken count closed w (subst (λ (r : Result (ClosingOutcome × ℕ) Stop). IfOk r (λ p. HasPlayed In_order scene taken p.1 p.0 w)) is played)

-- and the primary of a closing is one of its controllers
pub primary_of : {B A : Type 0} (law : AppLaw A) (scene : Scene B) (start w : Worlding B A) → Runs law scene w → start.setup ≡ scene.setup → (ended : ClosingOutcome) → HasMajority ended start w →
    IfDone ended (λ primary. primary < length w.controllers)
primary_of law scene start w runs same (closed.Done primary) m =
    let group : start.setup.controllers ≡ length w.controllers = ap (λ (s : Setup). s.controllers) same ∙ sym runs.group in
    subst (λ (n : ℕ). primary < n) group m.0
primary_of law scene start w runs same (closed.NoQuorum up needed) m = tt
primary_of law scene start w runs same (closed.Overfull limit) m = tt

pub primary_there : {B A : Type 0} (law : AppLaw A) (scene : Scene B) (start w : Worlding B A) → Runs law scene w → start.setup ≡ scene.setup → (result : Result (ClosingOutcome × ℕ) Stop) (ended : ClosingOutcome) (count : ℕ) → result ≡ Ok (ended, count) →
    IfOk result (λ played. HasMajority played.0 start w) → IfDone ended (λ primary. primary < length w.controllers)
primary_there law scene start w runs same result ended count is up =
    primary_of law scene start w runs same ended (subst (λ (r : Result (ClosingOutcome × ℕ) Stop). IfOk r (λ played. HasMajority played.0 start w)) is up)
