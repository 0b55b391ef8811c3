-- What the ends of all who played at a board tell: a run of the setup, as far as it came.
use Rattle.std.proofs.Common.{◌≡◌, ◌<◌, ◌⊎◌, inl, inr, ℕ, ◌+◌, List, [], ◌∷◌, ◌++◌, length, map, drop, refl, sym, ◌∙◌, ap, subst, arith, length-append}
use Rattle.std.specs.Prelude.{Option, Some, None, All, slice_get, slice_index_or}
use Rattle.std.specs.List.{AllByRecursion, range_with_len, zip}
use Rattle.std.proofs.lemmas.Option.{get_or_from_slice_get, slice_get-get_or, slice_get_within}
use Rattle.std.proofs.Math.Seq.{drop-append_seam}
use Rattle.of_types.specs.declared.setup.Setup.{Setup}
use Rattle.journal.specs.declared.journal.Actor.{Actor}
use Rattle.journal.specs.declared.journal.Actor.TheVariants as actor
use Rattle.journal.specs.declared.journal.JournalEntry.{JournalEntry}
use Rattle.journal.specs.declared.journal.Turn.{Turn}
use Rattle.journal.specs.declared.wire.Stop.{Stop}
use Rattle.journal.specs.declared.wire.Stop.TheVariants.{OutOfMemory, JournalFull}
use Rattle.journal.specs.declared.journal.Letter.{Letter}
use Rattle.journal.specs.Actors.{actor_of, IsActor}
use Rattle.journal.specs.Pool.{past}
use Rattle.journal.specs.Stables.{Saving}
use Rattle.journal.proofs.All.{all_append}
use Rattle.journal.proofs.Placing.{slice_get-append}
use Rattle.of_switch.specs.State.{SwitchState, starting_switch}
use Rattle.app_core.specs.Law.{AppLaw}
use Rattle.group_controller.specs.Turns.{Controlling, pair_in, state_of}
use Rattle.run_spec.specs.States.{Sealing}
use Rattle.run_spec.specs.Legal.{IsLegalPast}
use Rattle.journal.specs.Turns.{IsFull, IsWithinLimits}
use Rattle.world.specs.World.{AreTold, IsMember, IsPlayed, PairsStand, SavesTold, resting_world, results_in}
use Rattle.shared_wire.specs.Places.{fresh, IsPartOf, PlaceState, TableId}
use Rattle.shared_wire.proofs.Lists.{all_reverse}
use Rattle.running.specs.declared.job.Job.{Job}
use Rattle.running.specs.declared.run.Played.{Played}
use Rattle.running.specs.declared.seated.Served.{Served}
use Rattle.running.specs.declared.task.Task.{Task}
use Rattle.running.specs.Apart.{BeginsApart, FollowsApart, IsBefore, IsCutFor}
use Rattle.running.specs.Jobs.{HasPlayedSome, EndsAs, IsAtEnd, IsSeatedIn}
use Rattle.running.specs.Playing.{ServedPlays, SwitchPlays, scene_of}
use Rattle.running.specs.Runs.{actors_up_to, controller_of, first_stop, seat_place_of, player_of, seated, served, stable_of, task_of}
use Rattle.running.specs.Tasks.{WasRun, MayBegin}
use Rattle.running.specs.Threads.{IsLeftPaired, HaltsApart, HasPlayedApart, IsLeftLegal, StartsApart}
use Rattle.running.specs.Together.{HavePlayed}
use Rattle.running.proofs.Ends.{done_ends, stuck_ends}
use Rattle.running.proofs.Joined as joined
use Rattle.world.proofs.Starts.{mapped_at, mapped_length}
use Rattle.running.proofs.Lists.{at_number, by_number, drop_mapped, got_behind, got_map, got_zip, map_long, same_behind, zip_first, zip_second}
use Rattle.running.proofs.Named.{plus_none, controller_at, all_controllers, all_switches, named_each}
use Rattle.running.proofs.Starting.{job_fresh, served_fresh, switch_fresh}
use Rattle.running.proofs.Stopping.{going_on, AreCalm, HasStopped, are_calm, none_first, none_stopped, was_calm, who_stopped}

-- players at the places of a new board
module _ (G : Type 0) {B A W : Type 0} (law : AppLaw A) (saving : Saving W) (sealing : Sealing B) (setup : Setup) (kinds : List ℕ) (steps : List Turn) (id : TableId)
    (controllers : List (Controlling A)) (switches : List SwitchState) (stables : List W) (starts : StartsApart law saving setup kinds steps controllers switches stables) where
  abbrev actors : List Actor
  actors = actors_up_to (length controllers) (length switches)

  abbrev places : List (PlaceState B)
  places = map (fresh id) actors

  abbrev first_members : List (Task B (Served A W) G)
  first_members = seated places (served controllers stables)

  abbrev first_others : List (Task B SwitchState G)
  first_others = seated (drop (length controllers) places) switches

  group_is : length controllers ≡ setup.controllers
  group_is = starts.members.group

  count_is : length switches ≡ length setup.ports
  count_is = ap length starts.others ∙ mapped_length (λ s. starting_switch s setup) 0 (length setup.ports)

  -- a controller as it starts, beside what it saves to
  record IsServedAt (c : ℕ) : Type 0 where
    pub controller : Controlling A
    pub stable : W
    pub controller_stands : slice_get controllers c ≡ Some controller
    pub stable_stands : slice_get stables c ≡ Some stable
    pub plays : ServedPlays law saving sealing setup kinds (actor.Controller c) (record { controller = controller; stable = stable }) [] (record { controller = controller; stable = stable }) []

  served_at : (c : ℕ) → c < setup.controllers → IsServedAt c
  served_at c there =
      let n = starts.members.each c there in
      let p = starts.pairs c n.0 n.1 in
      record { controller = n.0; stable = p.0; controller_stands = n.1; stable_stands = p.1; plays = served_fresh sealing setup kinds law saving c n.0 p.0 n.2 p.2 }

  member_at : (c : ℕ) (there : c < setup.controllers) (s : IsServedAt c) →
      slice_get first_members c ≡ Some (task_of (fresh id (actor.Controller c)) (record { controller = s.controller; stable = s.stable }))
  member_at c there s =
      let group = group_is in
      got_map (λ x. task_of x.0 x.1) (zip places (served controllers stables)) c _
      (got_zip places (served controllers stables) c _ _
      (got_map (fresh id) actors c (actor.Controller c) (controller_at (length controllers) (length switches) c (omega (arith, group, there))))
      (got_map (λ x. record { controller = x.0; stable = x.1 }) (zip controllers stables) c _ (got_zip controllers stables c s.controller s.stable s.controller_stands s.stable_stands)))

  switches_long : length (map (λ (c : ℕ). actor.Controller c) (range_with_len 0 (length controllers))) ≡ length controllers
  switches_long = mapped_length (λ (c : ℕ). actor.Controller c) 0 (length controllers)

  other_places : drop (length controllers) places ≡ map (fresh id) (map (λ (s : ℕ). actor.Switch s) (range_with_len 0 (length switches)))
  other_places =
      ap (λ (n : ℕ). drop n places) (sym switches_long) ∙
      drop_mapped (fresh id) (map (λ (c : ℕ). actor.Controller c) (range_with_len 0 (length controllers))) (map (λ (s : ℕ). actor.Switch s) (range_with_len 0 (length switches)))

  switch_at : (s : ℕ) → s < length setup.ports → slice_get switches s ≡ Some (starting_switch s setup)
  switch_at s there = ap (λ (l : List SwitchState). slice_get l s) starts.others ∙ mapped_at (λ n. starting_switch n setup) 0 (length setup.ports) s there ∙ ap (λ n. Some (starting_switch n setup)) (plus_none s)

  other_at : (s : ℕ) → s < length setup.ports → slice_get first_others s ≡ Some (task_of (fresh id (actor.Switch s)) (starting_switch s setup))
  other_at s there =
      let count = count_is in
      got_map (λ x. task_of x.0 x.1) (zip (drop (length controllers) places) switches) s _
      (got_zip (drop (length controllers) places) switches s _ _
      (ap (λ (l : List (PlaceState B)). slice_get l s) other_places ∙
      got_map (fresh id) (map (λ (n : ℕ). actor.Switch n) (range_with_len 0 (length switches))) s (actor.Switch s)
      (mapped_at (λ (n : ℕ). actor.Switch n) 0 (length switches) s (omega (arith, count, there)) ∙ ap (λ (n : ℕ). Some (actor.Switch n)) (plus_none s)))
      (switch_at s there))

  places_long : length places ≡ length controllers + length switches
  places_long =
      let one = mapped_length (λ (c : ℕ). actor.Controller c) 0 (length controllers) in
      let two = mapped_length (λ (s : ℕ). actor.Switch s) 0 (length switches) in
      let both = length-append (map (λ (c : ℕ). actor.Controller c) (range_with_len 0 (length controllers))) (map (λ (s : ℕ). actor.Switch s) (range_with_len 0 (length switches))) in
      let all = map_long (fresh {B = B} id) actors in omega (arith, one, two, both, all)

  served_long : length (served controllers stables) ≡ length controllers
  served_long =
      let enough = starts.enough in
      let group = group_is in
      map_long (λ x. record { controller = x.0; stable = x.1 }) (zip controllers stables) ∙ zip_first controllers stables (omega (arith, enough, group))

  pub members_long : length first_members ≡ length controllers
  members_long =
      let long = places_long in
      let its = served_long in
      map_long (λ x. task_of x.0 x.1) (zip places (served controllers stables)) ∙ zip_second places (served controllers stables) (omega (arith, long, its)) ∙ served_long

  pub others_long : length first_others ≡ length switches
  others_long =
      let long = ap length other_places ∙ map_long (fresh id) (map (λ (s : ℕ). actor.Switch s) (range_with_len 0 (length switches))) ∙ mapped_length (λ (s : ℕ). actor.Switch s) 0 (length switches) in
      map_long (λ x. task_of x.0 x.1) (zip (drop (length controllers) places) switches) ∙ zip_second (drop (length controllers) places) switches (omega (arith, long))

  some_is : {X : Type 0} (x y : X) → Some x ≡ Some y → y ≡ x
  some_is x y h = cc

  -- each is ready
  members_ready : All (MayBegin (ServedPlays law saving sealing) id steps) first_members
  members_ready = by_number (MayBegin (ServedPlays law saving sealing) id steps) first_members (λ c x within found.
      let group = group_is in
      let long = members_long in
      let there : c < setup.controllers = omega (arith, group, long, within) in
      let s = served_at c there in
      let start : Served A W = record { controller = s.controller; stable = s.stable } in
      subst (MayBegin (ServedPlays law saving sealing) id steps) (some_is x (task_of (fresh id (actor.Controller c)) start) (sym found ∙ member_at c there s))
      (record { board_is = refl; plays_it = (setup, kinds, start, job_fresh (ServedPlays law saving sealing setup kinds (actor.Controller c) start) steps id (actor.Controller c) start s.plays) }))

  others_ready : All (MayBegin (SwitchPlays sealing) id steps) first_others
  others_ready = by_number (MayBegin (SwitchPlays sealing) id steps) first_others (λ s x within found.
      let count = count_is in
      let long = others_long in
      let there : s < length setup.ports = omega (arith, count, long, within) in
      let start = starting_switch s setup in
      subst (MayBegin (SwitchPlays sealing) id steps) (some_is x (task_of (fresh id (actor.Switch s)) start) (sym found ∙ other_at s there))
      (record { board_is = refl; plays_it = (setup, kinds, start, job_fresh (SwitchPlays sealing setup kinds (actor.Switch s) start) steps id (actor.Switch s) start (switch_fresh sealing setup kinds s)) }))

  pub members_ready_at : (ps : List (PlaceState B)) → ps ≡ places → All (MayBegin (ServedPlays law saving sealing) id steps) (seated {G = G} ps (served controllers stables))
  members_ready_at ps is = subst (λ p. All (MayBegin (ServedPlays law saving sealing) id steps) (seated {G = G} p (served controllers stables))) (sym is) members_ready

  pub others_ready_at : (ps : List (PlaceState B)) → ps ≡ places → All (MayBegin (SwitchPlays sealing) id steps) (seated {G = G} (drop (length controllers) ps) switches)
  others_ready_at ps is = subst (λ p. All (MayBegin (SwitchPlays sealing) id steps) (seated {G = G} (drop (length controllers) p) switches)) (sym is) others_ready

  -- what they left
  module _ (stables_after : List W) (played : Played B A G) (stop : Option Stop)
      (h : HavePlayed law saving sealing steps places controllers switches stables stables_after played stop) where
    abbrev wire : List (JournalEntry B)
    wire = played.wire

    abbrev member_jobs : List (Job B (Served A W) G)
    member_jobs = map (λ t. t.job) h.members

    abbrev other_jobs : List (Job B SwitchState G)
    other_jobs = map (λ t. t.job) h.others

    members_same : length h.members ≡ setup.controllers
    members_same = h.members_ran.count ∙ members_long ∙ group_is

    others_same : length h.others ≡ length setup.ports
    others_same = h.others_ran.count ∙ others_long ∙ count_is

    named : AllByRecursion (λ e. IsActor setup (actor_of e)) (past wire)
    named =
        let group = group_is in
        let count = count_is in
        all_reverse (λ e. IsActor setup (actor_of e)) wire
        (named_each setup actors wire
        (all_append (IsActor setup) (map (λ (n : ℕ). actor.Controller n) (range_with_len 0 (length controllers))) (map (λ (n : ℕ). actor.Switch n) (range_with_len 0 (length switches)))
        (all_controllers 0 (length controllers) setup.controllers setup refl (omega (arith, group))) (all_switches 0 (length switches) (length setup.ports) setup refl (omega (arith, count))))
        h.named)

    -- a task as it ended
    record HasEndedAs {P : Type 0} (plays : Setup → List ℕ → Actor → P → List _ → P → List _ → Type 0) (a : Actor) (start : P) (tasks : List (Task B P G)) (number : ℕ) : Type 0 where
      pub task : Task B P G
      pub stands : slice_get tasks number ≡ Some task
      pub ran : WasRun plays sealing.size steps (task_of (fresh id a) start) task
      pub part : IsPartOf wire task.job.place

    controller_ends : (c : ℕ) (there : c < setup.controllers) (s : IsServedAt c) →
        HasEndedAs (ServedPlays law saving sealing) (actor.Controller c) (record { controller = s.controller; stable = s.stable }) h.members c
    controller_ends c there s =
        let start = task_of (fresh id (actor.Controller c)) (record { controller = s.controller; stable = s.stable }) in
        let same = members_same in
        let old_long = members_long in
        let group = group_is in
        let now = slice_index_or h.members c start in
        let stands : slice_get h.members c ≡ Some now = slice_get-get_or h.members c start (omega (arith, same, there)) in
        record {
          task = now;
          stands = stands;
          ran = subst (λ (t : Task B (Served A W) G). WasRun (ServedPlays law saving sealing) sealing.size steps t now)
              (get_or_from_slice_get first_members c start start (member_at c there s)) (h.members_ran.each c start (omega (arith, old_long, group, there)));
          part = at_number (IsPartOf wire) (map seat_place_of h.members ++ map seat_place_of h.others) c now.job.place h.parts
              (slice_get-append (map seat_place_of h.members) (map seat_place_of h.others) c now.job.place (got_map seat_place_of h.members c now stands));
        }

    switch_ends : (s : ℕ) → s < length setup.ports → HasEndedAs (SwitchPlays sealing) (actor.Switch s) (starting_switch s setup) h.others s
    switch_ends s there =
        let start = task_of (fresh id (actor.Switch s)) (starting_switch s setup) in
        let same = others_same in
        let old_long = others_long in
        let count = count_is in
        let now = slice_index_or h.others s start in
        let stands : slice_get h.others s ≡ Some now = slice_get-get_or h.others s start (omega (arith, same, there)) in
        record {
          task = now;
          stands = stands;
          ran = subst (λ (t : Task B SwitchState G). WasRun (SwitchPlays sealing) sealing.size steps t now)
              (get_or_from_slice_get first_others s start start (other_at s there)) (h.others_ran.each s start (omega (arith, old_long, count, there)));
          part = at_number (IsPartOf wire) (map seat_place_of h.members ++ map seat_place_of h.others) (length (map seat_place_of h.members) + s) now.job.place h.parts
              (got_behind (map seat_place_of h.members) (map seat_place_of h.others) s (length (map seat_place_of h.members) + s) refl ∙ got_map seat_place_of h.others s now stands);
        }

    -- where no task was short of memory, the job of each has ended
    ended : {P : Type 0} (plays : List _ → P → List _ → Type 0) (job : Job B P G) (o : Option Stop) → (o ≡ Some OutOfMemory → ⊥) → IsWithinLimits sealing.size (past job.place.seen) →
        EndsAs plays sealing.size steps job o → IsAtEnd plays steps job
    ended plays job None calm within ends = done_ends plays sealing.size steps job ends
    ended plays job (Some OutOfMemory) calm within ends = absurd (calm refl)
    ended plays job (Some (JournalFull bytes letters)) calm within ends = stuck_ends plays sealing.size steps job bytes letters within ends

    -- however a job ended, its player is what some entries of its own make of it
    played_some : {P : Type 0} (plays : List _ → P → List _ → Type 0) (job : Job B P G) (o : Option Stop) → EndsAs plays sealing.size steps job o → HasPlayedSome plays job.player
    played_some plays job None ends = (job.place.own, job.owed, ends.on.plays_it)
    played_some plays job (Some OutOfMemory) ends = ends
    played_some plays job (Some (JournalFull bytes letters)) ends = (job.place.own, job.owed, ends.on.plays_it)

    plays_last : (c : ℕ) (there : c < setup.controllers) (s : IsServedAt c) → (e : HasEndedAs (ServedPlays law saving sealing) (actor.Controller c) (record { controller = s.controller; stable = s.stable }) h.members c) →
        HasPlayedSome (ServedPlays law saving sealing setup kinds (actor.Controller c) (record { controller = s.controller; stable = s.stable })) e.task.job.player
    plays_last c there s e =
        let start : Served A W = record { controller = s.controller; stable = s.stable } in
        let plays = ServedPlays law saving sealing setup kinds (actor.Controller c) start in
        played_some plays e.task.job e.task.stop (e.ran.ends setup kinds start (job_fresh plays steps id (actor.Controller c) start s.plays))

    -- a controller as it was left, with what it saved to
    controller_left : (c : ℕ) (t : Task B (Served A W) G) → slice_get h.members c ≡ Some t → slice_get played.controllers.items c ≡ Some t.job.player.controller
    controller_left c t stands = ap (λ (l : List (Controlling A)). slice_get l c) h.controllers_are ∙ got_map controller_of (map player_of h.members) c t.job.player (got_map player_of h.members c t stands)

    stable_left : (c : ℕ) (t : Task B (Served A W) G) → slice_get h.members c ≡ Some t → slice_get stables_after c ≡ Some t.job.player.stable
    stable_left c t stands =
        ap (λ (l : List W). slice_get l c) h.stables_are ∙ slice_get-append (map stable_of (map player_of h.members)) (drop (length controllers) stables) c t.job.player.stable
        (got_map stable_of (map player_of h.members) c t.job.player (got_map player_of h.members c t stands))

    controllers_long : length played.controllers.items ≡ setup.controllers
    controllers_long = ap length h.controllers_are ∙ map_long controller_of (map player_of h.members) ∙ map_long player_of h.members ∙ members_same

    pairs : PairsStand saving stables_after played.controllers.items
    pairs c x found =
        let within = slice_get_within played.controllers.items c x found in
        let long = controllers_long in
        let there : c < setup.controllers = omega (arith, within, long) in
        let s = served_at c there in
        let e = controller_ends c there s in (
          e.task.job.player.stable,
          stable_left c e.task e.stands,
          (plays_last c there s e).2.pair_is ∙ ap (λ (y : Controlling A). pair_in (state_of y)) (some_is x e.task.job.player.controller (sym found ∙ controller_left c e.task e.stands)),
        )

    told : AreTold saving stables stables_after controllers played.controllers.items
    told c x stable found stable_found =
        let within = slice_get_within controllers c x found in
        let group = group_is in
        let there : c < setup.controllers = omega (arith, within, group) in
        let s = served_at c there in
        let e = controller_ends c there s in (
          e.task.job.player.controller,
          e.task.job.player.stable,
          controller_left c e.task e.stands,
          stable_left c e.task e.stands,
          subst (λ (z : W). SavesTold (saving.faults z) (saving.faults e.task.job.player.stable) x.results e.task.job.player.controller.results)
              (some_is stable s.stable (sym stable_found ∙ s.stable_stands))
              (subst (λ (y : Controlling A). SavesTold (saving.faults s.stable) (saving.faults e.task.job.player.stable) y.results e.task.job.player.controller.results)
              (some_is x s.controller (sym found ∙ s.controller_stands)) (plays_last c there s e).2.told),
        )

    rest : drop setup.controllers stables_after ≡ drop setup.controllers stables
    rest =
        let long = map_long stable_of (map player_of h.members) ∙ map_long player_of h.members ∙ members_same in
        ap (λ (l : List W). drop setup.controllers l) h.stables_are ∙
        ap (λ (n : ℕ). drop n (map stable_of (map player_of h.members) ++ drop (length controllers) stables)) (sym long) ∙
        drop-append_seam (map stable_of (map player_of h.members)) (drop (length controllers) stables) ∙ ap (λ (n : ℕ). drop n stables) group_is

    pub left_paired : IsLeftPaired saving setup controllers stables stables_after played.controllers.items
    left_paired = record { group = controllers_long; pairs = pairs; told = told; beyond = λ i past. same_behind setup.controllers stables_after stables rest i past }

    module _ (members_calm : AreCalm h.members) (others_calm : AreCalm h.others) where
      controller_seated : (c : ℕ) (there : c < setup.controllers) (s : IsServedAt c) →
          IsSeatedIn (ServedPlays law saving sealing setup kinds (actor.Controller c) (record { controller = s.controller; stable = s.stable })) steps wire (actor.Controller c) member_jobs c
      controller_seated c there s =
          let start : Served A W = record { controller = s.controller; stable = s.stable } in
          let e = controller_ends c there s in
          record {
            job = e.task.job;
            stands = got_map (λ t. t.job) h.members c e.task e.stands;
            actor_is = e.ran.place.0;
            part = e.part;
            seen_part = e.ran.stands.part_is;
            ends = ended (ServedPlays law saving sealing setup kinds (actor.Controller c) start) e.task.job e.task.stop (members_calm c e.task e.stands) e.ran.stands.within
                (e.ran.ends setup kinds start (job_fresh (ServedPlays law saving sealing setup kinds (actor.Controller c) start) steps id (actor.Controller c) start s.plays));
          }

      switch_seated : (s : ℕ) → s < length setup.ports → IsSeatedIn (SwitchPlays sealing setup kinds (actor.Switch s) (starting_switch s setup)) steps wire (actor.Switch s) other_jobs s
      switch_seated s there =
          let start = starting_switch s setup in
          let e = switch_ends s there in
          record {
            job = e.task.job;
            stands = got_map (λ t. t.job) h.others s e.task e.stands;
            actor_is = e.ran.place.0;
            part = e.part;
            seen_part = e.ran.stands.part_is;
            ends = ended (SwitchPlays sealing setup kinds (actor.Switch s) start) e.task.job e.task.stop (others_calm s e.task e.stands) e.ran.stands.within
                (e.ran.ends setup kinds start (job_fresh (SwitchPlays sealing setup kinds (actor.Switch s) start) steps id (actor.Switch s) start (switch_fresh sealing setup kinds s)));
          }

      -- what the joined parts are, in all
      fused : (tasks : List (Task B (Served A W) G)) → map (λ j. j.player.controller) (map (λ (t : Task B (Served A W) G). t.job) tasks) ≡ map controller_of (map player_of tasks)
      fused [] = refl
      fused (t ∷ tasks) = ap (λ l. t.job.player.controller ∷ l) (fused tasks)

      fused_others : (tasks : List (Task B SwitchState G)) → map (λ j. j.player) (map (λ (t : Task B SwitchState G). t.job) tasks) ≡ map player_of tasks
      fused_others [] = refl
      fused_others (t ∷ tasks) = ap (λ l. t.job.player ∷ l) (fused_others tasks)

      members_are : map (λ j. j.player.controller) member_jobs ≡ played.controllers.items
      members_are = fused h.members ∙ sym h.controllers_are

      others_are : map (λ j. j.player) other_jobs ≡ played.switches.items
      others_are = fused_others h.others ∙ sym h.switches_are

      -- all of them joined
      abbrev joins_controllers : (c : ℕ) → c < setup.controllers →
          (start : Served A W) × IsSeatedIn (ServedPlays law saving sealing setup kinds (actor.Controller c) start) steps wire (actor.Controller c) member_jobs c
      joins_controllers c there = let s = served_at c there in (record { controller = s.controller; stable = s.stable }, controller_seated c there s)

      jobs_long : length member_jobs ≡ setup.controllers
      jobs_long = map_long (λ t. t.job) h.members ∙ members_same

      other_jobs_long : length other_jobs ≡ length setup.ports
      other_jobs_long = map_long (λ t. t.job) h.others ∙ others_same

      abbrev started : ℕ → SwitchState
      started s = starting_switch s setup

      -- what is left is legal
      legal : IsLegalPast (scene_of sealing setup kinds) (results_in played.controllers.items) (past wire)
      legal = subst (λ (cs : List (Controlling A)). IsLegalPast (scene_of sealing setup kinds) (results_in cs) (past wire)) members_are
          (joined.legal law saving sealing setup kinds steps wire member_jobs other_jobs started h.orderly named jobs_long other_jobs_long joins_controllers switch_seated)

      left_members : (c : ℕ) → c < setup.controllers → IsMember law (scene_of sealing setup kinds) (results_in played.controllers.items) (past wire) played.controllers.items c
      left_members = subst (λ (cs : List (Controlling A)). (c : ℕ) → c < setup.controllers → IsMember law (scene_of sealing setup kinds) (results_in cs) (past wire) cs c) members_are
          (joined.are_members law saving sealing setup kinds steps wire member_jobs other_jobs started h.orderly named jobs_long other_jobs_long joins_controllers switch_seated)

      pub left_legal : IsLeftLegal law saving sealing setup kinds controllers stables stables_after played
      left_legal = record { legal = legal; within = h.within; members = left_members; paired = left_paired }

      -- one that did all of its steps owes nothing
      none_owed : {P : Type 0} (plays : List _ → P → List _ → Type 0) (job : Job B P G) (o : Option Stop) → o ≡ None → EndsAs plays sealing.size steps job o → job.owed ≡ []
      none_owed plays job None is ends = ends.rests
      none_owed plays job (Some stop) is ends = absurd (let h = is in cc)

      abbrev Owed : Actor → List (Letter B)
      Owed a = joined.owed law saving sealing setup kinds steps wire member_jobs other_jobs started h.orderly named jobs_long other_jobs_long joins_controllers switch_seated a

      member_owes_none : (c : ℕ) → c < setup.controllers → ((t : Task B (Served A W) G) → slice_get h.members c ≡ Some t → t.stop ≡ None) → Owed (actor.Controller c) ≡ []
      unfolding controller_seated
      member_owes_none c there done =
          let s = served_at c there in
          let start : Served A W = record { controller = s.controller; stable = s.stable } in
          let e = controller_ends c there s in
          let plays = ServedPlays law saving sealing setup kinds (actor.Controller c) start in
          joined.owed_is plays steps wire (actor.Controller c) member_jobs c (controller_seated c there s) ∙
          none_owed plays e.task.job e.task.stop (done e.task e.stands) (e.ran.ends setup kinds start (job_fresh plays steps id (actor.Controller c) start s.plays))

      other_owes_none : (s : ℕ) → s < length setup.ports → ((t : Task B SwitchState G) → slice_get h.others s ≡ Some t → t.stop ≡ None) → Owed (actor.Switch s) ≡ []
      unfolding switch_seated
      other_owes_none s there done =
          let start = starting_switch s setup in
          let e = switch_ends s there in
          let plays = SwitchPlays sealing setup kinds (actor.Switch s) start in
          joined.owed_is plays steps wire (actor.Switch s) other_jobs s (switch_seated s there) ∙
          none_owed plays e.task.job e.task.stop (done e.task e.stands) (e.ran.ends setup kinds start (job_fresh plays steps id (actor.Switch s) start (switch_fresh sealing setup kinds s)))

      -- where each did all of its steps
      module _ (members_done : (i : ℕ) (t : Task B (Served A W) G) → slice_get h.members i ≡ Some t → t.stop ≡ None) (others_done : (i : ℕ) (t : Task B SwitchState G) → slice_get h.others i ≡ Some t → t.stop ≡ None) where
        owes_none : (a : Actor) → IsActor setup a → Owed a ≡ []
        owes_none (actor.Controller c) there = member_owes_none c there (members_done c)
        owes_none (actor.Switch s) there = other_owes_none s there (others_done s)

        pub has_played : HasPlayedApart law saving sealing setup kinds steps controllers stables stables_after played
        has_played = record {
          left_legal = left_legal;
          follows = subst (λ (cs : List (Controlling A)). FollowsApart (scene_of sealing setup kinds) (results_in cs) steps (past wire)) members_are
              (joined.follows law saving sealing setup kinds steps wire member_jobs other_jobs started h.orderly named jobs_long other_jobs_long joins_controllers switch_seated owes_none);
          played = subst (λ (cs : List (Controlling A)). IsPlayed law sealing (resting_world setup wire cs played.switches.items) kinds) members_are
              (subst (λ (ss : List SwitchState). IsPlayed law sealing (resting_world setup wire (map (λ j. j.player.controller) member_jobs) ss) kinds) others_are
              (joined.played law saving sealing setup kinds steps wire member_jobs other_jobs started h.orderly named jobs_long other_jobs_long joins_controllers switch_seated starts.is_setup starts.few owes_none));
        }

      -- one is stuck at these numbers
      module _ (bytes letters : ℕ) where
        full_at : {P : Type 0} (plays : List _ → P → List _ → Type 0) (job : Job B P G) (o : Option Stop) → o ≡ Some (JournalFull bytes letters) → EndsAs plays sealing.size steps job o →
            IsFull sealing.size (past job.place.seen) job.owed bytes letters
        full_at plays job None is ends = absurd (let h = is in cc)
        full_at plays job (Some OutOfMemory) is ends = absurd (let h = is in cc)
        full_at plays job (Some (JournalFull b l)) is ends = let one : b ≡ bytes = cc in let two : l ≡ letters = cc in subst (λ n. IsFull sealing.size (past job.place.seen) job.owed n letters) one (subst (λ n. IsFull sealing.size (past job.place.seen) job.owed b n) two ends.full)

        cut_short : (a : Actor) → IsCutFor (scene_of sealing setup kinds) (results_in (map (λ j. j.player.controller) member_jobs)) bytes letters (past wire) a →
            ((b : Actor) → IsActor setup b → IsBefore b a → Owed b ≡ []) →
            BeginsApart (scene_of sealing setup kinds) (results_in played.controllers.items) steps bytes letters (past wire)
        cut_short a cut first = subst (λ (cs : List (Controlling A)). BeginsApart (scene_of sealing setup kinds) (results_in cs) steps bytes letters (past wire)) members_are
            (joined.cut_short law saving sealing setup kinds steps wire member_jobs other_jobs started h.orderly named jobs_long other_jobs_long joins_controllers switch_seated bytes letters a cut first)

        pub member_stuck : HasStopped bytes letters h.members → BeginsApart (scene_of sealing setup kinds) (results_in played.controllers.items) steps bytes letters (past wire)
        unfolding controller_seated
        member_stuck st =
            let within = slice_get_within h.members st.number st.task st.stands in
            let same = members_same in
            let c = st.number in
            let there : st.number < setup.controllers = omega (arith, within, same) in
            let s = served_at c there in
            let start : Served A W = record { controller = s.controller; stable = s.stable } in
            let e = controller_ends c there s in
            let plays = ServedPlays law saving sealing setup kinds (actor.Controller c) start in
            cut_short (actor.Controller c)
            (joined.cut law saving sealing setup kinds steps wire member_jobs other_jobs started h.orderly named jobs_long other_jobs_long joins_controllers switch_seated plays (actor.Controller c) member_jobs c bytes letters
            there (controller_seated c there s) refl
            (full_at plays e.task.job e.task.stop (ap (λ (t : Task B (Served A W) G). t.stop) (some_is st.task e.task (sym st.stands ∙ e.stands)) ∙ st.stop_is)
            (e.ran.ends setup kinds start (job_fresh plays steps id (actor.Controller c) start s.plays))))
            its_first
          where
            its_first : (b : Actor) → IsActor setup b → IsBefore b (actor.Controller st.number) → Owed b ≡ []
            its_first (actor.Controller d) there before = member_owes_none d there (st.earlier d before)
            its_first (actor.Switch s) there before = absurd before

        pub other_stuck : first_stop None h.members ≡ None → HasStopped bytes letters h.others → BeginsApart (scene_of sealing setup kinds) (results_in played.controllers.items) steps bytes letters (past wire)
        unfolding switch_seated
        other_stuck none st =
            let within = slice_get_within h.others st.number st.task st.stands in
            let same = others_same in
            let s = st.number in
            let there : st.number < length setup.ports = omega (arith, within, same) in
            let start = starting_switch s setup in
            let e = switch_ends s there in
            let plays = SwitchPlays sealing setup kinds (actor.Switch s) start in
            cut_short (actor.Switch s)
            (joined.cut law saving sealing setup kinds steps wire member_jobs other_jobs started h.orderly named jobs_long other_jobs_long joins_controllers switch_seated plays (actor.Switch s) other_jobs s bytes letters
            there (switch_seated s there) refl
            (full_at plays e.task.job e.task.stop (ap (λ (t : Task B SwitchState G). t.stop) (some_is st.task e.task (sym st.stands ∙ e.stands)) ∙ st.stop_is)
            (e.ran.ends setup kinds start (job_fresh plays steps id (actor.Switch s) start (switch_fresh sealing setup kinds s)))))
            its_first
          where
            its_first : (b : Actor) → IsActor setup b → IsBefore b (actor.Switch st.number) → Owed b ≡ []
            its_first (actor.Controller d) there before = member_owes_none d there (none_stopped None h.members none d)
            its_first (actor.Switch t) there before = other_owes_none t there (st.earlier t before)

    -- the answer of the call
    pub none_stops : stop ≡ None → HasPlayedApart law saving sealing setup kinds steps controllers stables stables_after played
    none_stops is =
        let its : first_stop (first_stop None h.members) h.others ≡ None = sym h.stop_is ∙ is in
        let first : first_stop None h.members ≡ None = none_first (first_stop None h.members) h.others its in
        has_played (λ i t stands starved. absurd (let e = sym (none_stopped None h.members first i t stands) ∙ starved in let f : None ≡ Some OutOfMemory = e in cc))
        (λ i t stands starved. absurd (let e = sym (none_stopped (first_stop None h.members) h.others its i t stands) ∙ starved in let f : None ≡ Some OutOfMemory = e in cc))
        (none_stopped None h.members first) (none_stopped (first_stop None h.members) h.others its)

    pub some_stops : (why : Stop) → stop ≡ Some why → HaltsApart law saving sealing setup kinds steps controllers stables stables_after played why
    some_stops OutOfMemory is = left_paired
    some_stops (JournalFull bytes letters) is = (left_legal members_calm others_calm, by_who (who_stopped (first_stop None h.members) h.others bytes letters its))
      where
        its : first_stop (first_stop None h.members) h.others ≡ Some (JournalFull bytes letters)
        its = sym h.stop_is ∙ is

        calm : first_stop (first_stop None h.members) h.others ≡ Some OutOfMemory → ⊥
        calm starved = let e : Some (JournalFull bytes letters) ≡ Some OutOfMemory = sym its ∙ starved in cc

        members_calm : AreCalm h.members
        members_calm = are_calm None h.members (was_calm (first_stop None h.members) h.others calm)

        others_calm : AreCalm h.others
        others_calm = are_calm (first_stop None h.members) h.others calm

        by_member : (going_on ≡ Some (JournalFull bytes letters)) ⊎ ((going_on ≡ None) × HasStopped bytes letters h.members) →
            BeginsApart (scene_of sealing setup kinds) (results_in played.controllers.items) steps bytes letters (past wire)
        by_member (inl never) = absurd (let e = never in cc)
        by_member (inr (same, st)) = member_stuck members_calm others_calm bytes letters st

        by_who : (first_stop None h.members ≡ Some (JournalFull bytes letters)) ⊎ ((first_stop None h.members ≡ None) × HasStopped bytes letters h.others) →
            BeginsApart (scene_of sealing setup kinds) (results_in played.controllers.items) steps bytes letters (past wire)
        by_who (inl first) = by_member (who_stopped None h.members bytes letters first)
        by_who (inr (none, st)) = other_stuck members_calm others_calm bytes letters none st
