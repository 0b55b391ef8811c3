-- Jobs that have ended, and whose entries are the parts of one journal: the journal is that of a run, and follows the script.
use Rattle.std.proofs.Common.{◌≡◌, ◌<◌, ◌≤◌, ℕ, List, [], ◌++◌, length, map, refl, sym, ◌∙◌, ap, subst}
use Rattle.std.specs.Prelude.{Option}
use Rattle.std.specs.List.{AllByRecursion}
use Rattle.std.proofs.lemmas.List.{reverse-append}
use Rattle.of_types.specs.declared.setup.Setup.{Setup}
use Rattle.of_types.specs.Setups.{IsSetup}
use Rattle.journal.specs.declared.journal.Actor.{Actor}
use Rattle.journal.specs.declared.journal.Actor.TheVariants as actor
use Rattle.journal.specs.declared.journal.JournalEntry.{JournalEntry}
use Rattle.journal.specs.declared.journal.Letter.{Letter}
use Rattle.journal.specs.declared.journal.Packet.{Packet}
use Rattle.journal.specs.declared.journal.Turn.{Turn}
use Rattle.journal.specs.Actors.{actor_of, IsActor}
use Rattle.journal.specs.Orderly.{IsOrderly}
use Rattle.journal.specs.Part.{part}
use Rattle.journal.specs.Pool.{past}
use Rattle.journal.specs.Turns.{IsFull}
use Rattle.of_switch.specs.State.{SwitchState}
use Rattle.group_controller.specs.Turns.{Controlling}
use Rattle.run_spec.specs.States.{Scene, Sealing, controller_at, controller_message, switch_at, switch_message}
use Rattle.run_spec.specs.Legal.{IsLegalPast, results_of}
use Rattle.run_spec.specs.Script.{owed_of}
use Rattle.world.specs.World.{IsMember, IsOwed, IsPlayed, resting_world, results_in}
use Rattle.world.specs.Standing.{AllStand, ControllerStands, SwitchStands}
use Rattle.world.proofs.Joining as joining
use Rattle.world.proofs.Standing.{none_said}
use Rattle.running.specs.declared.job.Job.{Job}
use Rattle.running.specs.declared.seated.Served.{Served}
use Rattle.running.specs.Apart.{steps_of, BeginsAlone, BeginsApart, FollowsApart, IsBefore, IsCutFor}
use Rattle.running.specs.Jobs.{IsSeatedIn, owed_at}
use Rattle.running.specs.Playing.{ServedPlays, SwitchPlays, scene_of}
use Rattle.running.proofs.Following.{Taken, still}
use Rattle.running.proofs.Lists.{got_map, map_long}
use Rattle.app_core.specs.Law.{AppLaw}
use Rattle.journal.specs.Stables.{Saving}
use Rattle.app_core.specs.Chain.{given_by}
use Rattle.dispatcher.specs.Ledger.{most_commands}

same_controller : (c d : ℕ) → actor.Controller c ≡ actor.Controller d → d ≡ c
same_controller c d h = cc

same_switch : (c d : ℕ) → actor.Switch c ≡ actor.Switch d → d ≡ c
same_switch c d h = cc

module _ {B G P : Type 0} (plays : List (JournalEntry B × Option (Packet B)) → P → List (Letter B) → Type 0) (steps : List Turn) (journal : List (JournalEntry B)) (a : Actor) (jobs : List (Job B P G)) (number : ℕ)
    (s : IsSeatedIn plays steps journal a jobs number) where
  behind : past journal ≡ past s.part.seen.0 ++ past s.job.place.seen
  behind = ap past s.part.seen.1 ∙ reverse-append s.job.place.seen s.part.seen.0

  own_is : s.job.place.own ≡ part a (past journal)
  own_is = s.part.part_is ∙ ap (λ (x : Actor). part x (past journal)) s.actor_is

  same_part : part s.job.place.actor (past journal) ≡ part s.job.place.actor (past s.job.place.seen)
  same_part = sym s.part.part_is ∙ s.seen_part

  -- it has taken its steps in the whole journal too
  pub taken : Taken a steps s.ends.number (past journal)
  taken = subst (λ (x : Actor). Taken x steps s.ends.number (past journal)) s.actor_is
      (subst (λ (l : List (JournalEntry B)). Taken s.job.place.actor steps s.ends.number l) (sym behind)
      (still s.job.place.actor steps s.ends.number (past s.part.seen.0) (past s.job.place.seen) (ap (part s.job.place.actor) (sym behind) ∙ same_part)
      (record { takes = s.ends.on.takes; count = s.ends.on.count })))

  pub owed_is : owed_at jobs number ≡ s.job.owed
  owed_is = rw (owed_at, s.stands) refl

  pub all_taken : s.job.owed ≡ [] → s.ends.number ≡ length (steps_of a steps)
  all_taken none = s.ends.all none ∙ ap (λ (x : Actor). length (steps_of x steps)) s.actor_is

module _ {B G A W : Type 0} (law : AppLaw A) (saving : Saving W) (sealing : Sealing B) (setup : Setup) (kinds : List ℕ) (steps : List Turn)
    (journal : List (JournalEntry B)) (controllers : List (Job B (Served A W) G)) (switches : List (Job B SwitchState G)) (started : ℕ → SwitchState)
    (orderly : IsOrderly sealing.size (past journal)) (named : AllByRecursion (λ e. IsActor setup (actor_of e)) (past journal))
    (group : length controllers ≡ setup.controllers) (count : length switches ≡ length setup.ports)
    (controllers_end : (c : ℕ) → c < setup.controllers →
    (start : Served A W) × IsSeatedIn (ServedPlays law saving sealing setup kinds (actor.Controller c) start) steps journal (actor.Controller c) controllers c)
    (switches_end : (s : ℕ) → s < length setup.ports → IsSeatedIn (SwitchPlays sealing setup kinds (actor.Switch s) (started s)) steps journal (actor.Switch s) switches s) where
  abbrev scene : Scene B
  scene = scene_of sealing setup kinds

  abbrev members : List (Controlling A)
  members = map (λ j. j.player.controller) controllers

  abbrev states : List SwitchState
  states = map (λ j. j.player) switches

  abbrev pub owed : Actor → List (Letter B)
  owed (actor.Controller c) = owed_at controllers c
  owed (actor.Switch s) = owed_at switches s

  pub stand : AllStand law scene (past journal) members states owed
  stand = record {
    group = map_long (λ j. j.player.controller) controllers ∙ group;
    count = map_long (λ j. j.player) switches ∙ count;
    controllers_stand = λ c there.
        let s = (controllers_end c there).1 in
        let plays = ServedPlays law saving sealing setup kinds (actor.Controller c) (controllers_end c there).0 in
        let p = s.ends.on.plays_it in (
          s.job.player.controller,
          got_map (λ j. j.player.controller) controllers c s.job s.stands,
          subst (λ (o : List (Letter B)). ControllerStands law scene c (part (actor.Controller c) (past journal)) s.job.player.controller o)
              (sym (owed_is plays steps journal (actor.Controller c) controllers c s))
              (subst (λ (l : List (JournalEntry B × Option (Packet B))). ControllerStands law scene c l s.job.player.controller s.job.owed)
              (own_is plays steps journal (actor.Controller c) controllers c s)
              (subst (λ (n : ℕ). ControllerStands law scene n s.job.place.own s.job.player.controller s.job.owed) (same_controller c p.number p.is) p.stands)),
        );
    switches_stand = λ n there.
        let s = switches_end n there in
        let p = s.ends.on.plays_it in (
          s.job.player,
          got_map (λ j. j.player) switches n s.job s.stands,
          subst (λ (o : List (Letter B)). SwitchStands scene n (part (actor.Switch n) (past journal)) s.job.player o)
              (sym (owed_is (SwitchPlays sealing setup kinds (actor.Switch n) (started n)) steps journal (actor.Switch n) switches n s))
              (subst (λ (l : List (JournalEntry B × Option (Packet B))). SwitchStands scene n l s.job.player s.job.owed)
              (own_is (SwitchPlays sealing setup kinds (actor.Switch n) (started n)) steps journal (actor.Switch n) switches n s)
              (subst (λ (m : ℕ). SwitchStands scene m s.job.place.own s.job.player s.job.owed) (same_switch n p.number p.is) p.stands)),
        );
  }

  pub legal : IsLegalPast scene (results_in members) (past journal)
  legal = joining.legal law scene (past journal) members states owed stand named orderly

  pub are_members : (c : ℕ) → c < setup.controllers → IsMember law scene (results_in members) (past journal) members c
  are_members c there = joining.members law scene (past journal) members states owed stand named orderly c there

  -- what each owes by the journal is what its job owes
  pub owes : (a : Actor) → IsActor setup a → owed_of scene (results_in members) a (past journal) ≡ owed a
  owes (actor.Controller c) there = sym (joining.controller_owes law scene (past journal) members states owed stand named orderly c there).sealed
  owes (actor.Switch s) there = sym (joining.switch_owes law scene (past journal) members states owed stand named orderly s there).sealed

  -- each has begun its steps
  pub begins : (a : Actor) → IsActor setup a → BeginsAlone scene (results_in members) steps (past journal) a
  begins (actor.Controller c) there =
      let plays = ServedPlays law saving sealing setup kinds (actor.Controller c) (controllers_end c there).0 in
      let s = (controllers_end c there).1 in
      let t = taken plays steps journal (actor.Controller c) controllers c s in record {
        takes = t.takes;
        all = λ none. t.count ∙ all_taken plays steps journal (actor.Controller c) controllers c s
            (sym (owed_is plays steps journal (actor.Controller c) controllers c s) ∙ sym (owes (actor.Controller c) there) ∙ none);
      }
  begins (actor.Switch n) there =
      let plays = SwitchPlays sealing setup kinds (actor.Switch n) (started n) in
      let s = switches_end n there in
      let t = taken plays steps journal (actor.Switch n) switches n s in record {
        takes = t.takes;
        all = λ none. t.count ∙ all_taken plays steps journal (actor.Switch n) switches n s
            (sym (owed_is plays steps journal (actor.Switch n) switches n s) ∙ sym (owes (actor.Switch n) there) ∙ none);
      }

  -- and followed them, where nothing is owed
  pub follows : ((a : Actor) → IsActor setup a → owed a ≡ []) → FollowsApart scene (results_in members) steps (past journal)
  follows rest a there =
      let b = begins a there in
      let none = owes a there ∙ rest a there in record { takes = b.takes; all = b.all none; posted = none }

  -- one that is stuck cuts the run short
  pub cut : {P : Type 0} (plays : List (JournalEntry B × Option (Packet B)) → P → List (Letter B) → Type 0) (a : Actor) (jobs : List (Job B P G)) (number : ℕ) (bytes letters : ℕ) → IsActor setup a →
      (s : IsSeatedIn plays steps journal a jobs number) → owed_at jobs number ≡ owed a → IsFull sealing.size (past s.job.place.seen) s.job.owed bytes letters →
      IsCutFor scene (results_in members) bytes letters (past journal) a
  cut plays a jobs number bytes letters there s same full = record {
    there = there;
    later = past s.part.seen.0;
    met = past s.job.place.seen;
    joined = behind plays steps journal a jobs number s;
    its = subst (λ (x : Actor). part x (past journal) ≡ part x (past s.job.place.seen)) s.actor_is (same_part plays steps journal a jobs number s);
    full = subst (λ (o : List (Letter B)). IsFull sealing.size (past s.job.place.seen) o bytes letters) (sym (owed_is plays steps journal a jobs number s) ∙ same ∙ sym (owes a there)) full;
  }

  pub cut_short : (bytes letters : ℕ) (a : Actor) → IsCutFor scene (results_in members) bytes letters (past journal) a → ((b : Actor) → IsActor setup b → IsBefore b a → owed b ≡ []) →
      BeginsApart scene (results_in members) steps bytes letters (past journal)
  cut_short bytes letters a short first = record { each = begins; stuck = a; cut = short; first = λ b there before. owes b there ∙ first b there before }

  -- the world that takes it over, where nothing is owed
  pub played : IsSetup setup → given_by kinds ≤ most_commands → ((a : Actor) → IsActor setup a → owed a ≡ []) → IsPlayed law sealing (resting_world setup journal members states) kinds
  played is_setup few rest = record {
    setup = is_setup;
    few = few;
    legal = legal;
    group = stand.group;
    count = stand.count;
    controllers = are_members;
    switches = λ s there. joining.switches_are law scene (past journal) members states owed stand named orderly s there;
    controllers_rest = λ c there. none_said sealing controller_message (controller_at scene (results_of (results_in members) c) c (part (actor.Controller c) (past journal))).owed []
        (subst (λ o. IsOwed controller_message sealing (controller_at scene (results_of (results_in members) c) c (part (actor.Controller c) (past journal))).owed o) (rest (actor.Controller c) there)
        (joining.controller_owes law scene (past journal) members states owed stand named orderly c there)).sealed refl;
    switches_rest = λ s there. none_said sealing switch_message (switch_at scene s (part (actor.Switch s) (past journal))).owed []
        (subst (λ o. IsOwed switch_message sealing (switch_at scene s (part (actor.Switch s) (past journal))).owed o) (rest (actor.Switch s) there)
        (joining.switch_owes law scene (past journal) members states owed stand named orderly s there)).sealed refl;
  }
