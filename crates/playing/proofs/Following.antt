-- A script is followed step by step.
use Rattle.std.proofs.Common.{◌≡◌, ◌⊎◌, inl, inr, ℕ, ◌+◌, Bool, true, false, List, [], ◌∷◌, ◌++◌, length, refl, sym, ◌∙◌, ap, subst, arith, append-nil}
use Rattle.std.specs.Prelude.{count_by, reverse, slice_get, Option, Some, None, if◌then◌else◌}
use Rattle.std.proofs.lemmas.List.Sums.{sum_by-append}
use Rattle.of_types.specs.declared.setup.Setup.{Setup}
use Rattle.journal.specs.declared.journal.Actor.{Actor}
use Rattle.journal.specs.declared.journal.JournalEntry.{JournalEntry}
use Rattle.journal.specs.declared.journal.JournalEntry.TheVariants.{Post, Refused}
use Rattle.journal.specs.declared.journal.Packet.{Packet}
use Rattle.journal.specs.declared.journal.SaveResult.{SaveResult}
use Rattle.journal.specs.declared.journal.Turn.{Turn}
use Rattle.journal.specs.declared.journal.Turn.TheVariants as turn
use Rattle.journal.specs.declared.wire.Stop.{Stop}
use Rattle.journal.specs.declared.wire.Stop.TheVariants.{OutOfMemory, JournalFull}
use Rattle.journal.specs.Actors.{actor_of, is_input, same_actor, IsActor}
use Rattle.journal.specs.Pool.{past, pick}
use Rattle.journal.specs.Refusals.{MayBeRefused}
use Rattle.journal.specs.Turns.{drawn_entry, entry_of, lost_entry, turn_actor}
use Rattle.journal.proofs.Lists.{past-push}
use Rattle.journal.specs.Stables.{Saving}
use Rattle.app_core.specs.Law.{AppLaw}
use Rattle.run_laws.specs.Laws.{EntrySuspectsUpTo, IsSuspectedUpTo}
use Rattle.run_spec.specs.Script.{FollowsInOrder, IsPosted, IsStepOf, TakesInOrder, inputs}
use Rattle.run_spec.specs.Limit.{IsBegun, In_the_script}
use Rattle.run_spec.specs.States.{Scene, Sealing}
use Rattle.world.specs.Refusals.{IsHalted, IsRefusalBehind, None_stands, One_stands, Posted, Turned_down, TurnStops, Unchanged, Unposted}
use Rattle.world.specs.World.{AreMore, Applies, Holds, IsStuck, Keeps, PairsStand, Worlding, results_in, scene_in, taken, with_posts}
use Rattle.world.specs.Debts.{Debt}
use Rattle.world.proofs.Growing.{more_then, no_more}
use Rattle.world.proofs.Turning.{keeps_then, rests_keeps}
use Rattle.closing.proofs.Leading.{runs_again, turned, turned_by, step_suspects}
use Rattle.closing.proofs.Turned.{Added, No_post, One_post, PostsOf, Turned, added_alone, more_before, more_told, owed_nothing, past_new}
use Rattle.closing.proofs.Worlds.{posted_is}
use Rattle.closing.specs.Views.{StepSuspectsUpTo}
use Rattle.playing.proofs.Stopping.{same_self, stuck_full}
use Rattle.playing.specs.Played.{IsHaltedIn, Lastingly, RunStops}
use Rattle.playing.specs.Played as halted

-- the step behind those that were taken
pub stands_behind : {X : Type 0} (taken : List X) (x : X) (rest all : List X) → taken ++ x ∷ rest ≡ all → slice_get all (length taken) ≡ Some x
stands_behind {X = X} taken x rest all is = subst (λ l. slice_get l (length taken) ≡ Some x) is (at_end taken)
  where
    at_end : (front : List X) → slice_get (front ++ x ∷ rest) (length front) ≡ Some x
    at_end [] = refl
    at_end (y ∷ front) = at_end front

-- the entry of the next step is that of a step
step_of : {B : Type 0} (steps : List Turn) (step : Turn) (before : List (JournalEntry B)) → slice_get steps (inputs before) ≡ Some step → IsStepOf steps (entry_of step before) before
step_of steps (turn.Draw a choice keep) before next = by_found (pick a choice before) refl
  where
    by_found : (o : Option (Packet _)) → pick a choice before ≡ o → IsStepOf steps (drawn_entry a keep o) before
    by_found None is = (turn.Draw a choice keep, next, rw is refl)
    by_found (Some p) is = (turn.Draw a choice keep, next, rw is refl)
step_of steps (turn.Lose a choice) before next = by_found (pick a choice before) refl
  where
    by_found : (o : Option (Packet _)) → pick a choice before ≡ o → IsStepOf steps (lost_entry a o) before
    by_found None is = (turn.Lose a choice, next, rw is refl)
    by_found (Some p) is = (turn.Lose a choice, next, rw is refl)
step_of steps (turn.Local a input) before next = (turn.Local a input, next, refl)

-- one more entry takes an input, or none
count_next : {X : Type 0} (p : X → Bool) (x : X) (xs : List X) (b : Bool) → p x ≡ b → count_by p (x ∷ xs) ≡ (if b then 1 else 0) + count_by p xs
count_next p x xs true is = sum_by-append (λ y. if p y then 1 else 0) (x ∷ []) xs ∙ rw is refl
count_next p x xs false is = sum_by-append (λ y. if p y then 1 else 0) (x ∷ []) xs ∙ rw is refl

module _ {B A : Type 0} (law : AppLaw A) (scene : Scene B) (e : JournalEntry B) (old new : Worlding B A) (t : Turned law scene e old new) where
  -- a step was taken
  pub inputs_next : inputs (past new.journal) ≡ inputs (past old.journal) + 1
  inputs_next = ap inputs (past_new law scene e old new t) ∙ by_posts t.posts (actor_of e) t.of
    where
      one : inputs (e ∷ past old.journal) ≡ inputs (past old.journal) + 1
      one = let n = count_next is_input e (past old.journal) true t.input in omega (arith, n)

      by_posts : (posts : List (JournalEntry B)) (a : Actor) → PostsOf a posts → inputs (reverse posts ++ e ∷ past old.journal) ≡ inputs (past old.journal) + 1
      by_posts posts a No_post = one
      by_posts posts a (One_post first letters lost) = let n = count_next is_input (Post a first letters lost) (e ∷ past old.journal) false refl in let m = one in omega (arith, n, m)

  module _ (steps : List Turn) (step : Turn) (is : e ≡ entry_of step (past old.journal)) (next : slice_get steps (inputs (past old.journal)) ≡ Some step)
      (later : List (List SaveResult)) (more : AreMore scene.setup.controllers (results_in new.controllers) later) (takes : TakesInOrder scene later steps (past old.journal)) where
    pub takes_entry : TakesInOrder scene later steps (e ∷ past old.journal)
    takes_entry = (
      subst (λ x. IsStepOf steps x (past old.journal)) (sym is) (step_of steps step (past old.journal) next),
      (λ _. posted_is law scene old t.was later (more_before law scene e old new t later more) t.rested),
      takes,
    )

    -- and its outbox was posted
    pub takes_turn : TakesInOrder scene later steps (past new.journal)
    takes_turn = subst (λ l. TakesInOrder scene later steps l) (sym (past_new law scene e old new t)) (by_posts t.posts (actor_of e) refl t.of)
      where
        never : false ≡ true → ⊥
        never h = cc

        by_posts : (posts : List (JournalEntry B)) (a : Actor) → actor_of e ≡ a → PostsOf a posts → TakesInOrder scene later steps (reverse posts ++ e ∷ past old.journal)
        by_posts posts a mine No_post = takes_entry
        by_posts posts a mine (One_post first letters lost) = ((t.input, ap (λ x. same_actor x a) mine ∙ same_self a), (λ h. absurd (never h)), takes_entry)

-- the views that were suspected
pub suspects_turn : {B A : Type 0} (law : AppLaw A) (scene : Scene B) (e : JournalEntry B) (old new : Worlding B A) (t : Turned law scene e old new) (limit : ℕ) (step : Turn) → e ≡ entry_of step (past old.journal) →
    StepSuspectsUpTo limit step → IsSuspectedUpTo limit (past old.journal) → IsSuspectedUpTo limit (past new.journal)
suspects_turn law scene e old new t limit step is within before =
    subst (λ l. IsSuspectedUpTo limit l) (sym (past_new law scene e old new t)) (by_posts t.posts (actor_of e) t.of)
  where
    entry : EntrySuspectsUpTo limit e
    entry = subst (λ x. EntrySuspectsUpTo limit x) (sym is) (step_suspects limit step (past old.journal) within)

    by_posts : (posts : List (JournalEntry _)) (a : Actor) → PostsOf a posts → IsSuspectedUpTo limit (reverse posts ++ e ∷ past old.journal)
    by_posts posts a No_post = (entry, before)
    by_posts posts a (One_post first letters lost) = (tt, (entry, before))

-- where a script stands in a world
pub record Stands {B A W : Type 0} (law : AppLaw A) (saving : Saving W) (sealing : Sealing B) (steps : List Turn) (limit count : ℕ)
    (first : Worlding B A) (stables : List W) (now : Worlding B A) (stables_now : List W) : Type 0 where
  pub keeps : Keeps law saving sealing first stables now stables_now
  pub rests : now.owed ≡ None
  pub views : IsSuspectedUpTo limit (past now.journal)
  pub counted : inputs (past now.journal) ≡ count
  pub takes : (kinds : List ℕ) → Holds law sealing first kinds → Lastingly now (λ later. TakesInOrder (scene_in sealing first kinds) later steps (past now.journal))

module _ {B A W : Type 0} (law : AppLaw A) (saving : Saving W) (sealing : Sealing B) (steps : List Turn) (limit : ℕ) (first : Worlding B A) (stables : List W) where
  pub stands_first : first.owed ≡ None → first.journal ≡ [] → PairsStand saving stables first.controllers → Stands law saving sealing steps limit 0 first stables first stables
  stands_first rests fresh pairs = record {
    keeps = rests_keeps law saving sealing first first stables refl refl (λ kinds h. h) pairs;
    rests = rests;
    views = subst (λ l. IsSuspectedUpTo limit (past l)) (sym fresh) tt;
    counted = ap (λ l. inputs (past l)) fresh;
    takes = λ kinds h later more. subst (λ l. TakesInOrder (scene_in sealing first kinds) later steps (past l)) (sym fresh) tt;
  }

  -- what is to be shown of one step of a world that holds
  module _ (some : (kinds : List ℕ) × Holds law sealing first kinds) (count : ℕ) (old new : Worlding B A) (stables_old stables_new : List W) (at : Stands law saving sealing steps limit count first stables old stables_old)
      (step : Turn) (next : slice_get steps count ≡ Some step) (named : IsActor first.setup (turn_actor step)) (within : StepSuspectsUpTo limit step) where
    abbrev e : JournalEntry B
    e = entry_of step (past old.journal)

    named_now : IsActor old.setup (turn_actor step)
    named_now = subst (λ s. IsActor s (turn_actor step)) (sym at.keeps.setup) named

    next_now : slice_get steps (inputs (past old.journal)) ≡ Some step
    next_now = ap (λ n. slice_get steps n) at.counted ∙ next

    of_step : (s : Turn) (before : List (JournalEntry B)) → (actor_of (entry_of s before) ≡ turn_actor s) × (is_input (entry_of s before) ≡ true)
    of_step (turn.Draw a choice keep) before = by_found (pick a choice before)
      where
        by_found : (o : Option (Packet B)) → (actor_of (drawn_entry a keep o) ≡ a) × (is_input (drawn_entry a keep o) ≡ true)
        by_found None = (refl, refl)
        by_found (Some p) = (refl, refl)
    of_step (turn.Lose a choice) before = by_found (pick a choice before)
      where
        by_found : (o : Option (Packet B)) → (actor_of (lost_entry a o) ≡ a) × (is_input (lost_entry a o) ≡ true)
        by_found None = (refl, refl)
        by_found (Some p) = (refl, refl)
    of_step (turn.Local a input) before = (refl, refl)

    later_scene : (kinds : List ℕ) → scene_in sealing old kinds ≡ scene_in sealing first kinds
    later_scene kinds = ap (λ s. record { setup = s; kinds = kinds; sealing = sealing }) at.keeps.setup

    turn_of : (kinds : List ℕ) → Holds law sealing first kinds → Keeps law saving sealing old stables_old new stables_new → Applies sealing.size step old new → Turned law (scene_in sealing old kinds) e old new
    turn_of kinds h k applied =
        turned law saving sealing old stables_old new stables_new step e at.rests at.keeps.pairs refl (sym (of_step step (past old.journal)).0) (subst (λ a. IsActor old.setup a) (sym (of_step step (past old.journal)).0) named_now) (of_step step (past old.journal)).1 kinds (at.keeps.holds kinds h) k applied

    pub stands_next : Keeps law saving sealing old stables_old new stables_new → Applies sealing.size step old new → Stands law saving sealing steps limit (count + 1) first stables new stables_new
    stands_next k applied =
        let t = turn_of some.0 some.1 k applied in
        record {
          keeps = keeps_then law saving sealing first old new stables stables_old stables_new at.keeps k;
          rests = applied.rests;
          views = suspects_turn law (scene_in sealing old some.0) e old new t limit step refl within at.views;
          counted = inputs_next law (scene_in sealing old some.0) e old new t ∙ ap (λ n. n + 1) at.counted;
          takes = λ kinds h later more.
              let u = turn_of kinds h k applied in
              let more_now = subst (λ s. AreMore s.controllers (results_in new.controllers) later) k.setup more in
              subst (λ scene. TakesInOrder scene later steps (past new.journal)) (later_scene kinds)
              (takes_turn law (scene_in sealing old kinds) e old new u steps step refl next_now later more_now
              (subst (λ scene. TakesInOrder scene later steps (past old.journal)) (sym (later_scene kinds)) (at.takes kinds h later (more_before law (scene_in sealing old kinds) e old new u later more_now))));
        }

    -- what becomes of later saves becomes of them behind what was taken before
    more_old : Keeps law saving sealing old stables_old new stables_new → (kinds : List ℕ) → Holds law sealing first kinds → (later : List (List SaveResult)) →
        AreMore new.setup.controllers (results_in new.controllers) later → AreMore old.setup.controllers (results_in old.controllers) later
    more_old k kinds h later more =
        more_then old.setup.controllers (results_in old.controllers) (results_in new.controllers) later
        (more_told law (scene_in sealing old kinds) saving old new stables_old stables_new (at.keeps.holds kinds h).run at.keeps.pairs k.told)
        (subst (λ (s : Setup). AreMore s.controllers (results_in new.controllers) later) k.setup more)

    -- the entry of the step stands behind it
    taken_entry : Keeps law saving sealing old stables_old new stables_new → (kinds : List ℕ) → Holds law sealing first kinds →
        Lastingly new (λ later. TakesInOrder (scene_in sealing first kinds) later steps (past (old.journal ++ e ∷ [])))
    taken_entry k kinds h later more =
        let was = more_old k kinds h later more in
        subst (λ (l : List (JournalEntry B)). TakesInOrder (scene_in sealing first kinds) later steps l) (sym (past-push old.journal e)) (
          step_of steps step (past old.journal) next_now,
          (λ _. subst (λ scene. IsPosted scene later (past old.journal)) (later_scene kinds) (posted_is law (scene_in sealing old kinds) old (at.keeps.holds kinds h).run later was at.rests)),
          at.takes kinds h later was,
        )

    taken_is : taken step (with_posts sealing.size old).journal ≡ old.journal ++ e ∷ []
    taken_is = ap (λ l. taken step l) (owed_nothing sealing.size old at.rests)

    -- the turn found no memory
    halts_next : Keeps law saving sealing old stables_old new stables_new → IsHalted sealing.size step old new → (kinds : List ℕ) → Holds law sealing first kinds → IsHaltedIn (scene_in sealing first kinds) steps new
    halts_next k (Unchanged same) kinds h =
        halted.In_the_script old.journal [] (ap (λ w. w.journal) same ∙ sym (append-nil old.journal)) None_stands (λ later more. at.takes kinds h later (more_old k kinds h later more))
    halts_next k (Posted same) kinds h =
        halted.In_the_script old.journal [] (ap (λ w. w.journal) same ∙ owed_nothing sealing.size old at.rests ∙ sym (append-nil old.journal)) None_stands
        (λ later more. at.takes kinds h later (more_old k kinds h later more))
    halts_next k (Turned_down r) kinds h =
        let its = of_step step (past old.journal) in
        halted.In_the_script (old.journal ++ e ∷ []) (Refused (turn_actor step) ∷ []) (r.journal ∙ ap (λ l. l ++ Refused (turn_actor step) ∷ []) taken_is)
        (subst (λ (l : List (JournalEntry B)). IsRefusalBehind l (Refused (turn_actor step) ∷ [])) (sym (past-push old.journal e))
        (One_stands (turn_actor step) (subst (λ (l : List (JournalEntry B)). MayBeRefused l) (ap past taken_is ∙ past-push old.journal e) r.input)
        (its.1, ap (λ a. same_actor a (turn_actor step)) its.0 ∙ same_self (turn_actor step))))
        (taken_entry k kinds h)
    halts_next k (Unposted u) kinds h =
        halted.In_the_script (old.journal ++ e ∷ []) [] (u.journal ∙ taken_is ∙ sym (append-nil (old.journal ++ e ∷ []))) None_stands (taken_entry k kinds h)

    -- or met the limit of the journal
    pub stops_next : (stop : Stop) → Keeps law saving sealing old stables_old new stables_new → TurnStops sealing.size step old new stop → (kinds : List ℕ) → Holds law sealing first kinds →
        RunStops (scene_in sealing first kinds) steps new stop
    stops_next OutOfMemory k stops kinds h = halts_next k stops kinds h
    stops_next (JournalFull bytes letters) k (stuck, how) kinds h = by_how how
      where
        begun : Added step old new → RunStops (scene_in sealing first kinds) steps new (JournalFull bytes letters)
        begun a =
            let u = turned_by law saving sealing old stables_old new stables_new step e at.rests at.keeps.pairs refl (sym (of_step step (past old.journal)).0)
            (subst (λ x. IsActor old.setup x) (sym (of_step step (past old.journal)).0) named_now) (of_step step (past old.journal)).1 kinds (at.keeps.holds kinds h) k a in
            let later = results_in new.controllers in
            let more = no_more old.setup.controllers later in
            let takes = takes_turn law (scene_in sealing old kinds) e old new u steps step refl next_now later more
            (subst (λ scene. TakesInOrder scene later steps (past old.journal)) (sym (later_scene kinds)) (at.takes kinds h later (more_before law (scene_in sealing old kinds) e old new u later more))) in
            subst (λ scene. IsBegun scene later steps bytes letters (past new.journal)) (later_scene kinds)
            (In_the_script takes (stuck_full law (scene_in sealing old kinds) new u.is bytes letters stuck))

        by_how : (new ≡ old) ⊎ (new.journal ≡ taken step (with_posts sealing.size old).journal) → RunStops (scene_in sealing first kinds) steps new (JournalFull bytes letters)
        by_how (inl same) = absurd (never_stuck same stuck)
          where
            by_owed : (o : Option (Debt B)) → new.owed ≡ o → o ≡ None → IsStuck sealing.size new bytes letters → ⊥
            by_owed None is none s = rw is at s
            by_owed (Some d) is none s = cc

            never_stuck : new ≡ old → IsStuck sealing.size new bytes letters → ⊥
            never_stuck eq s = by_owed new.owed refl (ap (λ w. w.owed) eq ∙ at.rests) s
        by_how (inr grown) = begun (added_alone sealing.size step old new at.rests grown)

    pub keeps_next : Keeps law saving sealing old stables_old new stables_new → Keeps law saving sealing first stables new stables_new
    keeps_next k = keeps_then law saving sealing first old new stables stables_old stables_new at.keeps k

  -- all steps were taken
  pub stands_last : (now : Worlding B A) (stables_now : List W) (count : ℕ) → Stands law saving sealing steps limit count first stables now stables_now → count ≡ length steps → (kinds : List ℕ) → Holds law sealing first kinds →
      Lastingly now (λ later. FollowsInOrder (scene_in sealing first kinds) later steps (past now.journal))
  stands_last now stables_now count at all kinds h later more =
      let runs = runs_again law sealing first now kinds at.keeps.setup (at.keeps.holds kinds h) in
      record {
        takes = at.takes kinds h later more;
        all = at.counted ∙ all;
        posted = posted_is law (scene_in sealing first kinds) now runs later (subst (λ s. AreMore s.controllers (results_in now.controllers) later) at.keeps.setup more) at.rests;
      }
