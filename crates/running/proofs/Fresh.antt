-- The actors of a world as it starts, and what threads keep of it.
use Rattle.std.proofs.Common.{◌≡◌, ◌≤◌, ◌<◌, ℕ, ◌+◌, zero, suc, List, [], ◌∷◌, length, refl, sym, ◌∙◌, ap, subst, arith}
use Rattle.std.specs.Prelude.{Some, slice_get, map}
use Rattle.std.specs.List.{AllByRecursion, range_with_len}
use Rattle.std.proofs.lemmas.Option.{slice_get_within}
use Rattle.journal.specs.declared.journal.Actor.TheVariants as actor
use Rattle.journal.specs.declared.journal.Turn.{Turn}
use Rattle.journal.specs.declared.wire.Stop.{Stop}
use Rattle.of_types.specs.declared.setup.Setup.{Setup}
use Rattle.journal.specs.Actors.{IsActor}
use Rattle.journal.specs.Part.{part}
use Rattle.journal.specs.Pool.{past}
use Rattle.journal.specs.Stables.{Saving}
use Rattle.journal.specs.Turns.{turn_actor}
use Rattle.app_core.specs.Law.{AppLaw}
use Rattle.of_switch.specs.State.{SwitchState, starting_switch}
use Rattle.group_controller.specs.Turns.{Controlling}
use Rattle.run_spec.specs.Committed.{controller_state, switch_state}
use Rattle.run_spec.specs.Legal.{results_of}
use Rattle.run_spec.specs.States.{Sealing, controller_at}
use Rattle.world.specs.World.{AreTold, Holds, IsNew, IsPlayed, Keeps, PairsStand, Worlding, resting_world, results_in, scene_in, starting_switches}
use Rattle.world.proofs.Places.{results_at}
use Rattle.running.specs.declared.run.Played.{Played}
use Rattle.running.specs.Apart.{FollowsApart}
use Rattle.running.specs.Threads.{HaltsApart, HasPlayedApart, StartsApart}

-- a list that has at each number what a function has there
by_numbers : {X : Type 0} (f : ℕ → X) (xs : List X) (first : ℕ) → ((i : ℕ) → i < length xs → slice_get xs i ≡ Some (f (first + i))) → xs ≡ map f (range_with_len first (length xs))
by_numbers f [] first each = refl
by_numbers f (x ∷ xs) first each =
    let here : Some x ≡ Some (f (first + 0)) = each 0 (omega arith) in
    let same : x ≡ f (first + 0) = cc in
    let head : x ≡ f first = same ∙ ap f (omega arith) in
    let next = by_numbers f xs (first + 1) (λ i less. each (suc i) (omega (arith, less)) ∙ ap (λ n. Some (f n)) (omega arith)) in
    ap (λ y. y ∷ xs) head ∙ ap (λ l. f first ∷ l) next

none_left : {X : Type 0} (xs : List X) → length xs ≡ 0 → xs ≡ []
none_left [] h = refl
none_left (x ∷ xs) h = cc

module _ {B A W : Type 0} (law : AppLaw A) (saving : Saving W) (sealing : Sealing B) (w : Worlding B A) (stables : List W) (kinds : List ℕ) (steps : List Turn)
    (holds : Holds law sealing w kinds) (fresh : w.journal ≡ []) (pairs : PairsStand saving stables w.controllers)
    (named : AllByRecursion (λ t. IsActor w.setup (turn_actor t)) steps) where
  new_at : (c : ℕ) → c < w.setup.controllers → (x : Controlling A) × (slice_get w.controllers c ≡ Some x) × IsNew law w.setup kinds c x
  new_at c there =
      let m = holds.run.controllers c there in (
        m.member,
        m.stands,
        record {
          keeps = m.keeps;
          setup_is = m.setup;
          me = m.me;
          state = m.state ∙ ap (λ l. controller_state (scene_in sealing w kinds) (results_in w.controllers) c (past l)) fresh;
          unsaved = none_left m.member.results (ap length (sym (results_at w.controllers c m.member m.stands)) ∙ holds.run.legal.saves c there
              ∙ ap (λ l. (controller_at (scene_in sealing w kinds) (results_of (results_in w.controllers) c) c (part (actor.Controller c) (past l))).saves) fresh);
        },
      )

  switches_are : w.switches ≡ starting_switches w.setup
  switches_are =
      by_numbers (λ s. starting_switch s w.setup) w.switches 0 (λ s less.
      let long = holds.run.count in
      holds.run.switches s (omega (arith, less, long)) ∙ ap (λ l. Some (switch_state (scene_in sealing w kinds) s (past l))) fresh
      ∙ ap (λ n. Some (starting_switch n w.setup)) (omega arith))
      ∙ ap (λ n. map (λ s. starting_switch s w.setup) (range_with_len 0 n)) holds.run.count

  enough : w.setup.controllers ≤ length stables
  enough = by_count w.setup.controllers refl
    where
      by_count : (n : ℕ) → w.setup.controllers ≡ n → n ≤ length stables
      by_count zero is = omega arith
      by_count (suc n) is =
          let m = new_at n (omega (arith, is)) in
          let s = pairs n m.0 m.1 in
          let within = slice_get_within stables n s.0 s.1 in omega (arith, within)

  -- a world as it starts is one whose actors may play apart
  pub starts : StartsApart law saving w.setup kinds steps w.controllers w.switches stables
  starts = record {
    is_setup = holds.run.setup;
    few = holds.few;
    members = record { group = holds.run.group; each = new_at };
    others = switches_are;
    enough = enough;
    pairs = pairs;
    named = named;
  }

-- the parts of a world are its own
module _ {B A W : Type 0} (law : AppLaw A) (saving : Saving W) (w : Worlding B A) (stables : List W) (steps : List Turn)
    (setup : Setup) (controllers : List (Controlling A)) (switches : List SwitchState)
    (setup_is : setup ≡ w.setup) (controllers_are : controllers ≡ w.controllers) (switches_are : switches ≡ w.switches) where
  pub starts_with : (kinds : List ℕ) → StartsApart law saving w.setup kinds steps w.controllers w.switches stables → StartsApart law saving setup kinds steps controllers switches stables
  starts_with kinds h = rw (setup_is, controllers_are, switches_are) h

module _ {B G A W : Type 0} (law : AppLaw A) (saving : Saving W) (sealing : Sealing B) (w : Worlding B A) (stables stables_after : List W) (steps : List Turn)
    (setup : Setup) (controllers : List (Controlling A)) (switches : List SwitchState)
    (setup_is : setup ≡ w.setup) (controllers_are : controllers ≡ w.controllers) (switches_are : switches ≡ w.switches) where
  pub halts_with : (kinds : List ℕ) (left : Played B A G) (stop : Stop) → HaltsApart law saving sealing setup kinds steps controllers stables stables_after left stop →
      HaltsApart law saving sealing w.setup kinds steps w.controllers stables stables_after left stop
  halts_with kinds left stop h =
      subst (λ (cs : List (Controlling A)). HaltsApart law saving sealing w.setup kinds steps cs stables stables_after left stop) controllers_are
      (subst (λ (s : Setup). HaltsApart law saving sealing s kinds steps controllers stables stables_after left stop) setup_is h)

  module _ (left : Played B A G) (after : Worlding B A) (is : after ≡ resting_world setup left.wire left.controllers.items left.switches.items) where
    now_is : after ≡ resting_world w.setup left.wire left.controllers.items left.switches.items
    now_is = is ∙ ap (λ (s : Setup). resting_world s left.wire left.controllers.items left.switches.items) setup_is

    played_with : (kinds : List ℕ) → HasPlayedApart law saving sealing setup kinds steps controllers stables stables_after left → HasPlayedApart law saving sealing w.setup kinds steps w.controllers stables stables_after left
    played_with kinds h =
        subst (λ (cs : List (Controlling A)). HasPlayedApart law saving sealing w.setup kinds steps cs stables stables_after left) controllers_are
        (subst (λ (s : Setup). HasPlayedApart law saving sealing s kinds steps controllers stables stables_after left) setup_is h)

    -- a world takes over what threads left
    pub keeps_apart : (some : (kinds : List ℕ) × Holds law sealing w kinds) →
        ((kinds : List ℕ) → Holds law sealing w kinds → HasPlayedApart law saving sealing setup kinds steps controllers stables stables_after left) →
        ((kinds : List ℕ) → IsPlayed law sealing after kinds → Holds law sealing after kinds) → Keeps law saving sealing w stables after stables_after
    keeps_apart some played adopts =
        let first = played_with some.0 (played some.0 some.1) in
        record {
          setup = ap (λ x. x.setup) now_is;
          holds = λ kinds holds. adopts kinds (subst (λ (x : Worlding B A). IsPlayed law sealing x kinds) (sym now_is) (played_with kinds (played kinds holds)).played);
          pairs = subst (λ (x : Worlding B A). PairsStand saving stables_after x.controllers) (sym now_is) first.left_legal.paired.pairs;
          told = subst (λ (x : Worlding B A). AreTold saving stables stables_after w.controllers x.controllers) (sym now_is) first.left_legal.paired.told;
          beyond = first.left_legal.paired.beyond;
        }

    pub follows_apart : (kinds : List ℕ) → HasPlayedApart law saving sealing setup kinds steps controllers stables stables_after left →
        FollowsApart (scene_in sealing w kinds) (results_in after.controllers) steps (past after.journal)
    follows_apart kinds h =
        subst (λ (x : Worlding B A). FollowsApart (scene_in sealing w kinds) (results_in x.controllers) steps (past x.journal)) (sym now_is) (played_with kinds h).follows
