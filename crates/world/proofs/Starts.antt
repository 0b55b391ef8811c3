-- The invariant holds of a world as it starts.
use Rattle.std.proofs.Common.{◌≡◌, ◌<◌, ℕ, ◌≤◌, List, [], ◌∷◌, length, refl, sym, ◌∙◌, ap, subst, arith, zero, suc, ◌+◌}
use Rattle.std.specs.Prelude.{Contains, slice_get, map, Some, None, Vec}
use Rattle.std.specs.List.{range_with_len}
use Rattle.std.proofs.lemmas.Option.{slice_get_within}
use Rattle.of_types.specs.declared.setup.Setup.{Setup}
use Rattle.of_types.specs.Setups.{IsSetup}
use Rattle.journal.specs.declared.journal.JournalEntry.{JournalEntry}
use Rattle.journal.specs.Pool.{past}
use Rattle.of_switch.specs.State.{starting_switch}
use Rattle.app_core.specs.Chain.{given_by}
use Rattle.app_core.specs.Law.{AppLaw}
use Rattle.dispatcher.specs.Ledger.{most_commands}
use Rattle.group_controller.specs.Turns.{AreAlike, Controlling, pair_in, state_of}
use Rattle.run_spec.specs.States.{Scene, Sealing}
use Rattle.run_spec.proofs.Pasts.{from_some}
use Rattle.world.specs.World.{AreNew, AreStocked, Holds, HoldsAt, Worlding, results_in, scene_in}
use Rattle.world.proofs.Places.{results_at}

-- a list by numbers, at a number
pub mapped_at : {X : Type 0} (f : ℕ → X) (first count i : ℕ) → i < count → slice_get (map f (range_with_len first count)) i ≡ Some (f (first + i))
mapped_at f first zero i less = absurd (omega (arith, less))
mapped_at f first (suc count) zero less = ap (λ n. Some (f n)) (omega arith)
mapped_at f first (suc count) (suc i) less = let next : first + 1 + i ≡ first + suc i = omega arith in mapped_at f (first + 1) count i (omega (arith, less)) ∙ ap (λ n. Some (f n)) next

pub mapped_length : {X : Type 0} (f : ℕ → X) (first count : ℕ) → length (map f (range_with_len first count)) ≡ count
mapped_length f first zero = refl
mapped_length f first (suc count) = ap suc (mapped_length f (first + 1) count)

plus_none : (s : ℕ) → 0 + s ≡ s
plus_none s = omega arith

pub world_starts : {B A : Type 0} (law : AppLaw A) (scene : Scene B) (w : Worlding B A) → IsSetup scene.setup → w.owed ≡ None →
    AreNew law scene.setup scene.kinds scene.setup.controllers w.controllers →
    w.switches ≡ map (λ s. starting_switch s scene.setup) (range_with_len 0 (length scene.setup.ports)) →
    HoldsAt law scene (results_in w.controllers) [] w
world_starts law scene w setup rests members switches = record {
  setup = setup;
  legal = record {
    possible = record { named = tt; fits = tt; orderly = tt; switches = λ s within. tt; controllers = λ c within. tt };
    saves = λ c within. let m = members.each c within in ap length (results_at w.controllers c m.0 m.1 ∙ m.2.unsaved);
  };
  group = members.group;
  count = ap length switches ∙ mapped_length (λ s. starting_switch s scene.setup) 0 (length scene.setup.ports);
  controllers = λ c within.
      let m = members.each c within in
      record { member = m.0; stands = m.1; keeps = m.2.keeps; setup = m.2.setup_is; me = m.2.me; state = m.2.state };
  switches = λ s within. ap (λ l. slice_get l s) switches ∙ mapped_at (λ s. starting_switch s scene.setup) 0 (length scene.setup.ports) s within ∙ ap (λ n. Some (starting_switch n scene.setup)) (plus_none s);
  controller_debts = λ c within. rw rests (record { sealed = refl; typed = tt });
  switch_debts = λ s within. rw rests (record { sealed = refl; typed = tt });
  debtor = rw rests tt;
}

-- no view is promised, and each is in its first life
pub starts_pairs : {A : Type 0} (law : AppLaw A) (setup : Setup) (kinds : List ℕ) (count : ℕ) (controllers : List (Controlling A)) → AreNew law setup kinds count controllers →
    (c : ℕ) (x : Controlling A) → slice_get controllers c ≡ Some x → pair_in (state_of x) ≡ (0, 0)
starts_pairs law setup kinds count controllers news c x found =
    let within = slice_get_within controllers c x found in
    let group = news.group in
    let n = news.each c (omega (arith, within, group)) in
    ap (λ s. pair_in s) (ap state_of (from_some x n.0 (sym found ∙ n.1)) ∙ n.2.state)

-- a group has a controller
pub some_controller : (n : ℕ) → Contains (1 ∷ 3 ∷ 5 ∷ 7 ∷ []) n → 0 < n
some_controller n (zero, below, is) = omega (arith, is)
some_controller n (suc zero, below, is) = omega (arith, is)
some_controller n (suc (suc zero), below, is) = omega (arith, is)
some_controller n (suc (suc (suc zero)), below, is) = omega (arith, is)
some_controller n (suc (suc (suc (suc k))), below, is) = absurd (omega (arith, below))

-- the applications of a group that starts give no more commands for an event than a ledger holds: its first controller has one
pub few_given : {A G : Type 0} (law : AppLaw A) (kinds : List ℕ) (shelves : List (Vec A G)) → 0 < length shelves → AreStocked law kinds shelves → given_by kinds ≤ most_commands
few_given law kinds [] some stocked = absurd (omega (arith, some))
few_given law kinds (shelf ∷ shelves) some stocked = of_shelf shelf.items stocked.0.some stocked.0.alike
  where
    of_shelf : (apps : List _) → 0 < length apps → AreAlike law kinds apps → given_by kinds ≤ most_commands
    of_shelf [] some alike = absurd (omega (arith, some))
    of_shelf (app ∷ apps) some alike = subst (λ (k : List ℕ). given_by k ≤ most_commands) alike.0.0 alike.0.1

-- the world holds, where it is of this setup
pub world_holds : {B A : Type 0} (law : AppLaw A) (sealing : Sealing B) (kinds : List ℕ) (w : Worlding B A) (setup : Setup) → w.setup ≡ setup → w.journal ≡ [] → w.owed ≡ None → given_by kinds ≤ most_commands →
    IsSetup setup → AreNew law setup kinds setup.controllers w.controllers → w.switches ≡ map (λ s. starting_switch s setup) (range_with_len 0 (length setup.ports)) → Holds law sealing w kinds
world_holds law sealing kinds w setup setup_is journal rests few is news switches =
    let scene = scene_in sealing w kinds in
    record {
      run = subst (λ (l : List (JournalEntry _)). HoldsAt law scene (results_in w.controllers) l w) (sym (ap (λ l. past l) journal))
          (world_starts law scene w (subst (λ s. IsSetup s) (sym setup_is) is) rests (subst (λ s. AreNew law s kinds s.controllers w.controllers) (sym setup_is) news)
          (subst (λ s. w.switches ≡ map (λ n. starting_switch n s) (range_with_len 0 (length s.ports))) (sym setup_is) switches));
      few = few;
    }
