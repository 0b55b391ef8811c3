-- Behind a script whose actors played apart.
use Rattle.std.proofs.Common.{◌≡◌, ◌≤◌, ◌<◌, ℕ, Bool, true, false, List, [], ◌∷◌, ◌++◌, length, refl, sym, ◌∙◌, ap, subst, arith}
use Rattle.std.specs.Prelude.{drop, filter, take}
use Rattle.std.specs.List.{AllByRecursion}
use Rattle.std.proofs.Math.Seq.{take-append_seam}
use Rattle.journal.specs.declared.journal.Actor.{Actor}
use Rattle.journal.specs.declared.journal.Actor.TheVariants as actor
use Rattle.journal.specs.declared.journal.JournalEntry.{JournalEntry}
use Rattle.journal.specs.declared.journal.JournalEntry.TheVariants.{Post, Draw, Lose, Local, Idle, Refused}
use Rattle.journal.specs.declared.journal.SaveResult.{SaveResult}
use Rattle.journal.specs.declared.journal.Turn.{Turn}
use Rattle.journal.specs.Actors.{actor_of, same_actor, IsActor}
use Rattle.journal.specs.Part.{part}
use Rattle.journal.specs.Pool.{past}
use Rattle.journal.specs.Turns.{turn_actor}
use Rattle.run_laws.specs.Laws.{EntrySuspectsUpTo, IsSuspectedUpTo}
use Rattle.run_spec.specs.Legal.{IsLegalPast, results_of}
use Rattle.run_spec.specs.Script.{owed_of}
use Rattle.run_spec.specs.Closing.{majority}
use Rattle.run_spec.specs.States.{Scene, Sealing, ControllerAt, controller_at, controller_message, sealed_letters}
use Rattle.run_spec.proofs.Saves.{same_results}
use Rattle.app_core.specs.Law.{AppLaw}
use Rattle.of_types.specs.declared.setup.Setup.{Setup}
use Rattle.journal.specs.declared.wire.Stop.{Stop}
use Rattle.journal.specs.declared.wire.Stop.TheVariants.{OutOfMemory, JournalFull}
use Rattle.journal.specs.Stables.{Saving}
use Rattle.world.specs.World.{AreMore, Holds, Keeps, Worlding, results_in, scene_in}
use Rattle.closing.specs.declared.closed.ClosingOutcome.{ClosingOutcome}
use Rattle.closing.specs.declared.closed.ClosingOutcome.TheVariants as closed
use Rattle.closing.specs.Closing.{HasMajority, up_in}
use Rattle.running.specs.declared.run.Played.{Played}
use Rattle.running.specs.Apart.{FollowsApart, In_the_script, IsStepAt, TakesOwn, inputs_of, steps_of}
use Rattle.running.specs.Threads.{HaltsApart}
use Rattle.closing.specs.Views.{StepSuspectsUpTo}
use Rattle.closing.proofs.Leading.{step_suspects}
use Rattle.playing.specs.Manners.{Apart}
use Rattle.playing.specs.Played.{HaltsAs, HasFollowed}
use Rattle.playing.proofs.Stopping.{all_found, same_self}

-- ---- whatever becomes of later saves

module _ {B : Type 0} (scene : Scene B) (results later : List (List SaveResult)) (steps : List Turn) (script : List (JournalEntry B))
    (legal : IsLegalPast scene results script) (more : AreMore scene.setup.controllers results later) where
  owes_still : (a : Actor) → IsActor scene.setup a → owed_of scene later a script ≡ owed_of scene results a script
  owes_still (actor.Switch s) there = refl
  owes_still (actor.Controller c) there =
      let m = more c there in
      let counted = legal.saves c there in
      let few : (controller_at scene (results_of results c) c (part (actor.Controller c) script)).saves ≤ length (results_of results c) = omega (arith, counted) in
      ap (λ (w : ControllerAt). sealed_letters controller_message scene.sealing w.owed)
      (ap (λ rs. controller_at scene rs c (part (actor.Controller c) script)) m.1 ∙ sym (same_results scene (results_of results c) m.0 c (part (actor.Controller c) script) few))

  pub follows_still : FollowsApart scene results steps script → FollowsApart scene later steps script
  follows_still follows a there = let f = follows a there in record { takes = f.takes; all = f.all; posted = owes_still a there ∙ f.posted }

-- ---- which views were suspected

-- what holds of all steps holds of those of one actor
all_kept : {X : Type 0} (P : X → Type 0) (p : X → Bool) (xs : List X) → AllByRecursion P xs → AllByRecursion P (filter p xs)
all_kept P p [] all = tt
all_kept P p (x ∷ xs) all = by_test (p x) refl (all_kept P p xs all.1)
  where
    by_test : (b : Bool) → p x ≡ b → AllByRecursion P (filter p xs) → AllByRecursion P (filter p (x ∷ xs))
    by_test true is rest = rw is (all.0, rest)
    by_test false is rest = rw is rest

module _ {B : Type 0} (limit : ℕ) where
  module _ (scene : Scene B) (results : List (List SaveResult)) (steps : List Turn) (within : AllByRecursion (λ t. StepSuspectsUpTo limit t) steps) where
    entry_suspects : (a : Actor) (e : JournalEntry B) (before : List (JournalEntry B)) → IsStepAt (steps_of a steps) (inputs_of a before) e before → EntrySuspectsUpTo limit e
    entry_suspects a (Post b first letters lost) before is = tt
    entry_suspects a (Refused b) before is = absurd is
    entry_suspects a (Draw b id keep) before is = tt
    entry_suspects a (Lose b id) before is = tt
    entry_suspects a (Idle b) before is = tt
    entry_suspects a (Local b input) before is =
        let mine = all_kept (λ t. StepSuspectsUpTo limit t) (λ t. same_actor (turn_actor t) a) steps within in
        let found = all_found (λ t. StepSuspectsUpTo limit t) (steps_of a steps) (inputs_of a before) is.0 mine is.1 in
        subst (λ x. EntrySuspectsUpTo limit x) (sym is.2) (step_suspects limit is.0 before found)

    each_suspects : (script : List (JournalEntry B)) → AllByRecursion (λ e. IsActor scene.setup (actor_of e)) script →
        ((a : Actor) → IsActor scene.setup a → TakesOwn a steps script) → IsSuspectedUpTo limit script
    each_suspects [] named takes = tt
    each_suspects (e ∷ before) named takes = (
      entry_suspects (actor_of e) e before ((takes (actor_of e) named.0).0 (same_self (actor_of e))),
      each_suspects before named.1 (λ a there. (takes a there).1),
    )

    pub suspects_apart : (script : List (JournalEntry B)) → IsLegalPast scene results script → FollowsApart scene results steps script → IsSuspectedUpTo limit script
    suspects_apart script legal follows = each_suspects script legal.possible.named (λ a there. (follows a there).takes)

-- ---- a world that threads have left

-- a list is what was written back over one of its length
pub written : {X : Type 0} (n : ℕ) (xs ys : List X) → n ≡ length ys → length xs ≡ length ys → take n (xs ++ drop (length xs) ys) ≡ xs
written n xs ys all long = ap (λ m. take m (xs ++ drop (length xs) ys)) (all ∙ sym long) ∙ take-append_seam xs (drop (length xs) ys)

-- why threads stopped is why the run was cut short
pub thread_halts : {B G A W : Type 0} (law : AppLaw A) (saving : Saving W) (sealing : Sealing B) (steps : List Turn) (kinds : List ℕ) (first : Worlding B A) (stables stables_after : List W) (left : Played B A G) (stop : Stop) →
    HaltsApart law saving sealing first.setup kinds steps first.controllers stables stables_after left stop → HaltsAs law saving sealing steps kinds first stables stables_after left stop
thread_halts law saving sealing steps kinds first stables stables_after left OutOfMemory h = h
thread_halts law saving sealing steps kinds first stables stables_after left (JournalFull bytes letters) h = (h.0, In_the_script h.1)

-- a majority of the group that began
pub majority_then : {B A : Type 0} (first now last : Worlding B A) (ended : ClosingOutcome) → now.setup ≡ first.setup → HasMajority ended now last → HasMajority ended first last
majority_then first now last (closed.Done primary) same m =
    (subst (λ (s : Setup). primary < s.controllers) same m.0, subst (λ (s : Setup). majority s.controllers ≤ length (up_in last)) same m.1)
majority_then first now last (closed.NoQuorum up needed) same m = tt
majority_then first now last (closed.Overfull limit) same m = tt

module _ {B A W : Type 0} (law : AppLaw A) (saving : Saving W) (sealing : Sealing B) (steps : List Turn) (first : Worlding B A) (stables : List W) (now : Worlding B A) (stables_now : List W)
    (keeps : Keeps law saving sealing first stables now stables_now) (kinds : List ℕ) (holds : Holds law sealing first kinds)
    (follows : FollowsApart (scene_in sealing first kinds) (results_in now.controllers) steps (past now.journal)) where
  legal_now : IsLegalPast (scene_in sealing first kinds) (results_in now.controllers) (past now.journal)
  legal_now = subst (λ (s : Setup). IsLegalPast (record { setup = s; kinds = kinds; sealing = sealing }) (results_in now.controllers) (past now.journal)) keeps.setup (keeps.holds kinds holds).run.legal

  pub followed : HasFollowed Apart (scene_in sealing first kinds) steps now
  followed later more =
      follows_still (scene_in sealing first kinds) (results_in now.controllers) later steps (past now.journal) legal_now
      (subst (λ (s : Setup). AreMore s.controllers (results_in now.controllers) later) keeps.setup more) follows

  pub suspected : (limit : ℕ) → AllByRecursion (λ t. StepSuspectsUpTo limit t) steps → IsSuspectedUpTo limit (past now.journal)
  suspected limit within = suspects_apart limit (scene_in sealing first kinds) (results_in now.controllers) steps within (past now.journal) legal_now follows
