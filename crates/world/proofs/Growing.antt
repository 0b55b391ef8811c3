-- A legal past with results of later saves.
use Rattle.std.proofs.Common.{◌≡◌, ◌≤◌, ◌<◌, ℕ, List, [], ◌++◌, length, sym, ◌∙◌, ap, subst, arith, append_assoc, append-nil}
use Rattle.journal.specs.declared.journal.Actor.TheVariants as actor
use Rattle.journal.specs.declared.journal.JournalEntry.{JournalEntry}
use Rattle.journal.specs.declared.journal.SaveResult.{SaveResult}
use Rattle.journal.specs.Part.{part}
use Rattle.run_spec.specs.States.{Scene, controller_at}
use Rattle.run_spec.specs.Legal.{IsSoundController, IsPossible, IsLegalPast, results_of}
use Rattle.run_spec.proofs.Saves.{same_results, sound_with_more}
use Rattle.world.specs.World.{AreMore}
use Rattle.world.proofs.Finding.{each_finds}

module _ {B : Type 0} (scene : Scene B) (old new : List (List SaveResult)) (entries : List (JournalEntry B)) (legal : IsLegalPast scene old entries) (are : AreMore scene.setup.controllers old new) where
  few : (c : ℕ) → c < scene.setup.controllers → (controller_at scene (results_of old c) c (part (actor.Controller c) entries)).saves ≤ length (results_of old c)
  few c there = let counted = legal.saves c there in omega (arith, counted)

  -- its controllers are what they were
  pub same_at : (c : ℕ) → c < scene.setup.controllers →
      controller_at scene (results_of old c) c (part (actor.Controller c) entries) ≡ controller_at scene (results_of new c) c (part (actor.Controller c) entries)
  same_at c there =
      let m = are c there in
      same_results scene (results_of old c) m.0 c (part (actor.Controller c) entries) (few c there) ∙
      ap (λ (rs : List SaveResult). controller_at scene rs c (part (actor.Controller c) entries)) (sym m.1)

  -- it is possible
  pub possible_with_more : IsPossible scene new entries
  possible_with_more =
      let p = legal.possible in
      record {
        named = p.named;
        fits = p.fits;
        orderly = p.orderly;
        switches = p.switches;
        controllers = λ c there.
            let m = are c there in
            subst (λ (rs : List SaveResult). IsSoundController scene rs c (part (actor.Controller c) entries)) (sym m.1)
            (sound_with_more scene (results_of old c) m.0 c (part (actor.Controller c) entries)
            (each_finds scene (results_of old c) m.0 (actor.Controller c) entries p.orderly) (few c there) (p.controllers c there));
      }

-- results of saves, and of more, and of more
pub more_then : (group : ℕ) (first middle last : List (List SaveResult)) → AreMore group first middle → AreMore group middle last → AreMore group first last
more_then group first middle last a b c there =
    let x = a c there in
    let y = b c there in
    (x.0 ++ y.0, y.1 ∙ ap (λ (l : List SaveResult). l ++ y.0) x.1 ∙ append_assoc (results_of first c) x.0 y.0)

pub no_more : (group : ℕ) (results : List (List SaveResult)) → AreMore group results results
no_more group results c there = ([], sym (append-nil (results_of results c)))
