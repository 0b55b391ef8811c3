-- What a turn of a controller asks of a world that holds.
use Rattle.std.proofs.Common.{◌<◌, ℕ, List, length, sym, ◌∙◌, ap, subst}
use Rattle.std.proofs.lemmas.Option.{slice_get_within}
use Rattle.journal.specs.Stables.{Saving}
use Rattle.app_core.specs.Law.{AppLaw}
use Rattle.group_controller.specs.Turns.{Controls}
use Rattle.run_spec.specs.States.{Sealing}
use Rattle.run_spec.proofs.Pasts.{from_some}
use Rattle.world.specs.Actors.{IsServed}
use Rattle.world.specs.World.{Holds, PairsStand, Worlding}

module _ {B A W : Type 0} (law : AppLaw A) (saving : Saving W) (sealing : Sealing B) (w : Worlding B A) (stables : List W)
    (some : (kinds : List ℕ) × Holds law sealing w kinds) (stand : PairsStand saving stables w.controllers) (c : ℕ) (there : c < w.setup.controllers) where
  -- the controller of a number, and its stable pair
  pub controller_there : c < length w.controllers
  controller_there = let m = some.1.run.controllers c there in slice_get_within w.controllers c m.member m.stands

  pub stable_there : c < length stables
  stable_there = let m = some.1.run.controllers c there in let s = stand c m.member m.stands in slice_get_within stables c s.0 s.1

  pub served : IsServed law saving w.controllers stables c
  served = let m = some.1.run.controllers c there in record {
    kept = λ x found. (some.0, subst (λ y. Controls law y some.0) (from_some m.member x (sym m.stands ∙ found)) m.keeps);
    stands = λ x stable found stood.
        let s = stand c x found in
        ap saving.pair (from_some stable s.0 (sym stood ∙ s.1)) ∙ s.2;
  }
