use Rattle.std.proofs.Common.{◌≡◌, ◌∷◌, [], length}
use Rattle.app_core.specs.Chain.{learning}
use Rattle.world.specs.World.{AreStocked}
use Rattle.run_cases.specs.contracts.wanting.WantingApp.TheImpl.{ghosts}
use Rattle.run_cases.proofs.wanting.shelves_of.Given as goal

abbrev pub invariant-controllers : goal.invariant-controllers
invariant-controllers l = record {
  count : length l.shelves.items ≡ l.number;
  stocked : AreStocked ghosts.law (learning ∷ []) l.shelves.items;
}
