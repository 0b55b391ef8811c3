use Rattle.std.proofs.Common.{◌<◌, ◌∷◌, [], length}
use Rattle.app_core.specs.Chain.{learning}
use Rattle.group_controller.specs.Turns.{AreAlike}
use Rattle.run_cases.specs.contracts.wanting.WantingApp.TheImpl.{ghosts}
use Rattle.run_cases.proofs.wanting.shelf_of.Given as goal

abbrev pub invariant-lives : goal.invariant-lives
invariant-lives l = record {
  some : 0 < length l.shelf.items;
  alike : AreAlike ghosts.law (learning ∷ []) l.shelf.items;
}
