use Rattle.std.proofs.Common.{ℕ, List, length}
use Rattle.std.specs.List.{AllByRecursion}
use Rattle.group_controller.specs.Turns.{AreAlike}
use Rattle.world.specs.World.{IsStocked}
use Rattle.top_call.specs.Play.{AreChains}
use Rattle.top_call.proofs.Shelving.{IsFilled}
use Rattle.top_call.proofs.shelves.shelves_of.Given as goal

abbrev pub invariant-shelving : goal.invariant-shelving
invariant-shelving g l = record {
  filled : IsFilled l.controllers (length l.shelves.items) (length l.shelf.items) (length l.chain-iterator.rest.items);
  alike : (kinds : List ℕ) → AreChains g.A.App.law kinds l.fn.chains.items →
      AllByRecursion (λ shelf. IsStocked g.A.App.law kinds shelf.items) l.shelves.items
      × AreAlike g.A.App.law kinds l.shelf.items × AreAlike g.A.App.law kinds l.chain-iterator.rest.items;
}
