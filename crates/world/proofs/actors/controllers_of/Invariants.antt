use Rattle.std.proofs.Common.{◌≡◌, ℕ, ◌+◌, List, length}
use Rattle.world.specs.World.{AreNew, AreStocked}
use Rattle.world.proofs.actors.controllers_of.Given as goal

abbrev pub invariant-loop-lives : goal.invariant-loop-lives
invariant-loop-lives g l = record {
  new : (kinds : List ℕ) → AreStocked g.A.App.law kinds l.fn.shelves.items →
      AreNew g.A.App.law l.fn.setup kinds l.number l.controllers.items
      × AreStocked g.A.App.law kinds l.lives-iterator.rest.items;
  left : l.number + length l.lives-iterator.rest.items ≡ l.fn.setup.controllers;
}
