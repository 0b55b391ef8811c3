use Rattle.std.proofs.Common.{◌≡◌, ℕ, ◌+◌, List, length}
use Rattle.group_controller.specs.Turns.{AreAlike}
use Rattle.world.proofs.actors.shelf_of.Given as goal

abbrev pub invariant-lives : goal.invariant-lives
invariant-lives g l = record {
  alike : (kinds : List ℕ) → AreAlike g.A.App.law kinds l.fn.lives.items → AreAlike g.A.App.law kinds l.lives.items × AreAlike g.A.App.law kinds l.shelf.items;
  long : length l.shelf.items + length l.lives.items ≡ length l.fn.lives.items;
}

abbrev pub decreases-lives : goal.decreases-lives
decreases-lives g l = length l.lives.items
