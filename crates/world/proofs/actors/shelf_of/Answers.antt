use Rattle.std.proofs.Common.{◌∷◌, [], List, sym, subst}
use Rattle.journal.proofs.All.{all_append}
use Rattle.group_controller.specs.Turns.{AreAlike}
use Rattle.group_controller.proofs.Controlling.{last_alike, rest_alike}
use Rattle.world.proofs.Shelves.{moved_long}
use Rattle.world.proofs.actors.shelf_of.Goals as goal

pub lives-preserved : goal.lives-preserved
lives-preserved g c = record {
  alike = λ kinds given.
      let h = c.lives.invariant.alike kinds given in
      let last = last_alike g.A.App.law kinds c.lives.lives.items c.pop.new.self.items c.pop.result c.in-Some.life h.0 c.pop.ensures.items c.in-Some.is in
      let rest = rest_alike g.A.App.law kinds c.lives.lives.items c.pop.new.self.items c.pop.result h.0 c.pop.ensures.items in
      (rest, subst (λ (l : List _). AreAlike g.A.App.law kinds l) (sym c.in_ok-push.ensures.items) (all_append _ c.lives.shelf.items (c.in-Some.life ∷ []) h.1 (last, tt)));
  long = moved_long c.lives.lives.items c.pop.new.self.items c.pop.result c.in-Some.life c.lives.shelf.items c.push.new.self.items _ c.pop.ensures.items c.in-Some.is c.in_ok-push.ensures.items c.lives.invariant.long;
}

pub returns-clause-alike : goal.returns-clause-alike
returns-clause-alike g c = λ kinds given. (c.lives.invariant.alike kinds given).1
