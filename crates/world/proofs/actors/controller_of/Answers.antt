use Rattle.std.proofs.Common.{List, ℕ, sym, subst}
use Rattle.group_controller.specs.Turns.{AreAlike}
use Rattle.group_controller.proofs.Controlling.{last_alike, rest_alike}
use Rattle.world.proofs.Shelves.{new_is}
use Rattle.world.proofs.actors.controller_of.Goals as goal

pub new-requires-clause-few : goal.new-requires-clause-few
new-requires-clause-few g c =
    let kinds = c.requires.stocked.0 in
    (last_alike g.A.App.law kinds c.in_ok-shelf.shelf.items c.pop.new.self.items c.pop.result c.in-Some.first
    (c.in_ok-shelf.ensures.alike kinds c.requires.stocked.1.alike) c.pop.ensures.items c.in-Some.is).1

pub new-requires-clause-alike : goal.new-requires-clause-alike
new-requires-clause-alike g c =
    let kinds = c.requires.stocked.0 in
    let alike = c.in_ok-shelf.ensures.alike kinds c.requires.stocked.1.alike in
    let last = last_alike g.A.App.law kinds c.in_ok-shelf.shelf.items c.pop.new.self.items c.pop.result c.in-Some.first alike c.pop.ensures.items c.in-Some.is in
    subst (λ (k : List ℕ). AreAlike g.A.App.law k c.pop.new.self.items) (sym last.0)
    (rest_alike g.A.App.law kinds c.in_ok-shelf.shelf.items c.pop.new.self.items c.pop.result alike c.pop.ensures.items)

pub returns : goal.returns
returns g c = λ kinds stocked.
    let alike = c.in_ok-shelf.ensures.alike kinds stocked.alike in
    let last = last_alike g.A.App.law kinds c.in_ok-shelf.shelf.items c.pop.new.self.items c.pop.result c.in-Some.first alike c.pop.ensures.items c.in-Some.is in
    new_is g.A.App.law c.args.setup.now kinds (g.A.App.law.kinds c.in-Some.first) c.args.number c.new.result last.0 c.new.ensures.controls c.new.ensures.starts
