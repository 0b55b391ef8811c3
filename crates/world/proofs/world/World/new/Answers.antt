use Rattle.std.proofs.Common.{◌<◌, refl, subst, sym}
use Rattle.world.proofs.Starts.{few_given, some_controller, starts_pairs, world_holds}
use Rattle.world.proofs.world.World.new.Goals as goal

pub returns-clause-starts : goal.returns-clause-starts
returns-clause-starts g c = record {
  setup_is = c.in_ok-copy.ensures;
  journal = c.in_ok-with_room.ensures;
  rests = refl;
  pairs = starts_pairs g.A.App.law c.args.setup.now c.requires.stocked.0 c.args.setup.now.controllers c.in_ok-controllers.controllers.items (c.in_ok-controllers.ensures c.requires.stocked.0 c.requires.stocked.1);
}

pub returns-clause-holds : goal.returns-clause-holds
returns-clause-holds g c = λ kinds stocked.
    let some = subst (λ n. 0 < n) (sym c.requires.each) (some_controller c.args.setup.now.controllers c.requires.setup.group) in
    world_holds g.A.App.law g.B.Body.sealing kinds _ c.args.setup.now c.in_ok-copy.ensures c.in_ok-with_room.ensures refl (few_given g.A.App.law kinds c.args.shelves.items some stocked)
    c.requires.setup (c.in_ok-controllers.ensures kinds stocked) c.in_ok-switches.ensures
