use Rattle.std.proofs.Common.{rules}
use Rattle.running.specs.Runs.{controller_of, stable_of}
use Rattle.running.proofs.Stops.{map_next}
use Rattle.running.proofs.leaving.part.Goals as goal

pub loop-one-preserved : goal.loop-one-preserved
loop-one-preserved g c = record {
  controllers = map_next controller_of c.push_reserved.new.self.items c.loop-one.controllers.items c.args.controllers.now.items c.loop-one.yielded c.in-Some.one c.push_reserved.ensures.items c.loop-one.invariant.controllers;
  stables = map_next stable_of c.push_reserved-in-loop-one.new.self.items c.loop-one.stables.items c.args.stables.now.items c.loop-one.yielded c.in-Some.one c.push_reserved-in-loop-one.ensures.items c.loop-one.invariant.stables;
  capacity = search rules;
  capacity2 = search rules;
}
