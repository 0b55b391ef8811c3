use Rattle.std.proofs.Common.{◌≡◌, drop}
use Rattle.std.specs.Prelude.{max}
use Rattle.run_spec.specs.Closing.{bound_of}
use Rattle.closing.specs.Closing.{states_in}
use Rattle.closing.proofs.quorum.bound_of.Given as goal

abbrev pub invariant-bounding : goal.invariant-bounding
invariant-bounding g l = max l.bound (bound_of (drop l.number (states_in l.world.controllers))) ≡ bound_of (states_in l.world.controllers)
