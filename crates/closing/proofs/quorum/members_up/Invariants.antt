use Rattle.std.proofs.Common.{◌≡◌, ◌++◌, drop}
use Rattle.run_spec.specs.Committed.{members_up}
use Rattle.closing.specs.Closing.{states_in, up_in}
use Rattle.closing.proofs.quorum.members_up.Given as goal

abbrev pub invariant-counting : goal.invariant-counting
invariant-counting g l = l.up.items ++ members_up (drop l.number (states_in l.world.controllers)) ≡ up_in l.world
