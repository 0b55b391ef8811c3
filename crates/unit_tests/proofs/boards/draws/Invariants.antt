use Rattle.shared_wire.specs.Places.{IsSamePlace}
use Rattle.unit_tests.proofs.boards.draws.Given as goal

abbrev pub invariant-loop : goal.invariant-loop
invariant-loop g l = IsSamePlace l.initial.place l.place
