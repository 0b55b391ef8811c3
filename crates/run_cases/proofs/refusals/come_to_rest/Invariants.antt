use Rattle.std.proofs.Common.{ℕ, List}
use Rattle.world.specs.World.{Holds, PairsStand}
use Rattle.run_cases.proofs.refusals.come_to_rest.Given as goal

abbrev pub invariant-attempts : goal.invariant-attempts
invariant-attempts g l = record {
  holds : (kinds : List ℕ) × Holds g.A.App.law g.B.Body.sealing l.world kinds;
  pairs : PairsStand g.W.Stable.saving l.stables l.world.controllers;
}
