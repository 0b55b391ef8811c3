use Rattle.std.proofs.Common.{◌≡◌, map}
use Rattle.std.specs.List.{range_with_len}
use Rattle.of_switch.specs.State.{starting_switch}
use Rattle.world.proofs.actors.switches_of.Given as goal

abbrev pub invariant-loop-number : goal.invariant-loop-number
invariant-loop-number l = l.switches.items ≡ map (λ s. starting_switch s l.setup) (range_with_len 0 l.number)
