use Rattle.std.proofs.Common.{◌≡◌, map}
use Rattle.std.specs.List.{range_with_len}
use Rattle.scenario.specs.Generated.{frame_turn}
use Rattle.scenario.proofs.generator.script.Given as goal

abbrev pub invariant-frames : goal.invariant-frames
invariant-frames l = l.steps ≡ map (frame_turn l.number l.switches) (range_with_len 0 l.frame)
