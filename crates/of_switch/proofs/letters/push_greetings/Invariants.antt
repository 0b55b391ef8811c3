use Rattle.std.proofs.Common.{◌≡◌, ◌++◌}
use Rattle.std.specs.Prelude.{map}
use Rattle.std.specs.List.{range_with_len}
use Rattle.of_types.specs.declared.message.OfMessage.TheVariants as plain
use Rattle.of_types.specs.declared.message.Spoken.TheVariants as spoken
use Rattle.of_switch.specs.State.{to_controller}
use Rattle.of_switch.proofs.letters.push_greetings.Given as goal

abbrev pub invariant-loop-controller : goal.invariant-loop-controller
invariant-loop-controller l =
    l.letters.items ≡ l.fn.letters.items ++ map (λ c. to_controller c 0 (spoken.Plain plain.Hello)) (range_with_len 0 l.controller)
