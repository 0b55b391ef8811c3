use Rattle.std.specs.Prelude.{take}
use Rattle.run_spec.specs.Legal.{AreTyped}
use Rattle.run_spec.specs.States.{switch_message}
use Rattle.players.proofs.sealing.letters_fit.Given as goal

abbrev pub invariant-loop-letter : goal.invariant-loop-letter
invariant-loop-letter l = AreTyped switch_message (take l.letter-index l.letters)
