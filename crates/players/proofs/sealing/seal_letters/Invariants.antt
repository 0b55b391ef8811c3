use Rattle.std.specs.Prelude.{◌≡◌, ◌++◌, take}
use Rattle.run_spec.specs.States.{sealed_letters, switch_message}
use Rattle.players.proofs.sealing.seal_letters.Given as goal

abbrev pub invariant-loop-letter : goal.invariant-loop-letter
invariant-loop-letter g l = l.bag ≡ l.fn.bag ++ sealed_letters switch_message g.B.Body.sealing (take l.letter-index l.letters)
