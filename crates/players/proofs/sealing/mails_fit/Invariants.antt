use Rattle.std.specs.Prelude.{take}
use Rattle.group_controller.specs.Mails.{mailed}
use Rattle.run_spec.specs.Legal.{AreTyped}
use Rattle.run_spec.specs.States.{controller_message}
use Rattle.players.proofs.sealing.mails_fit.Given as goal

abbrev pub invariant-loop-mail : goal.invariant-loop-mail
invariant-loop-mail l = AreTyped controller_message (mailed (take l.mail-index l.mails))
