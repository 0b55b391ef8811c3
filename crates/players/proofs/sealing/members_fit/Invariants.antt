use Rattle.std.specs.Prelude.{take}
use Rattle.vr_log.specs.Letters.{letters_in}
use Rattle.group_controller.specs.State.{to_members}
use Rattle.run_spec.specs.Legal.{AreTyped}
use Rattle.run_spec.specs.States.{controller_message}
use Rattle.players.proofs.sealing.members_fit.Given as goal

abbrev pub invariant-loop-mail : goal.invariant-loop-mail
invariant-loop-mail l = AreTyped controller_message (to_members (letters_in (take l.mail-index l.mails)))
