use Rattle.std.specs.Prelude.{◌≡◌, ◌++◌, take}
use Rattle.vr_log.specs.Letters.{letters_in}
use Rattle.group_controller.specs.State.{to_members}
use Rattle.run_spec.specs.States.{controller_message, sealed_letters}
use Rattle.players.proofs.sealing.seal_members.Given as goal

abbrev pub invariant-loop-mail : goal.invariant-loop-mail
invariant-loop-mail g l = l.bag ≡ l.fn.bag ++ sealed_letters controller_message g.B.Body.sealing (to_members (letters_in (take l.mail-index l.mails)))
